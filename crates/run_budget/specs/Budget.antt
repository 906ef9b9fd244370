-- The units of a work call as a machine, and what the call answers. Definitions only.
use Rattle.std.specs.Prelude.{Bool, false, cond, not, ℕ, ◌+◌, ltb, Result, Ok, Err}
use Rattle.run_calls.specs.Machine.{Kind, faulty, over, refused, running, Machine, Called}
use Rattle.run_record.specs.declared.Run.{Run}
use Rattle.run_record.specs.declared.Standing.{Standing}
use Rattle.run_record.specs.declared.Standing.TheVariants.{Running as Runs, Stopped as Stops, Finished as Ends}
use Rattle.run_record.specs.Record.{is_ended}
use Rattle.run_entry.specs.State.{State}
use Rattle.run_entry.specs.Entry.{is_fine, by_tests, fault_of}
use Rattle.run_finish.specs.Finish.{Why, why_of, run_left}
use Rattle.run_finish.specs.declared.Halt.{Halt}
use Rattle.run_finish.specs.declared.Halt.TheVariants.{Full as NoNodes, Wild as TooLarge, Over}
use Rattle.run_units.specs.Units.{unit, is_done}
use Rattle.run_budget.specs.declared.Going.{Going}
use Rattle.run_budget.specs.declared.Worked.{Worked as Left}
use Rattle.run_budget.specs.declared.Answer.{Answer}
use Rattle.run_budget.specs.declared.Answer.TheVariants.{Running, Stopped, Finished, Full, Wild, Bad}

-- ---- the machine: a call tests the state, then does units

abbrev pub machine : Machine State
machine = record {
  bad = λ s. not (is_fine (fault_of s));
  ended = λ s. is_ended s.run.standing;
  ok = λ s. is_done (unit s).why;
  next = λ s. (unit s).now;
}

-- ---- what a call answers, with d units done in it

-- how the run stands
abbrev pub stands_of : Standing → ℕ → Answer
stands_of Runs d = Running d
stands_of Stops d = Stopped d
stands_of Ends d = Finished d

-- why the next unit was refused
abbrev pub refused_of : Why → ℕ → Answer
refused_of (Ok tt) d = Running d
refused_of (Err NoNodes) d = Full d
refused_of (Err TooLarge) d = Wild d
refused_of (Err Over) d = Running d

-- where a unit was not done: the run has ended, or the unit was refused
unfoldable pub halted_of : Standing → Why → ℕ → Answer
halted_of s w d = cond (is_ended s) (stands_of s d) (refused_of w d)

unfoldable pub answer_of : Kind → State → ℕ → Answer
answer_of faulty s d = by_tests (fault_of s) (Running d) Bad
answer_of over s d = stands_of s.run.standing d
answer_of refused s d = refused_of (unit s).why d
answer_of running s d = Running d

-- ---- a work call: its answer, and the record and areas that it leaves

pub record Worked : Type 0 where
  pub answer : Answer
  pub left : State

abbrev pub worked : Answer → State → Worked
worked a s = record { answer = a; left = s }

abbrev pub told : Called State → Worked
told k = worked (answer_of k.kind k.state k.units) k.state

-- ---- a call as it goes, by value

abbrev pub started_of : Run → Going
started_of r = record { run = r; why = Ok tt; k = 0 }

-- the last unit was done, and there is more of the budget
unfoldable pub spends_on : Going → ℕ → Bool
spends_on g b = cond (is_done g.why) (ltb g.k b) false

-- a unit that was done is counted
unfoldable pub counted_on : Going → Result Run Halt → Going
counted_on g t = record { run = run_left g.run t; why = why_of t; k = cond (is_done (why_of t)) (g.k + 1) g.k }

unfoldable pub ended_of : Going → Left
ended_of g = record { run = g.run; answer = cond (is_done g.why) (stands_of g.run.standing g.k) (halted_of g.run.standing g.why g.k) }
