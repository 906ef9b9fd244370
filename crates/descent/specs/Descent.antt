-- The descent: a work call over the units, and what its answer says. Definitions only.
use Rattle.std.specs.Prelude.{Bool, true, false, cond, List, [], ◌∷◌, ℕ, ◌+◌, ◌*◌, ◌-◌}
use Rattle.run_calls.specs.Machine.{call}
use Rattle.run_record.specs.Record.{is_ended, per_of}
use Rattle.run_entry.specs.State.{State}
use Rattle.run_entry.specs.Entry.{fault_number}
use Rattle.run_budget.specs.declared.Answer.{Answer}
use Rattle.run_budget.specs.declared.Answer.TheVariants.{Running, Stopped, Finished, Full, Wild, Bad}
use Rattle.run_budget.specs.Budget.{machine, Worked, told}

-- a work call: its answer, and the record and areas that it leaves
unfoldable pub work : ℕ → State → Worked
work b s = told (call machine b s)

-- ---- what an answer says

-- the scope paper's number of a refusal; 0 where there is none
unfoldable pub work_number : Answer → ℕ
work_number (Running d) = 0
work_number (Stopped d) = 0
work_number (Finished d) = 0
work_number (Full d) = 14
work_number (Wild d) = 15
work_number (Bad f) = fault_number f

-- the units done in the call
unfoldable pub units_of : Answer → ℕ
units_of (Running d) = d
units_of (Stopped d) = d
units_of (Finished d) = d
units_of (Full d) = d
units_of (Wild d) = d
units_of (Bad f) = 0

-- its kind: the answer without its units
unfoldable pub answer_kind : Answer → Answer
answer_kind (Running d) = Running 0
answer_kind (Stopped d) = Stopped 0
answer_kind (Finished d) = Finished 0
answer_kind (Full d) = Full 0
answer_kind (Wild d) = Wild 0
answer_kind (Bad f) = Bad f

-- the run goes no further: it has stopped or finished, or its next unit is refused by 14 or 15
unfoldable pub is_last : Answer → Bool
is_last (Running d) = false
is_last (Stopped d) = true
is_last (Finished d) = true
is_last (Full d) = true
is_last (Wild d) = true
is_last (Bad f) = false

-- ---- a whole run

-- the units of all its iterations
abbrev pub whole_units : State → ℕ
whole_units s = s.run.settings.iterations * per_of s.run.settings.method s.run.settings.n

-- the units that it may yet do
unfoldable pub units_left : State → ℕ
units_left s = cond (is_ended s.run.standing) 0 (whole_units s - s.run.units)

-- ---- calls one after the other

-- the state after them
unfoldable pub works : List ℕ → State → State
works [] s = s
works (b ∷ bs) s = works bs (work b s).left

-- the units that they tell, together
unfoldable pub told_all : List ℕ → State → ℕ
told_all [] s = 0
told_all (b ∷ bs) s = units_of (work b s).answer + told_all bs (work b s).left
