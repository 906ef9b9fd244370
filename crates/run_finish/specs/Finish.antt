-- The finish of an iteration: Z, gradient, step and stop test. Definitions only.
use Rattle.std.specs.Prelude.{List, Bool, not, ℕ, ◌*◌, Float, Result, Ok, Err}
use Rattle.run_record.specs.declared.Run.{Run}
use Rattle.run_record.specs.Record.{is_tree, closed_of}
use Rattle.run_plan.specs.Plan.{momentum_of}
use Rattle.gradient.specs.Element.{normaliser_for, gradients_of, norm_of}
use Rattle.step_passes.specs.declared.Pace.{Pace}
use Rattle.step_passes.specs.Passes.{Before, before}
use Rattle.step.specs.Step.{StepOutcome, finish_of}
use Rattle.run_finish.specs.declared.Halt.{Halt}
use Rattle.run_finish.specs.declared.Halt.TheVariants.{Wild}

-- whether a unit was done, and if not, why
abbrev pub Why : Type 0
Why = Result (Unit {0}) Halt

abbrev pub why_of : Result Run Halt → Why
why_of (Ok t) = Ok tt
why_of (Err h) = Err h

-- the record after a unit on r: one that is not done leaves it as it was
abbrev pub run_left : Run → Result Run Halt → Run
run_left r (Ok t) = t
run_left r (Err h) = r

-- an exact run's forces area holds the gradients themselves
abbrev pub is_exact : Run → Bool
is_exact r = not (is_tree r.settings.method)

-- what the step goes by
unfoldable pub pace_of : Run → List Float → Pace
pace_of r F = record { exact = is_exact r; z = normaliser_for (is_exact r) F r.settings.n r.settings.c; momentum = momentum_of r; rate = r.settings.rate }

-- the areas before the step, with the gradients of the iteration
abbrev pub before_of : Run → List Float → List Float → List Float → List Float → Before
before_of r y v g F = before (momentum_of r) r.settings.rate (gradients_of (is_exact r) F r.settings.n r.settings.c) y v g

pub record FinishTurn : Type 0 where
  pub run : Run
  pub positions : List Float
  pub increments : List Float
  pub gains : List Float
  pub why : Why

abbrev pub finish_turn : Run → List Float → List Float → List Float → Why → FinishTurn
finish_turn r y v g w = record { run = r; positions = y; increments = v; gains = g; why = w }

-- the step, then the stop test by the largest gradient; refused, nothing changes
abbrev pub finish_as : Run → Float → StepOutcome → Result (Unit {0}) ℕ → FinishTurn
finish_as r norm o (Ok tt) = finish_turn (closed_of r norm) o.positions o.increments o.gains (Ok tt)
finish_as r norm o (Err k) = finish_turn r o.positions o.increments o.gains (Err Wild)

unfoldable pub finish_unit : Run → List Float → List Float → List Float → List Float → FinishTurn
finish_unit r y v g F =
    let b = before_of r y v g F in
    let o = finish_of b r.settings.n r.settings.c in
    finish_as r (norm_of b.gradients (r.settings.n * r.settings.c)) o o.answer
