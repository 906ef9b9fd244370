-- What stands before and after a step, beside what the mirror shows of it. Definitions only.
use Rattle.std.specs.Prelude.{◌≡◌, Bool, ℕ, ◌*◌, ◌%◌, ◌<◌}
use Rattle.gradient_pairs.specs.declared.Pulls.{Pulls}
use Rattle.step_gains.specs.declared.Element.{Element}
use Rattle.step_passes.specs.Passes.{Before}
use Rattle.step.specs.Step.{StepOutcome}
use Rattle.mirror_values.specs.Values.{Shows}
use Rattle.mirror_values.specs.Shown.{ShowsAll}

-- the sums of a row's weights
pub record ShowsPulls (turns : ℕ → Bool) (c : ℕ) (x y : Pulls) : Type 0 where
  pub sum : x.sum ≡ y.sum
  pub along : ShowsAll turns c c x.along y.along

-- an element's new values
pub record ShowsElement (b : Bool) (x y : Element) : Type 0 where
  pub gain : x.gain ≡ y.gain
  pub increment : Shows b x.increment y.increment
  pub moved : Shows b x.moved y.moved

-- the areas before a step of n points in c components
pub record ShowsBefore (turns : ℕ → Bool) (n c : ℕ) (x y : Before) : Type 0 where
  pub momentum : x.momentum ≡ y.momentum
  pub rate : x.rate ≡ y.rate
  pub gradients : (e : ℕ) → e < n * c → Shows (turns (e % c)) (x.gradients e) (y.gradients e)
  pub positions : ShowsAll turns c (n * c) x.positions y.positions
  pub increments : ShowsAll turns c (n * c) x.increments y.increments
  pub gains : x.gains ≡ y.gains

-- and after it
pub record ShowsOutcome (turns : ℕ → Bool) (n c : ℕ) (x y : StepOutcome) : Type 0 where
  pub answer : x.answer ≡ y.answer
  pub positions : ShowsAll turns c (n * c) x.positions y.positions
  pub increments : ShowsAll turns c (n * c) x.increments y.increments
  pub gains : x.gains ≡ y.gains
