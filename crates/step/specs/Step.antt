-- The finish of an iteration: new gains, increments and centred positions, or refusal 15. Definitions only.
use Rattle.std.specs.Prelude.{List, cond, ◌&&◌, ℕ, ◌*◌, Float, Result, Ok, Err}
use Rattle.laws.specs.Loops.{loop}
use Rattle.step_passes.specs.Passes.{Before, means_of, calm_moves, calm_centred, position_step, increment_step, gain_step}

pub record StepOutcome : Type 0 where
  pub answer : Result (Unit {0}) ℕ
  pub positions : List Float
  pub increments : List Float
  pub gains : List Float

abbrev pub step_outcome : Result (Unit {0}) ℕ → List Float → List Float → List Float → StepOutcome
step_outcome a y v g = record { answer = a; positions = y; increments = v; gains = g }

-- no gain, increment or centred position may be NaN or above 2^100 in magnitude: else 15, and nothing is changed
unfoldable pub finish_of : Before → ℕ → ℕ → StepOutcome
finish_of b n c =
    let m = n * c in
    let means = means_of b n c in
    cond (calm_moves b m && calm_centred means b c m)
    (step_outcome (Ok tt) (loop (position_step means b c) m 0 b.positions) (loop (increment_step b) m 0 b.increments) (loop (gain_step b) m 0 b.gains))
    (step_outcome (Err 15) b.positions b.increments b.gains)
