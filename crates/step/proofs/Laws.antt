-- The whole outcome, from what the three passes tell. Assumes nothing.
use mathlib.Core.Path.{◌≡◌}
use mathlib.Core.List.{List}
use mathlib.Core.Bool.{true, false}
use Prim.Native.Nat.{ℕ, ◌*◌}
use lib.Ieee.{Float}
use Rattle.laws.specs.Loops.{loop}
use Rattle.step_passes.specs.Passes.{Before, means_of, calm_moves, calm_centred, position_step, increment_step, gain_step}
use Rattle.std.specs.Prelude.{Ok, Err}
use Rattle.step.specs.Step.{step_outcome, finish_of}

pub finish-no-moves : (b : Before) (n c : ℕ) → calm_moves b (n * c) ≡ false → step_outcome (Err 15) b.positions b.increments b.gains ≡ finish_of b n c
unfolding finish_of
finish-no-moves b n c h = rw h

pub finish-no-centred : (b : Before) (n c : ℕ) {s : List Float} → s ≡ means_of b n c → calm_moves b (n * c) ≡ true → calm_centred s b c (n * c) ≡ false →
    step_outcome (Err 15) b.positions b.increments b.gains ≡ finish_of b n c
unfolding finish_of
finish-no-centred b n c e h k = rw (h, rw e at k)

pub finish-done : (b : Before) (n c : ℕ) {s y v g : List Float} → s ≡ means_of b n c → calm_moves b (n * c) ≡ true → calm_centred s b c (n * c) ≡ true
    → (y ≡ loop (position_step s b c) (n * c) 0 b.positions) × (v ≡ loop (increment_step b) (n * c) 0 b.increments) × (g ≡ loop (gain_step b) (n * c) 0 b.gains)
    → step_outcome (Ok tt) y v g ≡ finish_of b n c
unfolding finish_of
finish-done b n c e h k w = rw (h, rw e at k, w.0, w.1, w.2, e)
