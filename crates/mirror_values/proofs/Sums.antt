-- A sum that starts at +0.0 and runs by rising index keeps what is alike, what is turned, and what the mirror shows. Assumes nothing.
use mathlib.Core.Bool.{Bool}
use Prim.Native.Nat.{ℕ, ◌<◌}
use native.Mathlib.Omega.{arith}
use lib.Ieee.{Float}
use Rattle.laws.specs.Area.{zero64}
use Rattle.centring.specs.Centring.{plus_next, sum_of}
use Rattle.mirror_values.specs.Values.{Alike, Opposite, Shows}
use Rattle.mirror_values.proofs.Alikes.{alike_refl, alike-add}
use Rattle.mirror_values.proofs.Opposites.{opposite-add}
use Rattle.mirror_values.proofs.Shows.{opposite-zero, shows-zero, shows-add}
use Rattle.mirror_values.proofs.Areas.{loop-both}

module _ (v w : ℕ → Float) (n : ℕ) where
  pub alike-sum : ((i : ℕ) → i < n → Alike (v i) (w i)) → Alike (sum_of v n) (sum_of w n)
  alike-sum h = loop-both Alike (plus_next v) (plus_next w) n 0 zero64 zero64 (λ i x y _ l r. alike-add r (h i (omega arith))) (alike_refl zero64)

  pub opposite-sum : ((i : ℕ) → i < n → Opposite (v i) (w i)) → Opposite (sum_of v n) (sum_of w n)
  opposite-sum h = loop-both Opposite (plus_next v) (plus_next w) n 0 zero64 zero64 (λ i x y _ l r. opposite-add r (h i (omega arith))) opposite-zero

  pub shows-sum : (b : Bool) → ((i : ℕ) → i < n → Shows b (v i) (w i)) → Shows b (sum_of v n) (sum_of w n)
  shows-sum b h = loop-both (Shows b) (plus_next v) (plus_next w) n 0 zero64 zero64 (λ i x y _ l r. shows-add r (h i (omega arith))) (shows-zero b)
