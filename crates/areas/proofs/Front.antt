-- The front of an area, filled: it is what filling place by place leaves, and the length is kept. The premise is that the area is long enough; nothing else is assumed.
use mathlib.Core.Path.{◌≡◌, sym, ap, subst, ◌∙◌}
use mathlib.Core.List.{List}
use Prim.Native.Nat.{ℕ, ◌≤◌}
use native.Mathlib.Omega.{arith}
use native.Mathlib.Nat.{zero-add}
use lib.ListN.{length, set}
use Rattle.laws.specs.Loops.{loop}
use Rattle.laws.proofs.Loops.{loop-keeps}
use Rattle.laws.proofs.Parts.{Clears, clears-start, clears-next}
use Rattle.areas.specs.Filled.{filled}

module _ {A : Type 0} (x : A) (n : ℕ) (l : List A) (room : n ≤ length l) where
  abbrev by_place : List A
  by_place = loop (λ k m. set m k x) n 0 l

  all-places : Clears x l n n by_place
  all-places = subst (λ (q : ℕ). Clears x l n q by_place) (zero-add n) (loop-keeps (Clears x l n) (λ k m. set m k x) n 0 l (λ k m h r. clears-next room (omega arith) r) clears-start)

  pub filled-loop : filled x n l ≡ by_place
  filled-loop = sym all-places.same

  pub filled-size : length (filled x n l) ≡ length l
  filled-size = ap length filled-loop ∙ all-places.size
