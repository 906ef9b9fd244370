-- A child's number in its block is below the number of children. Assumes nothing.
use mathlib.Core.List.{List}
use mathlib.Core.Bool.{Bool, true, false, cond}
use Prim.Native.Nat.{ℕ, ◌^◌, ◌<◌, ◌≤◌}
use native.Mathlib.Omega.{arith}
use native.Mathlib.Nat.{zero-add, two-pow-succ}
use native.Mathlib.Numerals.{add-one}
use lib.Ieee.{Float, lt}
use Rattle.laws.specs.Area.{at}
use Rattle.laws.proofs.Loops.{loop-keeps}
use Rattle.tree_children.specs.Children.{bit_of, bit_step, child_index}

bit_le : (z x : Float) (d : ℕ) → bit_of z x d ≤ 2 ^ d
unfolding bit_of
bit_le z x d = cond-le (lt z x) (2 ^ d)
  where
    cond-le : (b : Bool) (m : ℕ) → cond b m 0 ≤ m
    cond-le true m = omega arith
    cond-le false m = omega arith

pub child-below : (c : ℕ) (z p : List Float) → child_index c z p < 2 ^ c
unfolding child_index
child-below c z p =
    rw zero-add at (loop-keeps (λ d n. n < 2 ^ d) (bit_step z p) c 0 0
    (λ d n l h. rw (add-one d) (omega (arith, two-pow-succ d, bit_le (at z d) (at p d) d)))
    (omega arith))
