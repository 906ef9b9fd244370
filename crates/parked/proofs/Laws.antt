-- How long a file is at most, and its first words one by one. Assumes nothing.
use mathlib.Core.Path.{◌≡◌, ap}
use mathlib.Core.List.{List, [], ◌∷◌}
use mathlib.Core.Bool.{Bool, true, false, cond}
use Prim.Native.Nat.{ℕ, ◌+◌, ◌*◌, ◌≤◌}
use native.Mathlib.Omega.{arith}
use native.Mathlib.Nat.{mul-le-mul}
use Rattle.laws.specs.Domain.{most_components, most_frames}
use Rattle.laws.specs.Area.{num}
use Rattle.parked.specs.declared.Layout.{Layout}
use Rattle.parked.specs.Layout.{filled_up, layout_of}
use Rattle.parked.specs.Parked.{head_of}

filled-most : (m : ℕ) → filled_up m ≤ m + 3
unfolding filled_up
filled-most m = omega arith

pub end-most : (t : Bool) (n c links : ℕ) → n ≤ most_frames → c ≤ most_components → links ≤ 40000000 → (layout_of t n c links).end ≤ 100000000
unfolding layout_of
end-most t n c links a b l =
    let p : n * c ≤ 32768 = mul-le-mul a b in
    omega (arith, filled-most (n * c), filled-most (cond t (n + 1) (n * n)), filled-most links, p, held t)
  where
    held : (t : Bool) → cond t (n + 1) (n * n) ≤ 16777216
    held true = omega (arith, a)
    held false = mul-le-mul a a

-- the head, with the angle's word given
pub head-told : (l : Layout) (w : List ℕ) (k x : ℕ) → x ≡ cond l.tree (num w 7) 0
    → num (num w 3 ∷ num w 0 ∷ num w 1 ∷ num w 2 ∷ num w 4 ∷ num w 5 ∷ num w 6 ∷ x ∷ num w 8 ∷ num w 10 ∷ num w 9 ∷ l.links ∷ []) k ≡ num (head_of l w) k
unfolding head_of
head-told l w k x e = ap (λ (y : ℕ). num (num w 3 ∷ num w 0 ∷ num w 1 ∷ num w 2 ∷ num w 4 ∷ num w 5 ∷ num w 6 ∷ y ∷ num w 8 ∷ num w 10 ∷ num w 9 ∷ l.links ∷ []) k) e
