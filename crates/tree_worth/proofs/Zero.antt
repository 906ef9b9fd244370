-- With an angle of zero no cell is far enough: every cell that has children and counts a point opens. Assumes nothing.
use mathlib.Core.Path.{◌≡◌, refl}
use mathlib.Core.Logic.{◌⊎◌, inl, inr}
use mathlib.Core.List.{List}
use mathlib.Core.Bool.{true, false, true≢false}
use Prim.Native.Nat.{ℕ, ◌*◌, ◌≤◌}
use native.Mathlib.Omega.{arith}
use native.Mathlib.Nat.{zero-mul, mul-one}
use lib.Dec.{lit≤}
use lib.Ieee.{Float, nan, inf, fin, binary64, up, down, unlike, odd, units, round, size, mul, lt, of_bits}
use lib.Ieee.Fits.{down_pos}
use borrow.Author.Tests.{ne_eqb, le-ltb}
use Rattle.laws.specs.Area.{at, zero64}
use Rattle.elementary.proofs.Sizes.{sign_plus, signed_round, Most, most-round, held_whole}
use Rattle.tree_node.specs.declared.Node.{Node}
use Rattle.tree_bodies.specs.Bodies.{width_of, gap_of, kind_of}
use Rattle.tree_worth.specs.Worth.{NoAngle}

square-zero : (a : Float) → NoAngle a → mul binary64 a a ≡ zero64
unfolding of_bits mul round units odd size
square-zero a (inl e) = rw e refl
square-zero a (inr e) = rw e refl

-- a square is NaN or has the sign +
square-plus : (w : Float) → (mul binary64 w w ≡ nan) ⊎ sign_plus (mul binary64 w w)
unfolding mul
square-plus nan = inl refl
square-plus (inf true) = inr refl
square-plus (inf false) = inr refl
square-plus (fin true m e) = inr (signed_round binary64 false (m * up e * (m * up e)) (down e * down e))
square-plus (fin false m e) = inr (signed_round binary64 false (m * up e * (m * up e)) (down e * down e))

-- zero times anything is NaN or a zero
zero-times : (g : Float) → (mul binary64 zero64 g ≡ nan) ⊎ Most 0 1 (mul binary64 zero64 g)
unfolding mul of_bits odd
zero-times nan = inl refl
zero-times (inf t) = inl refl
zero-times (fin t n d) = inr (most-round (unlike false t) (0 * (n * up d)) (1 * down d) 0 1 (omega (arith, down_pos d)) (omega arith) (held_whole 0 (lit≤ tt)) (rw (zero-mul (n * up d)) (omega arith)))

nan-above : (x : Float) → lt x nan ≡ false
unfolding lt
nan-above nan = refl
nan-above (inf s) = refl
nan-above (fin s m e) = refl

nan-below : (x : Float) → lt nan x ≡ false
unfolding lt
nan-below x = refl

plus-not-below : (x z : Float) → sign_plus x → Most 0 1 z → lt x z ≡ false
unfolding lt
plus-not-below nan z p q = elim p [ ]
plus-not-below (inf s) nan p q = elim q [ ]
plus-not-below (inf s) (inf _) p q = elim q [ ]
plus-not-below (fin false m e) nan p q = elim q [ ]
plus-not-below (fin false m e) (inf _) p q = elim q [ ]
plus-not-below (fin true m e) nan p q = elim q [ ]
plus-not-below (fin true m e) (inf _) p q = elim q [ ]
plus-not-below (inf s) (fin t n d) p q = p
plus-not-below (fin true m e) (fin t n d) p q = absurd (true≢false p)
plus-not-below (fin false m e) (fin true n d) p q = refl
plus-not-below (fin false m e) (fin false n d) p q =
    let z : n * up d ≡ 0 = none (n * up d) (down d) q in
    rw (z, zero-mul (down e)) (le-ltb (m * up e * down d) 0 (omega arith))
  where
    none : (a b : ℕ) → a * 1 ≤ 0 * b → a ≡ 0
    none a b h = omega (arith, mul-one a, zero-mul b, h)

pub never-far : (w g : Float) → lt (mul binary64 w w) (mul binary64 zero64 g) ≡ false
never-far w g = go (square-plus w) (zero-times g)
  where
    go : (mul binary64 w w ≡ nan) ⊎ sign_plus (mul binary64 w w) → (mul binary64 zero64 g ≡ nan) ⊎ Most 0 1 (mul binary64 zero64 g) → lt (mul binary64 w w) (mul binary64 zero64 g) ≡ false
    go p (inl e) = rw e (nan-above (mul binary64 w w))
    go (inl e) (inr q) = rw e (nan-below (mul binary64 zero64 g))
    go (inr p) (inr q) = plus-not-below (mul binary64 w w) (mul binary64 zero64 g) p q

-- every cell that counts a point and has children opens
pub cell_opens : (c q : ℕ) (p : List Float) (a : Float) (v : Node) → NoAngle a → (v.count ≡ 0 → ⊥) → (v.first ≡ 0 → ⊥) → kind_of c q p (mul binary64 a a) v ≡ 2
unfolding kind_of
cell_opens c q p a v h n z = rw (ne_eqb v.count 0 n, ne_eqb v.first 0 z, square-zero a h, never-far (width_of c v.half) (gap_of c (at p) (at v.mass)))
