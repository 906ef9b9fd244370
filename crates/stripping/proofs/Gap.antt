-- A position less one that is not above it is not below zero: it may be −0.0. Assumes nothing.
use mathlib.Core.Path.{◌≡◌, sym}
use mathlib.Core.Bool.{Bool, true, false, not, ◌&&◌, ◌||◌, true≢false}
use Prim.Native.Nat.{ℕ, ◌+◌, ◌-◌, ◌*◌, ◌<◌, ◌≤◌}
use native.Mathlib.Omega.{arith}
use native.Mathlib.Decide.{dec_lt}
use native.Mathlib.Nat.{mul-pos, zero-mul}
use lib.Dec.{eqb, lit≤}
use lib.Ieee.{Float, nan, inf, fin, binary64, up, down, below, level, lt, le, eq, neg, add, sub, sum, round, of_bits}
use lib.Ieee.Bits.{is_true}
use lib.Ieee.Fits.{down_pos}
use lib.Ieee.Order.{round_mono}
use borrow.Author.Tests.{eqb-true, eq-eqb, le-ltb, lt-ltb}
use Rattle.laws.specs.Area.{zero64}
use Rattle.laws.proofs.Bools.{and_left, and_right}
use Rattle.elementary.proofs.Sizes.{Sized, held_whole, sized-round}
use Rattle.strip_order.proofs.Signed.{Finite}

-- ---- what rounding gives

not-below-zero : (p c : ℕ) → 0 < c → le zero64 (round binary64 false p c) ≡ true
unfolding round of_bits
not-below-zero p c h = is_true (le zero64 (round binary64 false p c)) (round_mono binary64 0 1 p c (omega arith) h (omega (arith, zero-mul c)))

-- a zero with either sign
zero_is : (x : Float) → Sized true 0 1 x → le zero64 x ≡ true
unfolding le lt eq of_bits
zero_is nan s = absurd s
zero_is (inf t) s = absurd s
zero_is (fin true m e) s =
    let z : m * up e * 1 ≤ 0 * down e = s.1 in
    let o = zero-mul (down e) in
    let q : 0 * down e ≡ m * up e * 1 = omega arith in
    rw (eq-eqb (0 * down e) (m * up e * 1) q, eq-eqb (0 * down e) 0 o)
zero_is (fin false m e) s = absurd (true≢false (sym s.0))

minus-zero : (c : ℕ) → 0 < c → le zero64 (round binary64 true 0 c) ≡ true
minus-zero c h = zero_is (round binary64 true 0 c) (sized-round true 0 c 0 1 h (omega arith) (held_whole 0 (lit≤ tt)) (omega arith))

-- ---- the difference: ±a / c less ±b / c

module _ (a b c : ℕ) (some : 0 < c) where
  -- ±b is not above ±a
  abbrev NotAbove : Bool → Bool → Type 0
  NotAbove t s = (below t b s a || level t b s a) ≡ true

  plus-plus : NotAbove false false → b ≤ a
  plus-plus h = elim (dec_lt b a) [ yes l ↦ omega arith | no l ↦ (let z : eqb b a && true ≡ true = rw (le-ltb b a (omega arith)) at h in omega (arith, eqb-true b a (and_left (eqb b a) true z))) ]

  minus_minus : NotAbove true true → a ≤ b
  minus_minus h = elim (dec_lt a b) [ yes l ↦ omega arith | no l ↦ (let z : eqb b a && true ≡ true = rw (le-ltb a b (omega arith)) at h in omega (arith, eqb-true b a (and_left (eqb b a) true z))) ]

  both-none : NotAbove false true → a + b ≡ 0
  both-none h = omega (arith, eqb-true b a (and_left (eqb b a) (eqb b 0) h), eqb-true b 0 (and_right (eqb b a) (eqb b 0) h))

  least : (s t : Bool) → NotAbove t s → le zero64 (sum binary64 s a (not t) b c) ≡ true
  unfolding sum
  least false false h = rw (le-ltb a b (plus-plus h)) (not-below-zero (a - b) c some)
  least false true h = not-below-zero (a + b) c some
  least true false h = rw (both-none h) (minus-zero c some)
  least true true h = elim (dec_lt a b) [ yes l ↦ rw (lt-ltb a b l) (not-below-zero (b - a) c some) | no l ↦ rw (le-ltb a b (omega arith), le-ltb b a (minus_minus h)) (not-below-zero (a - b) c some) ]

-- of two that are finite
pub gap-least : (x y : Float) → Finite x → Finite y → le y x ≡ true → le zero64 (sub binary64 x y) ≡ true
unfolding le lt eq sub add neg
gap-least nan y f g h = absurd f
gap-least (inf s) y f g h = absurd f
gap-least (fin s m e) nan f g h = absurd g
gap-least (fin s m e) (inf t) f g h = absurd g
gap-least (fin s m e) (fin t n d) f g h = least (m * up e * down d) (n * up d * down e) (down e * down d) (mul-pos (down_pos e) (down_pos d)) s t h
