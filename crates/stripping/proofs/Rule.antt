-- The order that is written goes by the rule, and an order that goes by the rule is that one. The premise is that 15 bars no position. Assumes nothing.
use mathlib.Core.Path.{◌≡◌, refl, sym, ap, ◌∙◌}
use mathlib.Core.List.{List}
use mathlib.Core.Bool.{true, false, ◌&&◌, ◌||◌}
use Prim.Native.Nat.{ℕ, zero, suc, ◌+◌, ◌-◌, ◌<◌, ◌≤◌}
use native.Mathlib.Omega.{arith}
use native.Mathlib.Nat.{add-zero, zero-add}
use lib.Dec.{ltb}
use lib.ListN.{length, take}
use lib.Seq.{ext_get_or, get_or-take, length-take-le}
use lib.Ieee.{Float, binary64, lt, le, eq, sub, to_bits, of_bits}
use lib.Ieee.Bits.{of_bits-to_bits}
use lib.Ieee.Fits.{sub-fits}
use borrow.Author.Tests.{ltb-true, lt-ltb, le-ltb, eqb-true, ne_eqb}
use Rattle.laws.specs.Area.{at, num, bits, zero64}
use Rattle.laws.proofs.Bools.{by_bool, and_left, and_right, or_yes}
use Rattle.strip_order.specs.Strip.{strip_before, strip_place, strip_order, strip_gap, AllCalm}
use Rattle.strip_order.proofs.Signed.{Finite, keyed}
use Rattle.strip_order.proofs.Before.{finite-at}
use Rattle.strip_order.proofs.Places.{place-below, place-rises, order-size, order-at, order-names, order-rises}
use Rattle.stripping.specs.Along.{ByRule}
use Rattle.stripping.proofs.Gap.{gap-least}

-- ---- standing before, and the rule's two sentences

module _ (y : List Float) (i j : ℕ) where
  before-not-above : strip_before y i j ≡ true → le (at y i) (at y j) ≡ true
  unfolding strip_before le
  before-not-above h = by_bool ((lt (at y i) (at y j) || eq (at y i) (at y j)) ≡ true) (lt (at y i) (at y j))
      (λ t. rw t)
      (λ t. or_yes (lt (at y i) (at y j)) (eq (at y i) (at y j)) (and_left (eq (at y i) (at y j)) (ltb i j) (rw t at h)))

  before_of : le (at y i) (at y j) ≡ true → (eq (at y i) (at y j) ≡ true → i < j) → strip_before y i j ≡ true
  unfolding strip_before le
  before_of h k = by_bool ((lt (at y i) (at y j) || (eq (at y i) (at y j) && ltb i j)) ≡ true) (lt (at y i) (at y j))
      (λ t. rw t)
      (λ t. (let e : eq (at y i) (at y j) ≡ true = rw t at h in or_yes (lt (at y i) (at y j)) (eq (at y i) (at y j) && ltb i j) (rw (e, lt-ltb i j (k e)))))

  -- equal positions: the number decides
  before-equal : Finite (at y i) → Finite (at y j) → strip_before y i j ≡ true → eq (at y i) (at y j) ≡ true → i < j
  unfolding strip_before
  before-equal f g h e =
      let K = keyed (at y i) (at y j) (at y i) f g f in
      let same = eqb-true K.kx K.ky (sym K.eq-xy ∙ e) in
      let n : lt (at y i) (at y j) ≡ false = K.lt-xy ∙ le-ltb K.kx K.ky (omega (arith, same)) in
      ltb-true i j (and_right (eq (at y i) (at y j)) (ltb i j) (rw n at h))

-- ---- n places taken in rising order are taken in order

module _ (f : ℕ → ℕ) (n : ℕ) (rises : (p q : ℕ) → p < q → q < n → f p < f q) (below-n : (q : ℕ) → q < n → f q < n) where
  climbs : (d a : ℕ) → a + d < n → f a + d ≤ f (a + d)
  climbs zero a h = omega (arith, ap f (add-zero a))
  climbs (suc d) a h = omega (arith, climbs d a (omega arith), rises (a + d) (a + suc d) (omega arith) h)

  each-itself : (q : ℕ) → q < n → f q ≡ q
  each-itself q h =
      let up = climbs q 0 (omega arith) in
      let down = climbs (n - 1 - q) q (omega arith) in
      let z : q + (n - 1 - q) ≡ n - 1 = omega arith in
      omega (arith, ap f (zero-add q), ap f z, below-n (n - 1) (omega arith))

zero-itself : le zero64 zero64 ≡ true
unfolding le lt eq of_bits
zero-itself = refl

-- ---- the order that is written, and every other that goes by the rule

module _ (y : List Float) (n : ℕ) (c : AllCalm y n) where
  pub order-by-rule : (o : List ℕ) → n ≤ length o → ByRule y n (strip_order y n o)
  order-by-rule o room =
      let w = strip_order y n o in
      record {
        long = omega (arith, order-size y n c o room, room);
        named = λ q h. (order-names y n c o room q h).0;
        somewhere = λ i h. (strip_place y n i, (place-below y n i h, order-at y n c o room i h));
        once = λ p q hp hq e. sym (order-names y n c o room p hp).1 ∙ ap (strip_place y n) e ∙ (order-names y n c o room q hq).1;
        never-falls = λ p q l h. before-not-above y (num w p) (num w q) (order-rises y n c o room p q l h);
        by_number = λ p q l h e. before-equal y (num w p) (num w q) (finite-at y n c (num w p) (order-names y n c o room p (omega arith)).0)
            (finite-at y n c (num w q) (order-names y n c o room q h).0) (order-rises y n c o room p q l h) e;
      }

  module _ (o : List ℕ) (r : ByRule y n o) where
    rule-before : (p q : ℕ) → p < q → q < n → strip_before y (num o p) (num o q) ≡ true
    rule-before p q l h = before_of y (num o p) (num o q) (r.never-falls p q l h) (r.by_number p q l h)

    -- the sample at place q has q samples before it
    place_is : (q : ℕ) → q < n → strip_place y n (num o q) ≡ q
    place_is = each-itself (λ q. strip_place y n (num o q)) n
        (λ p q l h. place-rises y n c (num o p) (num o q) (r.named p (omega arith)) (r.named q h) (rule-before p q l h))
        (λ q h. place-below y n (num o q) (r.named q h))

    -- it is the order that is written, into whatever area
    pub order_is : (z : List ℕ) → n ≤ length z → (q : ℕ) → q < n → num o q ≡ num (strip_order y n z) q
    order_is z room q h = sym (order-at y n c z room (num o q) (r.named q h)) ∙ ap (num (strip_order y n z)) (place_is q h)

    -- no gap is below zero
    pub gap-not-below : (q : ℕ) → q < n → le zero64 (bits (strip_gap y o q)) ≡ true
    unfolding strip_gap
    gap-not-below zero h = zero-itself
    gap-not-below (suc p) h =
        let x = at y (num o (suc p)) in
        let v = at y (num o (suc p - 1)) in
        let z : suc p - 1 ≡ p = omega arith in
        let l : le v x ≡ true = rw z (r.never-falls p (suc p) (omega arith) h) in
        let e : bits (to_bits binary64 (sub binary64 x v)) ≡ sub binary64 x v = of_bits-to_bits binary64 (sub binary64 x v) (sub-fits binary64 x v) in
        rw (ne_eqb (suc p) 0 (λ q. omega arith), e) (gap-least x v (finite-at y n c (num o (suc p)) (r.named (suc p) h)) (rw z (finite-at y n c (num o p) (r.named p (omega arith)))) l)

  -- two orders that go by the rule name the same samples at their n places
  pub one-order : (o o' : List ℕ) → ByRule y n o → ByRule y n o' → take n o ≡ take n o'
  one-order o o' r r' =
      let l = length-take-le n o r.long in
      ext_get_or 0 (take n o) (take n o') (l ∙ sym (length-take-le n o' r'.long))
      (λ q h. get_or-take n o q 0 (omega (arith, l)) ∙ order_is o r o' r'.long q (omega (arith, l)) ∙ sym (order_is o' r' o' r'.long q (omega (arith, l))) ∙
      sym (get_or-take n o' q 0 (omega (arith, l))))
