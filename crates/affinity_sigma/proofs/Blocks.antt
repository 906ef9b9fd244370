-- A row by blocks: what the passes over a block come to is what each value has by itself. Assumes nothing.
use mathlib.Core.Path.{◌≡◌, refl, sym, ap, subst, ◌∙◌}
use mathlib.Core.Logic.{◌⊎◌, inl, inr}
use mathlib.Core.List.{List}
use mathlib.Core.Bool.{Bool, true, false, not, cond, ◌&&◌, ◌||◌, true≢false}
use Prim.Native.Nat.{ℕ, zero, suc, ◌+◌, ◌-◌, ◌*◌, ◌^◌, ◌<◌, ◌≤◌}
use native.Mathlib.Omega.{arith}
use native.Mathlib.Nat.{le_of_lt, le_of_eq, le_antisymm}
use lib.IntN.{ℤ, pos, negsuc, neg_ℤ, nat_abs, pos-ne-negsuc}
use lib.ListN.{length, set}
use lib.Dec.{ltb, eqb}
use lib.Ieee.{Float, nan, inf, fin, binary64, up, down, neg, div, lt, le, eq, ne, of_bits}
use lib.Ieee.Fits.{down_pos}
use borrow.Author.Tests.{ltb-true, ltb-false, le-ltb, eqb-true}
use denote.Floats.{passes}
use mir.Syntax.{w32}
use mir.Val.{SFits}
use lib.Ieee.Compare.{differs_from_itself}
use Rattle.laws.specs.Loops.{loop, every}
use Rattle.laws.specs.Area.{at, num, zero64}
use Rattle.laws.proofs.Bools.{two, not-true-is, and_left, and_right}
use Rattle.laws.proofs.Loops.{loop-moved}
use Rattle.laws.proofs.Every.{every-at, every-step}
use Rattle.laws.proofs.Written.{written_at}
use Rattle.elementary.specs.Exp.{ln2, low745, low708, high709, whole_near, signed, near_up, exp_k, exp_in, at_most, from_minus, power}
use Rattle.elementary.proofs.Range.{quotient, quotient-plus, quotient-minus, bottom, near_le, exp-quotient, exp-range, exp-in}
use Rattle.elementary.proofs.Powers.{raised}
use Rattle.elementary.proofs.Sizes.{sign_plus, signed_round, bounded}
use Rattle.affinity_sigma.specs.Sigma.{weight_of, weigh_step}
use Rattle.affinity_sigma.specs.Blocks.{block_size, exponent_of, exponent_step, in_reach, halvings_of, halving_step, FewHalvings, series_after, series_step, halved_by, halved_step}

-- ---- tests of all places

pub every-joined : {r a b : Bool} (p : ℕ → Bool) (t : ℕ) → r ≡ a && b → a ≡ every p t → b ≡ p t → r ≡ every p (t + 1)
every-joined {r} {a} {b} p t e f g = e ∙ ap (λ (x : Bool). x && b) f ∙ ap (λ (x : Bool). every p t && x) g ∙ sym (every-step p t)

pub every-whole : {r : Bool} (p : ℕ → Bool) (n t : ℕ) → r ≡ every p t → t ≤ n → n ≤ t → r ≡ every p n
every-whole p n t e h l = e ∙ ap (every p) (le_antisymm h l)

-- ---- an exponent that the passes take

not_is : (b : Bool) → not b ≡ true → b ≡ false
not_is true e = sym e
not_is false e = refl

pub reach-low : (x : Float) → in_reach x ≡ true → lt x low708 ≡ false
unfolding in_reach
reach-low x h = not_is (lt x low708) (and_left (not (lt x low708)) (le x zero64) h)

reach-top : (x : Float) → in_reach x ≡ true → le x zero64 ≡ true
unfolding in_reach
reach-top x h = and_right (not (lt x low708)) (le x zero64) h

at-most-is : (a b : ℕ) (c : Bool) → (ltb a b || eqb a b && c) ≡ true → a ≤ b
at-most-is a b c h = go (two (ltb a b))
  where
    go : (ltb a b ≡ true) ⊎ (ltb a b ≡ false) → a ≤ b
    go (inl l) = le_of_lt (ltb-true a b l)
    go (inr l) = le_of_eq (eqb-true a b (and_left (eqb a b) c (rw l at h)))

-- a value from 0 up that is not above 0
pub up_to_zero : (m : ℕ) (e : ℤ) → le (fin false m e) zero64 ≡ true → m * up e ≤ 0
unfolding le lt eq of_bits
up_to_zero m e h = omega (arith, at-most-is (m * up e * 1) (0 * 2 ^ 0 * down e) _ h)

above-none : (b : Float) → le nan b ≡ true → ⊥
unfolding le lt eq
above-none b h = true≢false (sym h)

inf-above : le (inf false) zero64 ≡ true → ⊥
unfolding le lt eq of_bits
inf-above h = true≢false (sym h)

-- what a test puts at most somewhere is a number
pub at-most-number : (v b : Float) → le v b ≡ true → ne v v ≡ false
at-most-number v b h = not-true-is (λ t. above-none b (subst (λ (y : Float). le y b ≡ true) (differs_from_itself v (passes (ne v v) t)) h))

pub reach-number : (x : Float) → in_reach x ≡ true → ne x x ≡ false
reach-number x h = at-most-number x zero64 (reach-top x h)

below-high : (x : Float) → le x zero64 ≡ true → lt high709 x ≡ false
unfolding lt of_bits
below-high nan t = absurd (above-none zero64 t)
below-high (inf true) t = refl
below-high (inf false) t = absurd (inf-above t)
below-high (fin true m e) t = refl
below-high (fin false m e) t = le-ltb (709 * 2 ^ 0 * down e) (m * up e * 1) (omega (arith, up_to_zero m e t))

pub reach-high : (x : Float) → in_reach x ≡ true → lt high709 x ≡ false
reach-high x h = below-high x (reach-top x h)

above-lowest : (x : Float) → lt x low708 ≡ false → lt x low745 ≡ false
unfolding lt of_bits neg
above-lowest nan h = refl
above-lowest (inf true) h = h
above-lowest (inf false) h = refl
above-lowest (fin false m e) h = refl
above-lowest (fin true m e) h = le-ltb (745 * 2 ^ 0 * down e) (m * up e * 1) (omega (arith, ltb-false (177 * 2 ^ 2 * down e) (m * up e * 1) h))

pub reach-lowest : (x : Float) → in_reach x ≡ true → lt x low745 ≡ false
reach-lowest x h = above-lowest x (reach-low x h)

-- ---- its halvings

pub minus-size : (n : ℕ) → nat_abs (neg_ℤ (pos n)) ≡ n
minus-size zero = refl
minus-size (suc n) = refl

sign-quotient : (m : ℕ) (e : ℤ) → sign_plus (quotient m e)
sign-quotient m e = signed_round binary64 false _ _

-- of a quotient below 0, and of one that is 0
minus-of : (z : Float) → sign_plus z → whole_near (neg z) ≡ neg_ℤ (pos (nat_abs (whole_near (neg z))))
unfolding whole_near signed neg
minus-of nan p = absurd p
minus-of (inf s) p = refl
minus-of (fin true m e) p = absurd (true≢false p)
minus-of (fin false m e) p = ap (λ (n : ℕ). neg_ℤ (pos n)) (sym (minus-size (near_up (m * up e) (down e))))

zero_of : (z : Float) → sign_plus z → at_most z 0 → whole_near z ≡ pos 0
unfolding whole_near signed
zero_of (fin true m e) p w = absurd (true≢false p)
zero_of (fin false m e) p w = ap pos (none (near_le (m * up e) (down e) 0 (down_pos e) w))
  where
    none : {n : ℕ} → n ≤ 0 → n ≡ 0
    none h = omega arith
zero_of nan p w = elim p [ ]
zero_of (inf _) p w = elim w [ ]

zero-quotient : (m : ℕ) (e : ℤ) → m * up e ≤ 0 → exp_k (fin false m e) ≡ pos 0
zero-quotient m e h = ap whole_near (quotient-plus m e) ∙ zero_of (quotient m e) (sign-quotient m e) (bounded (m * up e * 2 ^ 53) _ 0 (bottom e) (omega arith) (omega (arith, h)))

whole_below : (x : Float) → le x zero64 ≡ true → lt x low708 ≡ false → exp_k x ≡ neg_ℤ (pos (halvings_of x))
unfolding lt of_bits neg
whole_below nan t l = absurd (above-none zero64 t)
whole_below (inf true) t l = absurd (true≢false l)
whole_below (inf false) t l = absurd (inf-above t)
whole_below (fin true m e) t l = rw (quotient-minus m e) (minus-of (quotient m e) (sign-quotient m e))
whole_below (fin false m e) t l = rw (zero-quotient m e (up_to_zero m e t)) refl

pub reach-whole : (x : Float) → in_reach x ≡ true → exp_k x ≡ neg_ℤ (pos (halvings_of x))
reach-whole x h = whole_below x (reach-top x h) (reach-low x h)

few : (n : ℕ) → from_minus 1021 1023 (neg_ℤ (pos n)) → n ≤ 1021
few zero h = omega arith
few (suc n) h = h

pub reach_few : (x : Float) → in_reach x ≡ true → halvings_of x ≤ 1021
reach_few x h = few (halvings_of x) (subst (from_minus 1021 1023) (reach-whole x h) (exp-range x (reach-number x h) (reach-low x h) (reach-high x h)))

-- a quotient that is not below 0 has none
pub reach-none : (x : Float) (k : ℕ) → in_reach x ≡ true → exp_k x ≡ pos k → 0 ≡ halvings_of x
reach-none x k h e = alike (halvings_of x) k (sym (reach-whole x h) ∙ e)
  where
    alike : (n k : ℕ) → neg_ℤ (pos n) ≡ pos k → 0 ≡ n
    alike zero k e = refl
    alike (suc n) k e = absurd (pos-ne-negsuc k n (sym e))

pub reach-quotient : (x : Float) → in_reach x ≡ true → at_most (div binary64 x ln2) 1075
reach-quotient x h = exp-quotient x (reach-number x h) (reach-lowest x h) (reach-high x h)

-- ---- as machine numbers

pub small_signed : (n : ℕ) → n ≤ 1021 → SFits w32 (pos n)
small_signed n h = record { sfits = omega arith }

pub small-minus : (n : ℕ) → n ≤ 1021 → SFits w32 (neg_ℤ (pos n))
small-minus zero h = record { sfits = omega arith }
small-minus (suc n) h = record { sfits = omega arith }

-- 2^-u, from its bits
pub halved-power : (u : ℕ) → u ≤ 1021 → of_bits binary64 ((1023 - u) * 2 ^ 52) ≡ power (neg_ℤ (pos u))
halved-power zero h = (raised (pos 0) (omega arith)).float
halved-power (suc u) h = ap (λ (n : ℕ). of_bits binary64 (n * 2 ^ 52)) (top u (omega arith)) ∙ (raised (negsuc u) (omega arith)).float
  where
    top : (u : ℕ) → u ≤ 1020 → 1023 - suc u ≡ suc (1021 - u)
    top u h = omega arith

-- ---- its weight

pub weight-halved : (sigma d : Float) → in_reach (exponent_of sigma d) ≡ true →
    halved_by d (series_after (exponent_of sigma d) (halvings_of (exponent_of sigma d))) (halvings_of (exponent_of sigma d)) ≡ weight_of sigma d
unfolding weight_of exp_in
weight-halved sigma d h =
    let x = exponent_of sigma d in
    ap (cond (eq d zero64) zero64) (rw (sym (reach-whole x h)) refl ∙ sym (exp-in x (reach-number x h) (reach-lowest x h) (reach-high x h) (reach-low x h)))

-- ---- a block

module _ (ds : List Float) (j c : ℕ) (sigma : Float) (xs₀ xs : List Float) (us₀ us : List ℕ) (small : c ≤ block_size) (lx : length xs₀ ≡ block_size) (lu : length us₀ ≡ block_size)
    (ex : xs ≡ loop (exponent_step ds j sigma) c 0 xs₀) (eu : us ≡ loop (halving_step xs) block_size 0 us₀) (h : every (λ t. in_reach (at xs t)) block_size ≡ true) where
  xs-at : (t : ℕ) → t < c → at xs t ≡ exponent_of sigma (at ds (j + t))
  xs-at t l = ap (λ (p : List Float). at p t) ex ∙ written_at (λ t. exponent_of sigma (at ds (j + t))) nan c xs₀ (omega (arith, small, lx)) t l

  us-at : (t : ℕ) → t < block_size → num us t ≡ halvings_of (at xs t)
  us-at t l = ap (λ (p : List ℕ). num p t) eu ∙ written_at (λ t. halvings_of (at xs t)) 0 block_size us₀ (omega (arith, lu)) t l

  pub block-few : FewHalvings us
  block-few t l = subst (λ (n : ℕ). n ≤ 1021) (sym (us-at t l)) (reach_few (at xs t) (every-at _ block_size h t l))

  module _ (ts₀ ts : List Float) (lt : length ts₀ ≡ block_size) (et : ts ≡ loop (series_step xs us) block_size 0 ts₀) where
    ts_at : (t : ℕ) → t < block_size → at ts t ≡ series_after (at xs t) (num us t)
    ts_at t l = ap (λ (p : List Float). at p t) et ∙ written_at (λ t. series_after (at xs t) (num us t)) nan block_size ts₀ (omega (arith, lt)) t l

    one-weight : (t : ℕ) → t < c → halved_by (at ds (j + t)) (at ts t) (num us t) ≡ weight_of sigma (at ds (j + t))
    one-weight t l =
        let b : t < block_size = omega (arith, l, small) in
        let d = at ds (j + t) in
        ap (λ (v : Float). halved_by d v (num us t)) (ts_at t b)
        ∙ ap (λ (u : ℕ). halved_by d (series_after (at xs t) u) u) (us-at t b)
        ∙ ap (λ (x : Float). halved_by d (series_after x (halvings_of x)) (halvings_of x)) (xs-at t l)
        ∙ weight-halved sigma d (subst (λ (x : Float). in_reach x ≡ true) (xs-at t l) (every-at _ block_size h t b))

    -- the four passes are the weights of the block
    pub block-weighed : (p : List Float) → loop (halved_step ds j us ts) c 0 p ≡ loop (weigh_step ds sigma) c j p
    block-weighed p = loop-moved (weigh_step ds sigma) (halved_step ds j us ts) j c p (λ t q l. ap (set q (j + t)) (one-weight t l))
