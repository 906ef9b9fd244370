-- The next whole number up, and how large three perplexities are: what the proofs of `ceil_of` and `neighbours` cite. Assumes nothing.
use Rattle.std.proofs.Common.{◌≡◌, ℕ, zero, suc, ◌+◌, ◌-◌, ◌*◌, ◌/◌, ◌%◌, ◌^◌, ◌<◌, ◌≤◌, min, max, Bool, true, false, cond, T, eqb, ltb, ℤ, pos, sym}
use Rattle.std.proofs.Common.{refl, ap, ◌∙◌, ⊎_elim, true≢false, le_trans, le_of_eq, lt_of_lt_of_le, le_of_lt, lt_irrefl, mul-le-mul_right, mul_comm}
use Rattle.std.proofs.Common.{mul-lt-mul_of_pos_right, div-add-mod', mul-one, mul_right_comm, le_of_mul-le-mul_right, arith, lit≤, lt→ltb, ltb-false, ltb-true, le-ltb, lt-ltb}
use native.Mathlib.Nat.{div-le_of_le-mul}
use lib.Dec.{eqb-suc-zero}
use lib.Ieee.{Float, nan, inf, fin, binary64, up, down, round, mul, lt, of_int, of_bits, to_unsigned}
use lib.Ieee.Fits.{down_pos}
use lib.Ieee.Exact.{HasValue}
use lib.Ieee.Back.{round_whole}
use Rattle.laws.specs.Domain.{most_frames}
use Rattle.laws.proofs.Numbers.{order}
use Rattle.elementary.specs.Exp.{at_most}
use Rattle.elementary.proofs.Sizes.{sign_plus, signed_round, bounded}
use Rattle.elementary.specs.Limits.{ceil_of, three64, up_to_whole}

-- ---- a whole number against a value

ltb-scale : (a b k : ℕ) → 0 < k → ltb (a * k) (b * k) ≡ ltb a b
ltb-scale a b k h = ⊎_elim (λ l. le-ltb (a * k) (b * k) (mul-le-mul_right k l) ∙ sym (le-ltb a b l)) (λ l. lt-ltb (a * k) (b * k) (mul-lt-mul_of_pos_right l h) ∙ sym (lt-ltb a b l)) (order a b)

whole-lt : (z : Float) (w m : ℕ) (e : ℤ) → HasValue z false w 1 → lt z (fin false m e) ≡ ltb (w * down e) (m * up e)
unfolding lt
whole-lt nan w m e v = absurd v
whole-lt (inf s) w m e v = absurd v
whole-lt (fin true a d) w m e v = absurd (true≢false v.0)
whole-lt (fin false a d) w m e v =
    ap (λ (x : ℕ). ltb (x * down e) (m * up e * down d)) (sym (mul-one (a * up d)) ∙ v.1)
    ∙ ap (λ (x : ℕ). ltb x (m * up e * down d)) (mul_right_comm w (down d) (down e))
    ∙ ltb-scale (w * down e) (m * up e) (down d) (down_pos d)

-- ---- the cut, and the one that is added

pub record Cut (q : Float) : Type 0 where
  pub above : T (lt (fin true 1 (pos 0)) q)
  pub below : T (lt q (fin false 1 (pos 64)))
  pub small : to_unsigned 64 q ≤ (3 * most_frames)
  pub more : lt (of_int binary64 (pos (to_unsigned 64 q))) q ≡ true → to_unsigned 64 q + 1 ≡ ceil_of q
  pub even : lt (of_int binary64 (pos (to_unsigned 64 q))) q ≡ false → to_unsigned 64 q ≡ ceil_of q

pub cut : (q : Float) → up_to_whole q (3 * most_frames) → Cut q
unfolding lt to_unsigned ceil_of of_int
cut nan h = absurd h
cut (inf s) h = absurd h
cut (fin true m e) h = absurd (true≢false h.0)
cut (fin false m e) h =
    let D = down e in
    let A = m * up e in
    let l : A / D ≤ (3 * most_frames) = div-le_of_le-mul D (le_trans h.1 (le_of_eq (mul_comm (3 * most_frames) D))) in
    let u : min (A / D) (2 ^ 64 - 1) ≡ A / D = min-left (A / D) l in
    let s : lt (round binary64 false (A / D) 1) (fin false m e) ≡ ltb (A / D * D) A = whole-lt (round binary64 false (A / D) 1) (A / D) m e
    (round_whole binary64 false (A / D) (le_trans l (lit≤ tt))) in
    record {
      above = lt→ltb 0 (1 * 2 ^ 0 * D + A * 1) (omega (arith, down_pos e));
      below = lt→ltb (A * 1) (1 * 2 ^ 64 * D) (omega (arith, h.1, down_pos e));
      small = le_trans (le_of_eq u) l;
      more = λ t. rw u (left_over (A / D) D A (A % D) (div-add-mod' A D) (sym s ∙ rw u at t));
      even = λ t. rw u (nothing (A / D) D A (A % D) (div-add-mod' A D) (sym s ∙ rw u at t));
    }
  where
    min-left : (n : ℕ) → n ≤ (3 * most_frames) → min n (2 ^ 64 - 1) ≡ n
    min-left n h = omega arith

    left_over : (w d a r : ℕ) → w * d + r ≡ a → ltb (w * d) a ≡ true → w + 1 ≡ w + cond (eqb r 0) 0 1
    left_over w d a zero e t = absurd (lt_irrefl a (lt_of_lt_of_le (le_trans (le_of_eq (ap suc (sym e ∙ none (w * d)))) (ltb-true (w * d) a t)) (le_of_eq refl)))
      where
        none : (x : ℕ) → x + 0 ≡ x
        none x = omega arith
    left_over w d a (suc r) e t = rw (eqb-suc-zero r)

    nothing : (w d a r : ℕ) → w * d + r ≡ a → ltb (w * d) a ≡ false → w ≡ w + cond (eqb r 0) 0 1
    nothing w d a zero e t = omega arith
    nothing w d a (suc r) e t = absurd (over (w * d) a r e (ltb-false (w * d) a t))
      where
        over : (x a r : ℕ) → x + suc r ≡ a → a ≤ x → ⊥
        over x a r e l = omega arith

-- ---- three perplexities

under-n : (p : Float) (n : ℕ) → n ≤ most_frames → lt (of_bits binary64 0) p ≡ true → lt p (of_int binary64 (pos n)) ≡ true → up_to_whole p most_frames
unfolding lt of_bits of_int
under-n nan n h a b = absurd (true≢false (sym a))
under-n (inf true) n h a b = absurd (true≢false (sym a))
under-n (inf false) n h a b = absurd (infinite (round binary64 false n 1) (round_whole binary64 false n (le_trans h (lit≤ tt))) b)
  where
    infinite : (z : Float) → HasValue z false n 1 → lt (inf false) z ≡ true → ⊥
    infinite nan v t = v
    infinite (inf s) v t = v
    infinite (fin s m e) v t = true≢false (sym t)
under-n (fin true m e) n h a b = absurd (true≢false (sym a))
under-n (fin false m e) n h a b = (refl, value (round binary64 false n 1) (round_whole binary64 false n (le_trans h (lit≤ tt))) b)
  where
    value : (z : Float) → HasValue z false n 1 → lt (fin false m e) z ≡ true → m * up e ≤ most_frames * down e
    value nan v t = absurd v
    value (inf s) v t = absurd v
    value (fin true a d) v t = absurd (true≢false v.0)
    value (fin false a d) v t =
        let l : m * up e * down d < a * up d * down e = ltb-true (m * up e * down d) (a * up d * down e) t in
        let k : m * up e * down d ≤ n * down e * down d = le_trans (le_of_lt l) (le_of_eq (ap (λ (x : ℕ). x * down e) (sym (mul-one (a * up d)) ∙ v.1) ∙ mul_right_comm n (down d) (down e))) in
        le_trans (le_of_mul-le-mul_right {k = down d} k (down_pos d)) (mul-le-mul_right (down e) h)

both : (z : Float) → sign_plus z → at_most z (3 * most_frames) → up_to_whole z (3 * most_frames)
both nan p w = w
both (inf s) p w = w
both (fin s m e) p w = (p, w)

three-times : (p : Float) → up_to_whole p most_frames → up_to_whole (mul binary64 (fin false 3 (pos 0)) p) (3 * most_frames)
unfolding mul
three-times nan h = absurd h
three-times (inf s) h = absurd h
three-times (fin true m e) h = absurd (true≢false h.0)
three-times (fin false m e) h =
    let a = 3 * up (pos 0) * (m * up e) in
    let b = down (pos 0) * down e in
    let l : a ≤ (3 * most_frames) * b = omega (arith, h.1) in
    both (round binary64 false a b) (signed_round binary64 false a b) (bounded a b (3 * most_frames) (omega (arith, down_pos e)) (lit≤ tt) l)

pub three-bounded : (p : Float) (n : ℕ) → n ≤ most_frames → lt (of_bits binary64 0) p ≡ true → lt p (of_int binary64 (pos n)) ≡ true → up_to_whole (mul binary64 three64 p) (3 * most_frames)
unfolding of_bits
three-bounded p n h a b = three-times p (under-n p n h a b)

pub ceil-small : (q : Float) → up_to_whole q (3 * most_frames) → ceil_of q ≤ 12289
ceil-small q h = go (cut q h) (lt (of_int binary64 (pos (to_unsigned 64 q))) q) refl
  where
    go : Cut q → (b : Bool) → lt (of_int binary64 (pos (to_unsigned 64 q))) q ≡ b → ceil_of q ≤ 12289
    go k true t = omega (arith, k.more t, k.small)
    go k false t = omega (arith, k.even t, k.small)

pub one-neighbour : (k n : ℕ) → n < 3 → 1 ≡ max 1 (min (k + 1) (n - 1))
one-neighbour k n h = omega arith

pub all_others : (k n : ℕ) → 3 ≤ n → n - 1 < k + 1 → n - 1 ≡ max 1 (min (k + 1) (n - 1))
all_others k n h l = omega arith

pub nearest-ones : (k n : ℕ) → k + 1 ≤ n - 1 → k + 1 ≡ max 1 (min (k + 1) (n - 1))
nearest-ones k n h = omega arith
