-- What the first three records say where they stand: settings in good order, and few links. Assumes nothing.
use mathlib.Core.Path.{◌≡◌, sym, ap, ◌∙◌}
use mathlib.Core.Bool.{Bool, true, false, cond, ◌&&◌}
use Prim.Native.Nat.{ℕ, ◌*◌, ◌≤◌}
use native.Mathlib.Omega.{arith}
use lib.Dec.{eqb, leb}
use lib.IntN.{pos}
use lib.Ieee.{binary64, of_int, lt}
use borrow.Author.Tests.{leb-true, eqb-true, eqb-false, le-ltb, eq-eqb, ne_eqb}
use Rattle.laws.specs.Domain.{most_axes, most_components, most_features, most_frames, most_iterations}
use Rattle.laws.specs.Area.{bits}
use Rattle.laws.proofs.Bools.{and_left, and_right, by_bool}
use Rattle.elementary.specs.Limits.{neighbours_of}
use Rattle.run_record.specs.Record.{positive, angle_fine, angle_fault, state_fits}
use Rattle.record_words.specs.RecordWords.{method_of, standing_of}
use Rattle.parked.specs.Fine.{first_fine, second_fine, third_fine}
use Rattle.parked_fine.proofs.Laws.{most-links}

pub record FirstIn (m n f c : ℕ) : Type 0 where
  pub method : m ≤ 1
  pub n-some : 2 ≤ n
  pub n-most : n ≤ most_frames
  pub f-some : 1 ≤ f
  pub f-most : f ≤ most_features
  pub c-some : 1 ≤ c
  pub c-most : c ≤ cond (eqb m 1) most_axes most_components

pub first-told : (m n f c : ℕ) → first_fine m n f c ≡ true → FirstIn m n f c
unfolding first_fine
first-told m n f c e =
    let A = leb m 1 in
    let B = leb 2 n && leb n most_frames in
    let C = leb 1 f && leb f most_features in
    let D = leb 1 c && leb c (cond (eqb m 1) most_axes most_components) in
    let abc = and_left (A && B && C) D e in
    let ab = and_left (A && B) C abc in
    let b = and_right A B ab in
    let d = and_right (A && B && C) D e in
    let k = and_right (A && B) C abc in
    record {
      method = leb-true m 1 (and_left A B ab);
      n-some = leb-true 2 n (and_left (leb 2 n) (leb n most_frames) b);
      n-most = leb-true n most_frames (and_right (leb 2 n) (leb n most_frames) b);
      f-some = leb-true 1 f (and_left (leb 1 f) (leb f most_features) k);
      f-most = leb-true f most_features (and_right (leb 1 f) (leb f most_features) k);
      c-some = leb-true 1 c (and_left (leb 1 c) (leb c (cond (eqb m 1) most_axes most_components)) d);
      c-most = leb-true c (cond (eqb m 1) most_axes most_components) (and_right (leb 1 c) (leb c (cond (eqb m 1) most_axes most_components)) d);
    }

pub record SecondIn (m n perplexity rate iterations angle : ℕ) : Type 0 where
  pub perplexity-positive : positive (bits perplexity) ≡ true
  pub perplexity-below : lt (bits perplexity) (of_int binary64 (pos n)) ≡ true
  pub rate-positive : positive (bits rate) ≡ true
  pub iterations-some : 1 ≤ iterations
  pub iterations-most : iterations ≤ most_iterations
  pub angle-fine : cond (eqb m 1) (angle_fine (bits angle)) (eqb angle 0) ≡ true

pub second-told : (m n p r i a : ℕ) → second_fine m n p r i a ≡ true → SecondIn m n p r i a
unfolding second_fine
second-told m n p r i a e =
    let P = positive (bits p) in
    let Q = lt (bits p) (of_int binary64 (pos n)) in
    let R = positive (bits r) in
    let I = leb 1 i && leb i most_iterations in
    let T = cond (eqb m 1) (angle_fine (bits a)) (eqb a 0) in
    let pri = and_left (P && Q && R && I) T e in
    let pr = and_left (P && Q && R) I pri in
    let pq = and_left (P && Q) R pr in
    let k = and_right (P && Q && R) I pri in
    record {
      perplexity-positive = and_left P Q pq;
      perplexity-below = and_right P Q pq;
      rate-positive = and_right (P && Q) R pr;
      iterations-some = leb-true 1 i (and_left (leb 1 i) (leb i most_iterations) k);
      iterations-most = leb-true i most_iterations (and_right (leb 1 i) (leb i most_iterations) k);
      angle-fine = and_right (P && Q && R && I) T e;
    }

pub record ThirdIn (m n perplexity iterations minimum done state links : ℕ) : Type 0 where
  pub state-fits : state_fits (standing_of state) done iterations 0 (bits minimum) ≡ true
  pub links-in : links ≤ 2 * n * neighbours_of (bits perplexity) n
  pub links-none : eqb m 1 ≡ false → links ≡ 0

pub third-told : (m n p i e d s k : ℕ) → third_fine m n p i e d s k ≡ true → ThirdIn m n p i e d s k
unfolding third_fine
third-told m n p i e d s k h =
    let A = leb s 2 in
    let B = state_fits (standing_of s) d i 0 (bits e) in
    let C = cond (eqb m 1) (leb k (2 * n * neighbours_of (bits p) n)) (eqb k 0) in
    record {
      state-fits = and_right A B (and_left (A && B) C h);
      links-in = few (eqb m 1) (and_right (A && B) C h);
      links-none = λ t. eqb-true k 0
          (sym (ap (λ (b : Bool). cond b (leb k (2 * n * neighbours_of (bits p) n)) (eqb k 0)) t) ∙ and_right (A && B) C h);
    }
  where
    few : (b : Bool) → cond b (leb k (2 * n * neighbours_of (bits p) n)) (eqb k 0) ≡ true → k ≤ 2 * n * neighbours_of (bits p) n
    few true q = leb-true k (2 * n * neighbours_of (bits p) n) q
    few false q = omega (arith, eqb-true k 0 q)

-- method and angle: 5 and 6 do not bar them
pub tree-fine : (m c a : ℕ) → c ≤ cond (eqb m 1) most_axes most_components → cond (eqb m 1) (angle_fine (bits a)) (eqb a 0) ≡ true → m ≤ 1 → angle_fault (method_of m) (bits a) c ≡ 0
unfolding angle_fault method_of
tree-fine m c a h e l = by_bool (angle_fault (method_of m) (bits a) c ≡ 0) (eqb m 1)
    (λ t. let h' : c ≤ most_axes = rw t at h in let e' : angle_fine (bits a) ≡ true = rw t at e in rw (ne_eqb m 0 (λ z. absurd (omega (arith, eqb-true m 1 t))), e', le-ltb most_axes c h'))
    (λ t. rw (eq-eqb m 0 (zero_is m l (eqb-false m 1 t))))
  where
    zero_is : (m : ℕ) → m ≤ 1 → (m ≡ 1 → ⊥) → m ≡ 0
    zero_is m l n = omega (arith, n)

pub components-few : (m c : ℕ) → c ≤ cond (eqb m 1) most_axes most_components → c ≤ most_components
components-few m c h = by (eqb m 1) h
  where
    by : (b : Bool) → c ≤ cond b most_axes most_components → c ≤ most_components
    by true h = omega arith
    by false h = h

-- ---- where they stand

pub record Headed (g : ℕ → ℕ) : Type 0 where
  pub first : FirstIn (g 0) (g 1) (g 2) (g 3)
  pub second : SecondIn (g 0) (g 1) (g 4) (g 5) (g 6) (g 7)
  pub third : ThirdIn (g 0) (g 1) (g 4) (g 6) (g 8) (g 9) (g 10) (g 11)

module _ (g : ℕ → ℕ) (h : Headed g) where
  pub components-most : g 3 ≤ most_components
  components-most = components-few (g 0) (g 3) h.first.c-most

  pub links-few : g 11 ≤ 40000000
  links-few = omega (arith, h.third.links-in, most-links (bits (g 4)) (g 1) h.first.n-most)
