-- Which records rise, and the first at which a rule fails. Assumes nothing.
use mathlib.Core.Path.{◌≡◌, refl, sym, ap, subst, ◌∙◌}
use mathlib.Core.List.{List}
use mathlib.Core.Bool.{Bool, true, false, not, ◌&&◌, ◌||◌, true≢false}
use Prim.Native.Nat.{ℕ, zero, suc, ◌+◌, ◌-◌, ◌<◌, ◌≤◌}
use native.Mathlib.Omega.{arith}
use native.Mathlib.Decide.{dec_lt}
use lib.Dec.{eqb, ltb}
use borrow.Author.Tests.{ne_eqb, lt-ltb, le-ltb, ltb-true}
use Rattle.laws.specs.Loops.{first}
use Rattle.laws.proofs.First.{first_holds, first-none, first-le, first-before, first-at}
use Rattle.partner.specs.Partner.{whole_links, given_links, link_pair, link_fine, mirrored, partner_fine, first_bad_link, PairsRise}

-- ---- pairs that rise one after the other

pub rise-none : (f : List ℕ) (a : ℕ) → PairsRise f a 0
rise-none f a = record { rises = λ s t l m. absurd (omega arith) }

pub rise_one : (f : List ℕ) (a : ℕ) → PairsRise f a 1
rise_one f a = record { rises = λ s t l m. absurd (omega arith) }

-- each is above the one before it
pub rise_steps : (f : List ℕ) (a k : ℕ) → ((t : ℕ) → t + 1 < k → link_pair f (a + t) < link_pair f (a + (t + 1))) → PairsRise f a k
rise_steps f a k h = record { rises = by }
  where
    by : (s t : ℕ) → s < t → t < k → link_pair f (a + s) < link_pair f (a + t)
    by s zero l m = absurd (omega arith)
    by s (suc t) l m = elim (dec_lt s t) [
      | yes q ↦ omega (arith, by s t q (omega arith), last t m)
      | no q ↦ omega (arith, last t m, ap (link_pair f) (same s t l q))
    ]
      where
        same : (s t : ℕ) → s < suc t → (s < t → ⊥) → a + s ≡ a + t
        same s t l q = omega arith

        last : (t : ℕ) → suc t < k → link_pair f (a + t) < link_pair f (a + suc t)
        last t m = subst (λ (x : ℕ). link_pair f (a + t) < link_pair f (a + x)) (omega arith) (h t (omega arith))

-- what the test of a record says: it is the first, or above the one before it
pub raised-above : (f : List ℕ) (i : ℕ) → (eqb i 0 || ltb (link_pair f (i - 1)) (link_pair f i)) ≡ true → 0 < i → link_pair f (i - 1) < link_pair f i
raised-above f i e l = ltb-true _ _ (rw (ne_eqb i 0 (λ q. omega (arith, q))) at e)

-- one more
pub rise-next : {f : List ℕ} {a k : ℕ} → 1 ≤ k → PairsRise f a k → (eqb (a + k) 0 || ltb (link_pair f (a + k - 1)) (link_pair f (a + k))) ≡ true → PairsRise f a (k + 1)
rise-next {f} {a} {k} n r e = rise_steps f a (k + 1) by
  where
    by : (t : ℕ) → t + 1 < k + 1 → link_pair f (a + t) < link_pair f (a + (t + 1))
    by t l = elim (dec_lt (t + 1) k) [
      | yes q ↦ r.rises t (t + 1) (omega arith) q
      | no q ↦ omega (arith, raised-above f (a + k) e (omega arith), ap (link_pair f) (before t l q), ap (link_pair f) (here t l q))
    ]
      where
        before : (t : ℕ) → t + 1 < k + 1 → (t + 1 < k → ⊥) → a + t ≡ a + k - 1
        before t l q = omega arith

        here : (t : ℕ) → t + 1 < k + 1 → (t + 1 < k → ⊥) → a + (t + 1) ≡ a + k
        here t l q = omega arith

-- ---- the first that is unfit, and those before it

module _ (n most : ℕ) (f : List ℕ) where
  abbrev unfit : ℕ → Bool
  unfit i = not (link_fine n most f i)

  abbrev pub first_unfit : ℕ
  first_unfit = first unfit (whole_links f)

  pub unfit-within : first_unfit ≤ whole_links f
  unfit-within = first-le unfit (whole_links f)

  not-no : {b : Bool} → not b ≡ false → b ≡ true
  not-no {b = true} e = refl
  not-no {b = false} e = absurd (true≢false e)

  pub fit-before : (i : ℕ) → i < first_unfit → link_fine n most f i ≡ true
  fit-before i l = not-no (first-before unfit (whole_links f) i l)

  -- ---- the first bad one

  whole-given : whole_links f ≤ given_links f
  whole-given = omega arith

  fine-both : (i : ℕ) → i < whole_links f → link_fine n most f i ≡ true → mirrored f i ≡ true → not (partner_fine n most f i) ≡ false
  unfolding partner_fine
  fine-both i l e m = rw (lt-ltb i (whole_links f) l, e, m)

  no-mirror : (i : ℕ) → mirrored f i ≡ false → not (partner_fine n most f i) ≡ true
  unfolding partner_fine
  no-mirror i e = rw e (and_none (ltb i (whole_links f)) (link_fine n most f i))
    where
      and_none : (a b : Bool) → not (a && b && false) ≡ true
      and_none true true = refl
      and_none true false = refl
      and_none false b = refl

  not-fine : (i : ℕ) → unfit i ≡ true → not (partner_fine n most f i) ≡ true
  unfolding partner_fine
  not-fine i e = by (ltb i (whole_links f)) (link_fine n most f i) e
    where
      by : (a b : Bool) → not b ≡ true → not (a && b && mirrored f i) ≡ true
      by true true e = absurd (true≢false (sym e))
      by true false e = refl
      by false b e = refl

  past-whole : (i : ℕ) → whole_links f ≤ i → not (partner_fine n most f i) ≡ true
  unfolding partner_fine
  past-whole i l = rw (le-ltb i (whole_links f) l)

  abbrev lonely : ℕ → Bool
  lonely i = not (mirrored f i)

  -- none before the first unfit or lonely one is bad
  good-before : (i : ℕ) → i < first lonely first_unfit → not (partner_fine n most f i) ≡ false
  good-before i l =
      let u : i < first_unfit = omega (arith, first-le lonely first_unfit) in
      fine-both i (omega (arith, unfit-within)) (fit-before i u) (not-no (first-before lonely first_unfit i l))

  -- the first record without a mirror before the first that is unfit, or that one, or the stray tail, or the end
  pub first-bad-told : first lonely first_unfit ≡ first_bad_link n most f
  unfolding first_bad_link
  first-bad-told =
      let r = first lonely first_unfit in
      elim (dec_lt r (given_links f)) [
        | yes g ↦ sym (first-at (λ i. not (partner_fine n most f i)) (given_links f) r g (bad-there g) good-before)
        | no g ↦ reached (omega arith) ∙ sym (first-none (λ i. not (partner_fine n most f i)) (given_links f) (λ t l. good-before t (omega arith)))
      ]
    where
      reached : given_links f ≤ first lonely first_unfit → first lonely first_unfit ≡ given_links f
      reached h = omega (arith, first-le lonely first_unfit, unfit-within, whole-given)

      there : (x : ℕ) → x ≡ first lonely first_unfit → not (partner_fine n most f x) ≡ true → not (partner_fine n most f (first lonely first_unfit)) ≡ true
      there x q e = subst (λ (y : ℕ). not (partner_fine n most f y) ≡ true) q e

      bad-there : first lonely first_unfit < given_links f → not (partner_fine n most f (first lonely first_unfit)) ≡ true
      bad-there g = elim (dec_lt (first lonely first_unfit) first_unfit) [
        | yes l ↦ no-mirror (first lonely first_unfit) (not_yes (first_holds lonely first_unfit l))
        | no l ↦ elim (dec_lt first_unfit (whole_links f)) [
          | yes w ↦ there first_unfit (omega (arith, first-le lonely first_unfit)) (not-fine first_unfit (first_holds unfit (whole_links f) w))
          | no w ↦ past-whole (first lonely first_unfit) (omega (arith, first-le lonely first_unfit))
        ]
      ]
        where
          not_yes : {b : Bool} → not b ≡ true → b ≡ false
          not_yes {b = true} e = absurd (true≢false (sym e))
          not_yes {b = false} e = refl
