-- A list that rises, followed with an index of its own while all numbers are gone through: what stands at the index tells whether a number is in the list. Assumes nothing.
use mathlib.Core.Path.{◌≡◌, sym, ap, ◌∙◌}
use mathlib.Core.List.{List}
use mathlib.Core.Bool.{true, false, true≢false}
use Prim.Native.Nat.{ℕ, ◌+◌, ◌<◌, ◌≤◌}
use native.Mathlib.Omega.{arith}
use native.Mathlib.Nat.{le_refl}
use native.Mathlib.Decide.{dec_lt, ℕ_discrete}
use lib.Dec.{eqb}
use lib.ListN.{length}
use borrow.Author.Tests.{eq-eqb, ne_eqb, eqb-true, lt-ltb, le-ltb, ltb-true}
use Rattle.laws.specs.Area.{num}
use Rattle.laws.proofs.First.{first-none, first_some, first_holds}
use Rattle.take_gone.specs.Gone.{stands_at, is_among, Climbs, Abreast}

-- a number that stands in the list is in it, one that stands nowhere is not
among : (l : List ℕ) (j t : ℕ) → t < length l → num l t ≡ j → is_among l j ≡ true
among l j t h e = lt-ltb (stands_at l j) (length l) (first_some (λ t. eqb (num l t) j) (length l) t h (eq-eqb (num l t) j e))

not-among : (l : List ℕ) (j : ℕ) → ((t : ℕ) → t < length l → num l t ≡ j → ⊥) → is_among l j ≡ false
not-among l j h = le-ltb (stands_at l j) (length l) (omega (arith, first-none (λ t. eqb (num l t) j) (length l) (λ t a. ne_eqb (num l t) j (h t a))))

pub abreast-start : {l : List ℕ} → Climbs l → Abreast l 0 0
abreast-start c = record { rises = c; within = omega arith; passed = λ t a. absurd (omega arith); ahead = λ t a h. omega arith }

module _ {l : List ℕ} {g j : ℕ} (r : Abreast l g j) where
  -- j can stand at g alone
  only : (t : ℕ) → t < length l → num l t ≡ j → g ≡ t
  only t h e = elim (dec_lt t g) [
    | yes a ↦ absurd (omega (arith, r.passed t a))
    | no a ↦ elim (dec_lt g t) [ yes b ↦ absurd (omega (arith, r.rises.climb g t b h, r.ahead g (le_refl g) (omega arith))) | no b ↦ omega arith ]
  ]

  pub abreast-here : g < length l → eqb (num l g) j ≡ is_among l j
  abreast-here h = elim (ℕ_discrete (num l g) j) [
    | yes e ↦ eq-eqb (num l g) j e ∙ sym (among l j g h e)
    | no e ↦ ne_eqb (num l g) j e ∙ sym (not-among l j (λ t a q. e (ap (num l) (only t a q) ∙ q)))
  ]

  pub abreast-end : length l ≤ g → false ≡ is_among l j
  abreast-end h = sym (not-among l j (λ t a q. omega (arith, only t a q)))

  stands : is_among l j ≡ true → (g < length l) × (num l g ≡ j)
  stands e = (omega (arith, inside, here), ap (num l) here ∙ eqb-true (num l (stands_at l j)) j (first_holds (λ t. eqb (num l t) j) (length l) inside))
    where
      inside : stands_at l j < length l
      inside = ltb-true (stands_at l j) (length l) e

      here : g ≡ stands_at l j
      here = only (stands_at l j) inside (eqb-true (num l (stands_at l j)) j (first_holds (λ t. eqb (num l t) j) (length l) inside))

  -- where j is in the list, it is passed
  pub abreast-room : is_among l j ≡ true → g < length l
  abreast-room e = (stands e).0

  pub abreast-pass : is_among l j ≡ true → Abreast l (g + 1) (j + 1)
  abreast-pass e = record {
    rises = r.rises;
    within = omega (arith, (stands e).0);
    passed = λ t a. elim (dec_lt t g) [ yes b ↦ omega (arith, r.passed t b) | no b ↦ omega (arith, ap (num l) (same t g a b), (stands e).1) ];
    ahead = λ t a h. omega (arith, r.rises.climb g t (omega arith) h, (stands e).1);
  }
    where
      same : (t g : ℕ) → t < g + 1 → (t < g → ⊥) → t ≡ g
      same t g a b = omega arith

  -- where it is not, the index stays
  pub abreast-next : is_among l j ≡ false → Abreast l g (j + 1)
  abreast-next e = record {
    rises = r.rises;
    within = r.within;
    passed = λ t a. omega (arith, r.passed t a);
    ahead = λ t a h. elim (ℕ_discrete (num l t) j) [ yes q ↦ absurd (true≢false (sym (among l j t h q) ∙ e)) | no q ↦ omega (arith, r.ahead t a h) ];
  }
