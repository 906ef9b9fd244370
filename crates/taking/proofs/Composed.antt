-- Picked out of what was picked: the numbers that two tests leave one after the other. Premises: those of each law.
use mathlib.Core.Path.{◌≡◌, refl, sym, ap, subst, ◌∙◌}
use mathlib.Core.Logic.{⊎_elim}
use mathlib.Core.List.{List, [], ◌∷◌, ◌++◌, map}
use mathlib.Core.Bool.{Bool, true, false, not, ◌&&◌, ◌||◌, true≢false}
use Prim.Native.Nat.{ℕ, zero, suc, ◌+◌, ◌-◌, ◌<◌}
use native.Mathlib.Omega.{arith}
use native.Mathlib.Decide.{dec_lt, ℕ_discrete}
use native.Mathlib.Numerals.{add-one}
use lib.Dec.{eqb, ltb}
use lib.ListN.{length, length-append, get_or-append}
use lib.Seq.{get_or-append_seam}
use borrow.Author.Tests.{eq-eqb, ne_eqb, lt-ltb, le-ltb}
use Rattle.laws.specs.Loops.{first}
use Rattle.laws.specs.Area.{num}
use Rattle.laws.specs.Joined.{those}
use Rattle.laws.proofs.Bools.{two, by_bool}
use Rattle.laws.proofs.Every.{every-all}
use Rattle.laws.proofs.First.{first-at, first-none, first_some, first-same}
use Rattle.laws.proofs.Joined.{those-yes, those-no, those-none, those-at, those-below, those-rise, those-same, spot_yes, spot_no, map-those, map-append, length-map, get_or-map-in}
use Rattle.take_gone.specs.Gone.{stands_at, is_among, gone_fine_at, gone_fine, survivors, Climbs}
use Rattle.take_gone.proofs.Left.{left-among}
use Rattle.take_lists.proofs.Theorems.{stands-in, stands-there}
use Rattle.taking.specs.Union.{taken_by_either, Union, union_of}

-- ---- a test of those that another test has picked

module _ (p r : ℕ → Bool) where
  -- the test p, and of the number of those below at which p holds, r
  abbrev after : ℕ → Bool
  after j = p j && r (length (those p j))

  one_more : (n : ℕ) → those after n ≡ map (num (those p n)) (those r (length (those p n))) → those after (n + 1) ≡ map (num (those p (n + 1))) (those r (length (those p (n + 1))))
  one_more n e = by_bool (those after (n + 1) ≡ map (num (those p (n + 1))) (those r (length (those p (n + 1))))) (p n)
      (λ y.
      let K = those p n in
      let L = length K in
      let long : length (K ++ (n ∷ [])) ≡ L + 1 = length-append K (n ∷ []) in
      let front : map (num (K ++ (n ∷ []))) (those r L) ≡ map (num K) (those r L) = map-those (num (K ++ (n ∷ []))) (num K) r L (λ t h. get_or-append K (n ∷ []) 0 t h) in
      rw (those-yes p n y, long) (by_bool (those after (n + 1) ≡ map (num (K ++ (n ∷ []))) (those r (L + 1))) (r L)
      (λ z. those-yes after n (rw (y, z)) ∙ ap (λ (x : List ℕ). x ++ (n ∷ [])) (e ∙ sym front)
      ∙ ap (λ (x : ℕ). map (num (K ++ (n ∷ []))) (those r L) ++ (x ∷ [])) (sym (get_or-append_seam K n [] 0))
      ∙ sym (map-append (num (K ++ (n ∷ []))) (those r L) (L ∷ [])) ∙ ap (map (num (K ++ (n ∷ [])))) (sym (those-yes r L z)))
      (λ z. those-no after n (rw (y, z)) ∙ e ∙ sym front ∙ ap (map (num (K ++ (n ∷ [])))) (sym (those-no r L z)))))
      (λ y. those-no after n (rw y) ∙ e ∙ sym (ap (λ (x : List ℕ). map (num x) (those r (length x))) (those-no p n y)))

  pub those-after : (n : ℕ) → those after n ≡ map (num (those p n)) (those r (length (those p n)))
  those-after zero = those-none after ∙ sym (ap (λ (x : List ℕ). map (num x) (those r (length x))) (those-none p) ∙ ap (map (num [])) (those-none r))
  those-after (suc n) = subst (λ (x : ℕ). those after x ≡ map (num (those p x)) (those r (length (those p x)))) (add-one n) (one_more n (those-after n))

-- two tests of the same numbers
pub those-both : (p r : ℕ → Bool) (n : ℕ) → those (λ j. p j && r j) n ≡ map (num (those p n)) (those (λ t. r (num (those p n) t)) (length (those p n)))
those-both p r n = those-same (λ j. p j && r j) (λ j. p j && r (num (those p n) (length (those p j)))) n (λ j h. alike j h (p j) refl) ∙ those-after p (λ t. r (num (those p n) t)) n
  where
    alike : (j : ℕ) → j < n → (b : Bool) → p j ≡ b → (b && r j) ≡ (b && r (num (those p n) (length (those p j))))
    alike j h true y = ap r (sym (those-at p n j h y).1)
    alike j h false y = refl

-- a number that is picked stands where as many are picked below it
pub stands_after : (p : ℕ → Bool) (n j : ℕ) → j < n → p j ≡ true → stands_at (those p n) j ≡ length (those p j)
stands_after p n j h y =
    let a = those-at p n j h y in
    first-at (λ t. eqb (num (those p n) t) j) (length (those p n)) (length (those p j)) a.0 (eq-eqb (num (those p n) (length (those p j))) j a.1)
    (λ s l. ne_eqb (num (those p n) s) j (λ e. omega (arith, those-rise p n s (length (those p j)) l a.0, a.1)))

-- numbers that are picked rise
picked-fine : (p : ℕ → Bool) (n t : ℕ) → t < length (those p n) → gone_fine_at (those p n) n t ≡ true
unfolding gone_fine_at
picked-fine p n t h = elim (ℕ_discrete t 0) [
  | yes e ↦ rw (eq-eqb t 0 e, lt-ltb (num (those p n) t) n (those-below p n t h))
  | no e ↦ rw (ne_eqb t 0 e, lt-ltb (num (those p n) (t - 1)) (num (those p n) t) (those-rise p n (t - 1) t (omega (arith, e)) h), lt-ltb (num (those p n) t) n (those-below p n t h))
]

-- ---- the frames that two removals leave

-- every two removals have a union, and it is a list that a removal takes
pub union-is : (g1 g2 : List ℕ) (n : ℕ) → Union g1 g2 (union_of g1 g2 n) n
union-is g1 g2 n = record { either = λ j h. picked (taken_by_either g1 g2 n) n j h }
  where
    picked : (p : ℕ → Bool) (n j : ℕ) → j < n → is_among (those p n) j ≡ p j
    picked p n j h = ⊎_elim
        (λ y. lt-ltb (stands_at (those p n) j) (length (those p n)) (spot_yes p n j h y) ∙ sym y)
        (λ y. le-ltb (stands_at (those p n) j) (length (those p n)) (omega (arith, spot_no p n j y)) ∙ sym y)
        (two (p j))

pub union-fine : (g1 g2 : List ℕ) (n : ℕ) → gone_fine (union_of g1 g2 n) n ≡ true
union-fine g1 g2 n = every-all (gone_fine_at (union_of g1 g2 n) n) (length (union_of g1 g2 n)) (λ t h. picked-fine (taken_by_either g1 g2 n) n t h)

-- THEOREM: the survivors of the union are the survivors of the second removal, by their places before the first
pub survivors-union : (g1 g2 u : List ℕ) (n : ℕ) → Union g1 g2 u n → survivors u n ≡ map (num (survivors g1 n)) (survivors g2 (length (survivors g1 n)))
survivors-union g1 g2 u n e =
    those-same (λ j. not (is_among u j)) (λ j. p j && r (length (those p j))) n (λ j h. ap not (e.either j h) ∙ rw (left-among g1 n j h) (by j h (is_among g1 j) refl))
    ∙ those-after p r n
  where
    p : ℕ → Bool
    p j = not (is_among g1 j)

    r : ℕ → Bool
    r i = not (is_among g2 i)

    by : (j : ℕ) → j < n → (b : Bool) → is_among g1 j ≡ b → not (b || (not b && is_among g2 (stands_at (survivors g1 n) j))) ≡ (not b && r (length (those p j)))
    by j h true y = refl
    by j h false y = ap r (stands_after p n j h (ap not y))

-- ---- a list of places in a list that rises

module _ (keep1 keep2 : List ℕ) where
  -- keep2 names places in keep1: the numbers that stand there
  abbrev pub through : List ℕ
  through = map (num keep1) keep2

  pub through-size : length through ≡ length keep2
  through-size = length-map (num keep1) keep2

  pub through-at : (i : ℕ) → i < length keep2 → num through i ≡ num keep1 (num keep2 i)
  through-at i h = get_or-map-in (num keep1) keep2 i 0 0 h

module _ (keep1 keep2 : List ℕ) (climbs : Climbs keep1) (within : (i : ℕ) → i < length keep2 → num keep2 i < length keep1) where
  -- no number stands at two places
  one_place : (a b : ℕ) → a < length keep1 → b < length keep1 → num keep1 a ≡ num keep1 b → a ≡ b
  one_place a b h k e = elim (dec_lt a b) [
    | yes l ↦ absurd (omega (arith, climbs.climb a b l k))
    | no l ↦ elim (dec_lt b a) [ yes o ↦ absurd (omega (arith, climbs.climb b a o h)) | no o ↦ omega arith ]
  ]

  same_test : (x t : ℕ) → is_among keep1 x ≡ true → t < length keep2 → eqb (num (through keep1 keep2) t) x ≡ eqb (num keep2 t) (stands_at keep1 x)
  same_test x t e h = elim (ℕ_discrete (num keep2 t) (stands_at keep1 x)) [
    | yes q ↦ eq-eqb (num (through keep1 keep2) t) x (through-at keep1 keep2 t h ∙ ap (num keep1) q ∙ stands-there keep1 x e) ∙ sym (eq-eqb (num keep2 t) (stands_at keep1 x) q)
    | no q ↦ ne_eqb (num (through keep1 keep2) t) x (λ y. q
        (one_place (num keep2 t) (stands_at keep1 x) (within t h) (stands-in keep1 x e) (sym (through-at keep1 keep2 t h) ∙ y ∙ sym (stands-there keep1 x e))))
        ∙ sym (ne_eqb (num keep2 t) (stands_at keep1 x) q)
  ]

  -- where a number of keep1 stands
  pub through-stands : (x : ℕ) → is_among keep1 x ≡ true → stands_at (through keep1 keep2) x ≡ stands_at keep2 (stands_at keep1 x)
  through-stands x e =
      ap (first (λ t. eqb (num (through keep1 keep2) t) x)) (through-size keep1 keep2)
      ∙ first-same (λ t. eqb (num (through keep1 keep2) t) x) (λ t. eqb (num keep2 t) (stands_at keep1 x)) (length keep2) (λ t h. same_test x t e h)

  stands-nowhere : (x : ℕ) → is_among keep1 x ≡ false → stands_at (through keep1 keep2) x ≡ length (through keep1 keep2)
  stands-nowhere x e = first-none (λ t. eqb (num (through keep1 keep2) t) x) (length (through keep1 keep2)) (λ t h. ne_eqb (num (through keep1 keep2) t) x (λ y.
      let k : t < length keep2 = omega (arith, through-size keep1 keep2) in
      absurd (true≢false (sym (told (num keep2 t) (within t k) (sym (through-at keep1 keep2 t k) ∙ y)) ∙ e))))
    where
      told : (a : ℕ) → a < length keep1 → num keep1 a ≡ x → is_among keep1 x ≡ true
      told a h q = lt-ltb (stands_at keep1 x) (length keep1) (first_some (λ t. eqb (num keep1 t) x) (length keep1) a h (eq-eqb (num keep1 a) x q))

  pub through-among : (x : ℕ) → is_among (through keep1 keep2) x ≡ (is_among keep1 x && is_among keep2 (stands_at keep1 x))
  through-among x = ⊎_elim
      (λ e. ap (λ (y : ℕ). ltb y (length (through keep1 keep2))) (through-stands x e)
      ∙ ap (ltb (stands_at keep2 (stands_at keep1 x))) (through-size keep1 keep2) ∙ sym (ap (λ (b : Bool). b && is_among keep2 (stands_at keep1 x)) e))
      (λ e. le-ltb (stands_at (through keep1 keep2) x) (length (through keep1 keep2)) (omega (arith, stands-nowhere x e)) ∙ sym (ap (λ (b : Bool). b && is_among keep2 (stands_at keep1 x)) e))
      (two (is_among keep1 x))
