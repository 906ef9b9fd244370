-- How many links are left: no list grows, so what is written ends no higher than the list that is read begins. Premises: `Listed`, `Climbs`, `Staying`.
use mathlib.Core.Path.{◌≡◌, refl, ap, subst, ◌∙◌}
use mathlib.Core.List.{List, map}
use mathlib.Core.Bool.{Bool}
use Prim.Native.Nat.{ℕ, zero, suc, ◌+◌, ◌-◌, ◌<◌, ◌≤◌}
use native.Mathlib.Omega.{arith}
use native.Mathlib.Decide.{ℕ_discrete}
use native.Mathlib.Numerals.{add-one}
use native.Mathlib.Nat.{le_refl, mul-one}
use lib.ListN.{length}
use Rattle.laws.specs.Sums.{bit}
use Rattle.laws.specs.Area.{num}
use Rattle.laws.specs.Joined.{those, joined}
use Rattle.laws.proofs.Sums.{sum-none, sum-next, sum_same, sum-le, sum-const, bit_le}
use Rattle.laws.proofs.Joined.{length-those, length-joined, length-map}
use Rattle.laws.proofs.Laid.{singles-size}
use Rattle.take_gone.specs.Gone.{stands_at, is_among, Climbs}
use Rattle.take_rows.specs.Rows.{Staying}
use Rattle.take_lists.specs.Packed.{kept_links, links_before, packed_offsets, Listed}
use Rattle.take_lists.specs.Steps.{kept_from}

-- no more numbers are picked than there are
pub those-few : (p : ℕ → Bool) (n : ℕ) → length (those p n) ≤ n
those-few p n = omega (arith, length-those p n, sum-le (λ j. bit (p j)) (λ j. 1) n (λ j l. bit_le (p j)), sum-const 1 n, mul-one n)

-- the links of a frame are those of its list
pub kept-from : (keep I O : List ℕ) (j : ℕ) → kept_links keep I O j ≡ kept_from keep I (num O j) (num O (j + 1) - num O j)
unfolding kept_links
kept-from keep I O j = refl

pub kept-few : (keep I O : List ℕ) (j : ℕ) → length (kept_links keep I O j) ≤ num O (j + 1) - num O j
kept-few keep I O j = omega (arith, ap length (kept-from keep I O j), those-few (λ t. is_among keep (num I (num O j + t))) (num O (j + 1) - num O j))

-- the packed areas have a place for each link that is left, the offsets one more than there are lists
pub packed-indices-size : (keep I O : List ℕ) (i : ℕ)
    → length (joined (λ h. map (λ t. stands_at keep (num I (num O (num keep h) + t))) (kept_links keep I O (num keep h))) i) ≡ links_before keep I O i
packed-indices-size keep I O i =
    length-joined (λ h. map (λ t. stands_at keep (num I (num O (num keep h) + t))) (kept_links keep I O (num keep h))) i
    ∙ sum_same (λ h. length (map (λ t. stands_at keep (num I (num O (num keep h) + t))) (kept_links keep I O (num keep h)))) (λ h. length (kept_links keep I O (num keep h))) i
    (λ h l. length-map (λ t. stands_at keep (num I (num O (num keep h) + t))) (kept_links keep I O (num keep h)))

pub packed-weights-size : (keep W I O : List ℕ) (i : ℕ)
    → length (joined (λ h. map (λ t. num W (num O (num keep h) + t)) (kept_links keep I O (num keep h))) i) ≡ links_before keep I O i
packed-weights-size keep W I O i =
    length-joined (λ h. map (λ t. num W (num O (num keep h) + t)) (kept_links keep I O (num keep h))) i
    ∙ sum_same (λ h. length (map (λ t. num W (num O (num keep h) + t)) (kept_links keep I O (num keep h)))) (λ h. length (kept_links keep I O (num keep h))) i
    (λ h l. length-map (λ t. num W (num O (num keep h) + t)) (kept_links keep I O (num keep h)))

pub packed-offsets-size : (keep I O : List ℕ) → length (packed_offsets keep I O) ≡ length keep + 1
packed-offsets-size keep I O = singles-size (links_before keep I O) (length keep + 1)

pub before-none : (keep I O : List ℕ) → links_before keep I O 0 ≡ 0
before-none keep I O = sum-none (λ h. length (kept_links keep I O (num keep h)))

pub before-next : (keep I O : List ℕ) (i : ℕ) → links_before keep I O (i + 1) ≡ links_before keep I O i + length (kept_links keep I O (num keep i))
before-next keep I O i = sum-next (λ h. length (kept_links keep I O (num keep h))) i

module _ {n w x : ℕ} {O : List ℕ} (lists : Listed n w x O) where
  -- the lists lie one after the other
  pub lists-rise : (i j : ℕ) → i ≤ j → j ≤ n → num O i ≤ num O j
  lists-rise i zero h m = subst (λ (y : ℕ). num O i ≤ num O y) (nil i h) (le_refl (num O i))
    where
      nil : (i : ℕ) → i ≤ 0 → i ≡ 0
      nil i h = omega arith
  lists-rise i (suc j) h m = elim (ℕ_discrete i (suc j)) [
    | yes e ↦ subst (λ (y : ℕ). num O i ≤ num O y) e (le_refl (num O i))
    | no d ↦ omega (arith, lists-rise i j (omega arith) (omega arith), lists.offsets-rise j (omega arith), ap (num O) (add-one j))
  ]

  module _ {keep : List ℕ} (I : List ℕ) (climbs : Climbs keep) (kept : Staying keep n) where
    -- the first i lists give no more links than lie before the next that is read
    pub before-low : (i : ℕ) → i < length keep → links_before keep I O i ≤ num O (num keep i)
    before-low zero l = omega (arith, before-none keep I O)
    before-low (suc i) l =
        omega (
          arith,
          ap (links_before keep I O) (add-one i),
          before-next keep I O i,
          before-low i (omega arith),
          kept-few keep I O (num keep i),
          lists.offsets-rise (num keep i) (kept.below i (omega arith)),
          lists-rise (num keep i + 1) (num keep (suc i)) (omega (arith, climbs.climb i (suc i) (omega arith) l)) (omega (arith, kept.below (suc i) l)),
        )

    pub before-below : (i : ℕ) → i < length keep → links_before keep I O (i + 1) ≤ num O (num keep i + 1)
    before-below i l = omega (arith, before-next keep I O i, before-low i l, kept-few keep I O (num keep i), lists.offsets-rise (num keep i) (kept.below i l))

    -- no more links are left than there were
    pub before-all : (i : ℕ) → i ≤ length keep → links_before keep I O i ≤ num O n
    before-all zero h = omega (arith, before-none keep I O)
    before-all (suc i) h = omega (arith, ap (links_before keep I O) (add-one i), before-below i (omega arith), lists-rise (num keep i + 1) n (omega (arith, kept.below i (omega arith))) (omega arith))
