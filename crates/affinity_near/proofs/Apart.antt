-- What the squares and a row of distances hold, place by place, and that the k nearest of a row are those of the frames. Assumes nothing.
use mathlib.Core.Path.{◌≡◌, refl, sym, ap, ◌∙◌}
use mathlib.Core.Logic.{⊎_elim}
use mathlib.Core.List.{List}
use mathlib.Core.Bool.{Bool, true, false, cond, not, true≢false}
use Prim.Native.Nat.{ℕ, zero, suc, ◌<◌, ◌≤◌}
use native.Mathlib.Omega.{arith}
use native.Mathlib.Decide.{ℕ_discrete}
use lib.Dec.{eqb}
use lib.Ieee.{Float, nan, inf, fin, lt, of_bits}
use lib.ListN.{length, drop, take, length-set}
use lib.Seq.{get_or-set_same, get_or-set_other, drop-set-lt}
use Rattle.laws.specs.Loops.{loop}
use Rattle.laws.specs.Area.{at, zero64}
use Rattle.laws.proofs.Bools.{two}
use Rattle.laws.proofs.Written.{written_at, written-size, written-tail}
use Rattle.elementary.specs.Limits.{unless_above}
use Rattle.affinity_distances.specs.Distances.{square_of, squares_of, Squared, distance_of, distance_step, distance_row}
use Rattle.affinity_near.specs.Near.{Pair, pair, insert, sorted, nearest_by, nearest_of, plain, Plains}
use Rattle.affinity_near.proofs.Entering.{one_more, none-next}
use Rattle.affinity_near.proofs.Rows.{is-own}

-- ---- a distance is plain

pub above-plain : (d : Float) → plain (unless_above zero64 d) ≡ true
unfolding plain unless_above lt of_bits
above-plain nan = refl
above-plain (inf true) = refl
above-plain (inf false) = refl
above-plain (fin true m e) = refl
above-plain (fin false m e) = go (lt zero64 (fin false m e))
  where
    go : (b : Bool) → plain (cond b (fin false m e) zero64) ≡ true
    go true = refl
    go false = refl

pub distance-plain : (t : List Float) (f i j : ℕ) → plain (distance_of t f i j) ≡ true
unfolding distance_of
distance-plain t f i j = above-plain _

zero-plain : plain zero64 ≡ true
unfolding plain of_bits
zero-plain = refl

-- ---- pairs that agree where they are named sort alike

sorted-same : (b : Bool) (p : ℕ → Bool) (f g : ℕ → Pair) (n : ℕ) → ((j : ℕ) → j < n → p j ≡ true → f j ≡ g j) → sorted b p f n ≡ sorted b p g n
unfolding sorted
sorted-same b p f g zero h = refl
sorted-same b p f g (suc n) h =
    let e = sorted-same b p f g n (λ j l. h j (omega arith)) in
    ⊎_elim
    (λ y. one_more b p f n y ∙ ap (λ (x : Pair). insert b x (sorted b p f n)) (h n (omega arith) y) ∙ ap (insert b (g n)) e ∙ sym (one_more b p g n y))
    (λ y. none-next b p f n y ∙ e ∙ sym (none-next b p g n y))
    (two (p n))

-- ---- the areas

module _ (t : List Float) (n f : ℕ) where
  pub squares-known : (p : List Float) → n ≤ length p → Squared t n f (squares_of t n f p)
  squares-known p h = written_at (square_of t f) nan n p h

  module _ (i : ℕ) (p : List Float) (h : n ≤ length p) where
    abbrev filled : List Float
    filled = loop (distance_step t f i) n 0 p

    pub row-size : length (distance_row t n f i p) ≡ length p
    row-size = length-set filled i zero64 ∙ written-size (distance_of t f i) n p

    pub row-tail : i < n → drop n (distance_row t n f i p) ≡ drop n p
    row-tail l = drop-set-lt n filled i zero64 l ∙ written-tail (distance_of t f i) n p

    pub row-own : i < n → at (distance_row t n f i p) i ≡ zero64
    row-own l = get_or-set_same filled i zero64 nan (omega (arith, written-size (distance_of t f i) n p))

    pub row_other : (j : ℕ) → j < n → (j ≡ i → ⊥) → at (distance_row t n f i p) j ≡ distance_of t f i j
    row_other j l d = get_or-set_other filled i j zero64 nan d ∙ written_at (distance_of t f i) nan n p h j l

    pub row_plain : Plains (distance_row t n f i p) n
    row_plain j l = elim (ℕ_discrete j i) [
      | yes e ↦ rw e (ap plain (row-own (rw e at l)) ∙ zero-plain)
      | no d ↦ ap plain (row_other j l d) ∙ distance-plain t f i j
    ]

    -- frame i's own place is not asked
    pub nearest-frames : (k : ℕ) → nearest_of (distance_row t n f i p) n k i ≡ nearest_by (distance_of t f i) n k i
    nearest-frames k = ap (take k) (sorted-same true (λ j. not (eqb j i)) (λ j. pair (at (distance_row t n f i p) j) j) (λ j. pair (distance_of t f i j) j) n
        (λ j l e. ap (λ (v : Float). pair v j) (row_other j l (λ q. true≢false (sym e ∙ is-own p i j q)))))
