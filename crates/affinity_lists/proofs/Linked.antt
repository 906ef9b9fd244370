-- Laws of links: a link is one both ways, and how many there are in all. Assumes nothing.
use mathlib.Core.Path.{◌≡◌, refl, sym, ap, subst, ◌∙◌}
use mathlib.Core.List.{List}
use mathlib.Core.Bool.{Bool, true, false, not, ◌||◌, ◌&&◌}
use Prim.Native.Nat.{ℕ, ◌+◌, ◌*◌, ◌<◌, ◌≤◌}
use native.Mathlib.Omega.{arith}
use native.Mathlib.Decide.{dec_lt}
use native.Mathlib.Nat.{mul-one, mul-le-mul_right}
use lib.Dec.{eqb}
use lib.Ieee.{Float}
use lib.ListN.{length}
use borrow.Author.Tests.{ne_eqb, lt-ltb, le-ltb}
use Rattle.laws.specs.Domain.{most_frames}
use Rattle.laws.specs.Area.{at, num, zero64}
use Rattle.laws.specs.Sums.{sum, bit}
use Rattle.laws.specs.Joined.{joined}
use Rattle.laws.proofs.Bools.{or_left, or_right}
use Rattle.laws.proofs.First.{first-none}
use Rattle.laws.proofs.Sums.{sum_same, sum-add, sum-const, sum-swap, sum-le, bit_le, bit-next, bit-left, bit-miss, bit-and-true, row-sum}
use Rattle.laws.proofs.Joined.{length-those, length-joined, length-map}
use Rattle.affinity_links.specs.Links.{plus_of}
use Rattle.affinity_lists.specs.Lists.{Rows, place, names, linked, joint, weight, list_of, weights_of, list_start, links_of}
use Rattle.affinity_lists.specs.Steps.{miss_of, misses_of}

or_comm : (a b : Bool) → (a || b) ≡ (b || a)
or_comm true true = refl
or_comm true false = refl
or_comm false true = refl
or_comm false false = refl

module _ (k : ℕ) (J : List ℕ) (S : List Float) where
  pub linked-comm : (i j : ℕ) → linked k J i j ≡ linked k J j i
  linked-comm i j = or_comm (names k J i j) (names k J j i)

  weight-up : (i j : ℕ) → i < j → weight k J S i j ≡ joint k J S i j
  unfolding weight
  weight-up i j h = rw (lt-ltb i j h)

  pub weight-down : (i j : ℕ) → j ≤ i → weight k J S i j ≡ joint k J S j i
  unfolding weight
  weight-down i j h = rw (le-ltb i j h)

  pub weight-comm : (i j : ℕ) → weight k J S i j ≡ weight k J S j i
  weight-comm i j = elim (dec_lt i j) [
    | yes l ↦ weight-up i j l ∙ sym (weight-down j i (omega arith))
    | no m ↦ elim (dec_lt j i) [
      | yes l ↦ weight-down i j (omega arith) ∙ sym (weight-up j i l)
      | no w ↦ subst (λ (x : ℕ). weight k J S i x ≡ weight k J S x i) (same i j m w) refl
    ]
  ]
    where
      same : (i j : ℕ) → (i < j → ⊥) → (j < i → ⊥) → i ≡ j
      same i j a b = omega arith

  joint-none : (a b : ℕ) → names k J a b ≡ false → names k J b a ≡ false → joint k J S a b ≡ zero64
  joint-none a b e f = rw (f, e)

  pub weight-none : (i j : ℕ) → linked k J i j ≡ false → weight k J S i j ≡ zero64
  weight-none i j e = elim (dec_lt i j) [
    | yes l ↦ weight-up i j l ∙ joint-none i j (or_left (names k J i j) (names k J j i) e) (or_right (names k J i j) (names k J j i) e)
    | no m ↦ weight-down i j (omega arith) ∙ joint-none j i (or_right (names k J i j) (names k J j i) e) (or_left (names k J i j) (names k J j i) e)
  ]

-- a frame is not linked with itself
pub linked-self : (n k : ℕ) (J : List ℕ) → Rows n k J → (i : ℕ) → i < n → linked k J i i ≡ false
linked-self n k J r i h = rw (le-ltb (place k J i i) k (le_of (first-none (λ t. eqb (num J (i * k + t)) i) k (λ t l. ne_eqb (num J (i * k + t)) i (r.other i t h l)))))
  where
    le_of : place k J i i ≡ k → k ≤ place k J i i
    le_of e = omega arith

pub plus-same : (W S : List Float) (a b k p : ℕ) (s : Float) → ((t : ℕ) → t < k → at W (a + t) ≡ at S (b + t)) → plus_of W a k p s ≡ plus_of S b k p s
plus-same W S a b k p s h = elim (dec_lt p k) [
  | yes l ↦ rw (lt-ltb p k l, h p l)
  | no m ↦ rw (le-ltb p k (omega arith))
]

-- ---- how many

module _ (n k : ℕ) (J : List ℕ) (S : List Float) where
  pub length-weights : (i : ℕ) → length (joined (weights_of n k J S) i) ≡ list_start n k J i
  length-weights i =
      length-joined (weights_of n k J S) i
      ∙ sum_same (λ j. length (weights_of n k J S j)) (λ j. length (list_of n k J j)) i (λ j l. length-map (weight k J S j) (list_of n k J j))
      ∙ sym (length-joined (list_of n k J) i)

module _ (k : ℕ) (J : List ℕ) where
  pub miss-le : (j t : ℕ) → miss_of k J j t ≤ 1
  unfolding miss_of
  miss-le j t = subst (λ (x : ℕ). x ≤ 1) (bit-miss (names k J (num J (j * k + t)) j)) (bit_le (not (names k J (num J (j * k + t)) j)))

  pub misses-le : (j : ℕ) → misses_of k J j ≤ k
  misses-le j = omega (arith, sum-le (miss_of k J j) (λ t. 1) k (λ t m. miss-le j t), sum-const 1 k, mul-one k)

module _ (n k : ℕ) (J : List ℕ) (R : Rows n k J) where
  row-all : (g : ℕ → Bool) (j : ℕ) → j < n → sum (λ i. bit (names k J j i && g i)) n ≡ sum (λ t. bit (g (num J (j * k + t)))) k
  row-all g j h = row-sum (λ t. num J (j * k + t)) g k n (λ t l. R.inside j t h l) (R.rising j h)

  -- a row names k frames
  row_count : (i : ℕ) → i < n → sum (λ j. bit (names k J i j)) n ≡ k
  unfolding bit
  row_count i h =
      sum_same (λ j. bit (names k J i j)) (λ j. bit (names k J i j && true)) n (λ j l. bit-and-true (names k J i j))
      ∙ row-all (λ j. true) i h ∙ sum-const 1 k ∙ mul-one k

  degree : (i : ℕ) → length (list_of n k J i) ≡ sum (λ j. bit (names k J i j || names k J j i)) n
  degree i = length-those (linked k J i) n

  pub degree-least : (i : ℕ) → i < n → k ≤ length (list_of n k J i)
  degree-least i h = omega (arith, degree i, row_count i h, sum-le (λ j. bit (names k J i j)) (λ j. bit (names k J i j || names k J j i)) n (λ j l. bit-left (names k J i j) (names k J j i)))

  abbrev extra : ℕ → ℕ → ℕ
  extra i j = bit (names k J j i && not (names k J i j))

  pub links-count : links_of n k J ≡ n * k + sum (misses_of k J) n
  unfolding miss_of
  links-count =
      length-joined (list_of n k J) n
      ∙ sum_same (λ i. length (list_of n k J i)) (λ i. k + sum (extra i) n) n (λ i l.
      degree i
      ∙ sum_same (λ j. bit (names k J i j || names k J j i)) (λ j. bit (names k J i j) + extra i j) n (λ j m. bit-next (names k J i j) (names k J j i))
      ∙ sum-add (λ j. bit (names k J i j)) (extra i) n
      ∙ ap (λ (x : ℕ). x + sum (extra i) n) (row_count i l))
      ∙ sum-add (λ i. k) (λ i. sum (extra i) n) n
      ∙ ap (λ (x : ℕ). x + sum (λ i. sum (extra i) n) n) (sum-const k n)
      ∙ ap (λ (x : ℕ). n * k + x) (sum-swap extra n n
      ∙ sum_same (λ j. sum (λ i. extra i j) n) (misses_of k J) n (λ j l.
      row-all (λ i. not (names k J i j)) j l
      ∙ sum_same (λ t. bit (not (names k J (num J (j * k + t)) j))) (miss_of k J j) k (λ t m. bit-miss (names k J (num J (j * k + t)) j))))

  pub links-most : links_of n k J ≤ 2 * (n * k)
  links-most = omega (arith, links-count, sum-le (misses_of k J) (λ j. k) n (λ j l. misses-le k J j), sum-const k n)

  pub links-least : n * k ≤ links_of n k J
  links-least = omega (arith, links-count)

  -- list i begins no lower than row i
  pub start-least : (i : ℕ) → i ≤ n → i * k ≤ list_start n k J i
  start-least i h = omega (arith, length-joined (list_of n k J) i, sum-const k i, sum-le (λ j. k) (λ j. length (list_of n k J j)) i (λ j l. degree-least j (omega arith)))

  -- no more than a place of an area of 2^32
  pub links-small : n ≤ most_frames → k < n → links_of n k J ≤ 2 * (most_frames * most_frames)
  links-small h l = omega (arith, links-most, mul-le-mul_right k h)
