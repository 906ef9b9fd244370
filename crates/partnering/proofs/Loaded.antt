-- An accepted list in the areas: its offsets and indices are in good order, and no area changes its length. The premise is that the list is accepted; nothing else is assumed.
use mathlib.Core.Path.{◌≡◌, ap, ◌∙◌}
use mathlib.Core.List.{List, ◌++◌}
use mathlib.Core.Bool.{Bool, true, false}
use Prim.Native.Nat.{ℕ, ◌+◌, ◌-◌, ◌<◌, ◌≤◌}
use native.Mathlib.Omega.{arith}
use native.Mathlib.Decide.{ℕ_discrete, dec_lt}
use lib.Dec.{ltb}
use lib.ListN.{length, drop, length-append, length-drop}
use borrow.Author.Tests.{eq-eqb, ne_eqb, lt-ltb, le-ltb, le-leb}
use Rattle.laws.specs.Area.{num}
use Rattle.laws.specs.Sums.{sum, bit}
use Rattle.laws.specs.Joined.{each}
use Rattle.laws.proofs.Sums.{sum_same, sum-le, sum-const}
use Rattle.laws.proofs.Joined.{length-singles, singles-at}
use Rattle.run_entry.specs.Entry.{offset_fine, index_fine}
use Rattle.partner.specs.Partner.{whole_links, link_from, link_to, link_weight, is_partner}
use Rattle.partner.proofs.Accepted.{accepted-few, accepted-link}
use Rattle.partner_load.specs.Loaded.{indices_loaded, weights_loaded, links_below, offsets_loaded}

-- m numbers in front, then what stood there
front_long : (g : ℕ → ℕ) (m : ℕ) (v : List ℕ) → m ≤ length v → length (each g m ++ drop m v) ≡ length v
front_long g m v h = length-append (each g m) (drop m v) ∙ (let d = length-drop m v in omega (arith, length-singles g m, d))

bit-true : (b : Bool) → b ≡ true → bit b ≡ 1
unfolding bit
bit-true b e = rw e

bit-false : (b : Bool) → b ≡ false → bit b ≡ 0
unfolding bit
bit-false b e = rw e

module _ (f : List ℕ) where
  pub offsets-long : (n : ℕ) (v : List ℕ) → n + 1 ≤ length v → length (offsets_loaded f n v) ≡ length v
  unfolding offsets_loaded
  offsets-long n v h = front_long (links_below f) (n + 1) v h

  pub indices-long : (v : List ℕ) → whole_links f ≤ length v → length (indices_loaded f v) ≡ length v
  unfolding indices_loaded
  indices-long v h = front_long (link_to f) (whole_links f) v h

  pub weights-long : (v : List ℕ) → whole_links f ≤ length v → length (weights_loaded f v) ≡ length v
  unfolding weights_loaded
  weights-long v h = front_long (link_weight f) (whole_links f) v h

  -- ---- what stands where

  pub offset-loaded : (n : ℕ) (v : List ℕ) (j : ℕ) → j ≤ n → num (offsets_loaded f n v) j ≡ links_below f j
  unfolding offsets_loaded
  offset-loaded n v j h = singles-at (links_below f) (n + 1) j (drop (n + 1) v) (omega arith)

  pub index-loaded : (v : List ℕ) (p : ℕ) → p < whole_links f → num (indices_loaded f v) p ≡ link_to f p
  unfolding indices_loaded
  index-loaded v p h = singles-at (link_to f) (whole_links f) p (drop (whole_links f) v) h

  pub weight-loaded : (v : List ℕ) (p : ℕ) → p < whole_links f → num (weights_loaded f v) p ≡ link_weight f p
  unfolding weights_loaded
  weight-loaded v p h = singles-at (link_weight f) (whole_links f) p (drop (whole_links f) v) h

  -- ---- the counts

  sum-zero : (g : ℕ → ℕ) (n : ℕ) → ((i : ℕ) → i < n → g i ≡ 0) → sum g n ≡ 0
  sum-zero g n h = sum_same g (λ i. 0) n h ∙ sum-const 0 n ∙ omega arith

  pub none-starts-below : links_below f 0 ≡ 0
  unfolding links_below
  none-starts-below = sum-zero (λ p. bit (ltb (link_from f p) 0)) (whole_links f) (λ p l. bit-false (ltb (link_from f p) 0) (le-ltb (link_from f p) 0 (omega arith)))

  -- where all start below n, all are counted
  pub all-start-below : (n : ℕ) → ((p : ℕ) → p < whole_links f → link_from f p < n) → links_below f n ≡ whole_links f
  unfolding links_below
  all-start-below n h = sum_same (λ p. bit (ltb (link_from f p) n)) (λ p. 1) (whole_links f) (λ p l. bit-true (ltb (link_from f p) n)
      (lt-ltb (link_from f p) n (h p l))) ∙ sum-const 1 (whole_links f) ∙ omega arith

  bit-grows : (p j : ℕ) → bit (ltb (link_from f p) j) ≤ bit (ltb (link_from f p) (j + 1))
  bit-grows p j = elim (dec_lt (link_from f p) j) [
    | yes l ↦ omega (arith, bit-true (ltb (link_from f p) j) (lt-ltb (link_from f p) j l), bit-true (ltb (link_from f p) (j + 1)) (lt-ltb (link_from f p) (j + 1) (omega arith)))
    | no l ↦ omega (arith, bit-false (ltb (link_from f p) j) (le-ltb (link_from f p) j (omega arith)))
  ]

  pub starts-rise : (j : ℕ) → links_below f j ≤ links_below f (j + 1)
  unfolding links_below
  starts-rise j = sum-le (λ p. bit (ltb (link_from f p) j)) (λ p. bit (ltb (link_from f p) (j + 1))) (whole_links f) (λ p l. bit-grows p j)

  one_at_most : (b : Bool) → bit b ≤ 1
  unfolding bit
  one_at_most true = omega arith
  one_at_most false = omega arith

  pub starts-most : (j : ℕ) → links_below f j ≤ whole_links f
  unfolding links_below
  starts-most j = omega (arith, sum-le (λ p. bit (ltb (link_from f p) j)) (λ p. 1) (whole_links f) (λ p l. one_at_most (ltb (link_from f p) j)), sum-const 1 (whole_links f))

  -- ---- good order

  module _ (n most : ℕ) (ok : is_partner n most f ≡ true) where
    pub last-loaded : (v : List ℕ) → num (offsets_loaded f n v) n ≡ whole_links f
    last-loaded v = offset-loaded n v n (omega arith) ∙ all-start-below n (λ p l. (accepted-link n most f ok p l).from_in)

    pub offsets-fine : (v : List ℕ) (i : ℕ) → i < n + 1 → offset_fine (offsets_loaded f n v) most i ≡ true
    unfolding offset_fine
    offsets-fine v i h =
        elim (ℕ_discrete i 0) [
          | yes e ↦ rw (eq-eqb i 0 e) (eq-eqb (num (offsets_loaded f n v) i) 0 (offset-loaded n v i (omega arith) ∙ ap (links_below f) e ∙ none-starts-below))
          | no e ↦ (let O = offsets_loaded f n v in
              let z : i - 1 + 1 ≡ i = omega (arith, e) in
              let up : links_below f (i - 1) ≤ links_below f i = rw z at (starts-rise (i - 1)) in
              let a = offset-loaded n v (i - 1) (omega arith) in
              let b = offset-loaded n v i (omega arith) in
              rw (ne_eqb i 0 e, le-leb (num O (i - 1)) (num O i) (omega (arith, a, b, up)), le-leb (num O i) most (omega (arith, b, starts-most i, accepted-few n most f ok))))
        ]

    pub indices-fine : (v w : List ℕ) (i : ℕ) → i < num (offsets_loaded f n v) n → index_fine (indices_loaded f w) n i ≡ true
    unfolding index_fine
    indices-fine v w i h =
        let l : i < whole_links f = omega (arith, last-loaded v) in
        lt-ltb (num (indices_loaded f w) i) n (omega (arith, index-loaded w i l, (accepted-link n most f ok i l).to_in))
