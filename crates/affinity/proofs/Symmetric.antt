-- The shares of all frames, symmetrised, are the affinities of the definition. Assumes nothing.
use mathlib.Core.Path.{◌≡◌, refl, sym, ap, ◌∙◌}
use mathlib.Core.List.{List, [], ◌∷◌, ◌++◌, append-nil}
use Prim.Native.Nat.{ℕ, ◌+◌, ◌*◌, ◌<◌, ◌≤◌}
use native.Mathlib.Omega.{arith}
use native.Mathlib.Decide.{ℕ_discrete, dec_lt}
use native.Mathlib.Nat.{le_of_lt, min-eq_left, min-eq_right, max-eq_left, max-eq_right}
use borrow.Author.Tests.{eq-eqb, ne_eqb}
use lib.ListN.{length, drop}
use lib.Seq.{drop_at}
use lib.Ieee.{Float, nan}
use Rattle.laws.specs.Area.{at, zero64}
use Rattle.laws.specs.Joined.{joined, laid}
use Rattle.laws.proofs.Numbers.{row_in}
use Rattle.laws.proofs.Laid.{singles-size, singles-get, singles-taken, laid-size, laid-at, laid-whole}
use Rattle.affinity_joins.specs.Joins.{norm, joint_at, symmetrized}
use Rattle.affinity_joins.proofs.Joint.{Joins, joins-all}
use Rattle.affinity.specs.Exact.{conditional, jointly, affinity_of, exact_of}
use Rattle.affinity.specs.Steps.{conditionals}

module _ (t : List Float) (n f : ℕ) (perplexity : Float) where
  -- ---- the definition, by the order of the two frames

  affinity-own : (i : ℕ) → affinity_of t n f perplexity i i ≡ zero64
  unfolding affinity_of
  affinity-own i = rw (eq-eqb i i refl)

  affinity-low : (i j : ℕ) → i < j → affinity_of t n f perplexity i j ≡ jointly t n f perplexity i j
  unfolding affinity_of
  affinity-low i j h = rw (ne_eqb i j (λ e. omega arith), min-eq_left (le_of_lt h), max-eq_right (le_of_lt h))

  affinity-high : (i j : ℕ) → j < i → affinity_of t n f perplexity i j ≡ jointly t n f perplexity j i
  unfolding affinity_of
  affinity-high i j h = rw (ne_eqb i j (λ e. omega arith), min-eq_right (le_of_lt h), max-eq_left (le_of_lt h))

  -- the affinity of i with j is that of j with i
  pub affinity-mirror : (i j : ℕ) → affinity_of t n f perplexity i j ≡ affinity_of t n f perplexity j i
  affinity-mirror i j = elim (ℕ_discrete i j) [
    | yes e ↦ rw e refl
    | no d ↦ elim (dec_lt i j) [ yes b ↦ affinity-low i j b ∙ sym (affinity-high j i b) | no b ↦ affinity-high i j (omega arith) ∙ sym (affinity-low j i (omega arith)) ]
  ]

  module _ (l : List Float) where
    rows : (i : ℕ) → i < n → length (conditionals t n f perplexity i) ≡ n
    rows i h = singles-size (conditional t n f perplexity i) n

    -- ---- the shares, by rows

    abbrev before : List Float
    before = laid (conditionals t n f perplexity) n n l

    before_at : (i j : ℕ) → i < n → j < n → at before (i * n + j) ≡ conditional t n f perplexity i j
    before_at i j h m =
        laid-at n (conditionals t n f perplexity) n i j (drop (n * n) l) nan rows h m
        ∙ ap (λ (r : List Float). at r j) (sym (append-nil (conditionals t n f perplexity i)))
        ∙ singles-get (conditional t n f perplexity i) n j [] nan m

    before-joint : (a b : ℕ) → a < b → b < n → joint_at before n (norm n) b a ≡ jointly t n f perplexity a b
    unfolding jointly
    before-joint a b h m = rw (before_at a b (omega arith) m, before_at b a m (omega arith))

    -- ---- symmetrised

    module _ (fits : n * n ≤ length before) where
      abbrev after : List Float
      after = symmetrized n before

      all : Joins n (norm n) before fits n 0 after
      all = joins-all n (norm n) before fits

      after-at : (i j : ℕ) → i < n → j < n → at after (i * n + j) ≡ affinity_of t n f perplexity i j
      after-at i j h m = elim (ℕ_discrete i j) [
        | yes e ↦ rw (sym e) (all.own i h h ∙ sym (affinity-own i))
        | no d ↦ elim (dec_lt i j) [
          | yes b ↦ (all.joint i j b m (le_of_lt m) (λ e. absurd (omega arith))).0 ∙ before-joint i j b m ∙ sym (affinity-low i j b)
          | no b ↦ (all.joint j i (omega arith) h (le_of_lt h) (λ e. absurd (omega arith))).1 ∙ before-joint j i (omega arith) h ∙ sym (affinity-high i j (omega arith))
        ]
      ]

      pub exact-after : after ≡ exact_of t n f perplexity l
      unfolding exact_of
      exact-after =
          laid-whole n (λ i. joined (λ j. affinity_of t n f perplexity i j ∷ []) n) n after
          (λ i h. singles-taken after nan (affinity_of t n f perplexity i) (i * n) n (rw all.size (row_in i n n (length before) h fits)) (λ j m. after-at i j h m))
          ∙ ap (λ (r : List Float). joined (λ i. joined (λ j. affinity_of t n f perplexity i j ∷ []) n) n ++ r)
          (all.tail ∙ drop_at (joined (conditionals t n f perplexity) n) (drop (n * n) l) (n * n) (laid-size n (conditionals t n f perplexity) n rows))
