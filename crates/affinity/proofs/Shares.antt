-- The shares that a sigma search leaves in an area are those of the definition, whatever stood there. Assumes nothing.
use mathlib.Core.Path.{◌≡◌, refl, sym, ap, ◌∙◌}
use mathlib.Core.List.{List, ◌++◌}
use Prim.Native.Nat.{ℕ, ◌+◌, ◌-◌, ◌*◌, ◌<◌, ◌≤◌}
use native.Mathlib.Omega.{arith}
use native.Mathlib.Decide.{ℕ_discrete}
use native.Mathlib.Nat.{zero-add, le_of_eq}
use lib.ListN.{length, drop, replicate, length-append, length-drop, length-replicate, get_or-append}
use lib.Seq.{drop_at, take_all, length-take-le}
use borrow.Rule.Slice.PartMut.{mid_of, put_mid}
use lib.Ieee.{Float, nan}
use Rattle.laws.specs.Area.{at, zero64}
use Rattle.laws.proofs.Loops.{loop-keeps}
use Rattle.laws.proofs.Laid.{singles-taken}
use Rattle.affinity_distances.specs.Distances.{distance_row}
use Rattle.affinity_near.proofs.Apart.{row-own, row_other, row-size, row-tail}
use Rattle.laws.proofs.Parts.{Scratch, scratch-start}
use Rattle.affinity_sigma.specs.Sigma.{sigma_shares, shares_of}
use Rattle.affinity_sigma.proofs.Alone.{shares_whole, shares-read}
use Rattle.affinity.specs.Exact.{distances_of, conditional}
use Rattle.affinity.specs.Steps.{conditionals, distances_left}

module _ (ds es : List Float) (k : ℕ) (perplexity : Float) (p q : List Float) (same : (t : ℕ) → t < k → at ds t ≡ at es t) (h : k ≤ length p)
    (s : length q ≡ length p) (e : q ≡ sigma_shares ds k perplexity p) where
  found : q ≡ shares_of es k perplexity ++ drop k p
  found = e ∙ shares-read ds es k same perplexity p ∙ shares_whole es k perplexity p h

  shares-count : length (shares_of es k perplexity) ≡ k
  shares-count = cut (sym (length-append (shares_of es k perplexity) (drop k p)) ∙ ap length (sym found) ∙ s) (length-drop k p) h
    where
      cut : {x y l : ℕ} → x + y ≡ l → y ≡ l - k → k ≤ l → x ≡ k
      cut a b c = omega arith

  -- the distances agree on the first k places
  pub shares-there : (t : ℕ) → t < k → at q t ≡ at (shares_of es k perplexity) t
  shares-there t l = ap (λ (r : List Float). at r t) found ∙ get_or-append (shares_of es k perplexity) (drop k p) nan t (omega (arith, shares-count))

  -- and the area is as it was from k on
  pub shares-tail : drop k q ≡ drop k p
  shares-tail = ap (drop k) found ∙ drop_at (shares_of es k perplexity) (drop k p) k shares-count

module _ (t : List Float) (n f i : ℕ) (l : i < n) where
  -- a row of distances, in whichever area
  distances-same : (p q : List Float) → n ≤ length p → n ≤ length q → (j : ℕ) → j < n → at (distance_row t n f i p) j ≡ at (distance_row t n f i q) j
  distances-same p q h m j b = elim (ℕ_discrete j i) [
    | yes e ↦ rw e (row-own t n f i p h l ∙ sym (row-own t n f i q m l))
    | no d ↦ row_other t n f i p h j b d ∙ sym (row_other t n f i q m j b d)
  ]

  -- frame i's shares, in an area of n places
  pub conditionals-there : (perplexity : Float) (row p q : List Float) → n ≤ length row → length p ≡ n → length q ≡ length p →
      q ≡ sigma_shares (distance_row t n f i row) n perplexity p → q ≡ conditionals t n f perplexity i
  unfolding conditional
  conditionals-there perplexity row p q h m s e =
      sym (take_all n q (omega arith))
      ∙ singles-taken q nan (conditional t n f perplexity i) 0 n (omega arith)
      (λ j b. ap (at q) (zero-add j) ∙ shares-there (distance_row t n f i row) (distances_of t n f i) n perplexity p q
      (distances-same row (replicate n zero64) h (le_of_eq (sym (length-replicate n zero64)))) (omega arith) s e j b)

  -- and put back in its place
  pub conditionals-put : (perplexity : Float) (row row' l q : List Float) (k : ℕ) → k ≡ n → n ≤ length row → i * n + n ≤ length l →
      row' ≡ distance_row t n f i row → length q ≡ length (mid_of (i * n) k l) → q ≡ sigma_shares row' n perplexity (mid_of (i * n) k l)
      → put_mid (i * n) k l q ≡ put_mid (i * n) n l (conditionals t n f perplexity i)
  conditionals-put perplexity row row' l q k e h m r s o =
      let z : length (mid_of (i * n) n l) ≡ n = length-take-le n (drop (i * n) l) (rw (length-drop (i * n) l) (omega arith)) in
      rw e (ap (put_mid (i * n) n l) (conditionals-there perplexity row (mid_of (i * n) n l) q h z (rw e at s) (rw (e, r) at o)))

-- a row of distances is written into scratch
pub scratch-distances : {n : ℕ} {l₀ l l' : List Float} (t : List Float) (f i : ℕ) → i < n → n ≤ length l₀ → l' ≡ distance_row t n f i l → Scratch n l₀ l → Scratch n l₀ l'
scratch-distances {n} {l₀} {l} t f i h m e s =
    let room : n ≤ length l = rw s.size m in
    record { size = ap length e ∙ row-size t n f i l room ∙ s.size; tail = ap (drop n) e ∙ row-tail t n f i l room h ∙ s.tail }

-- and so are the rows of one frame after the other
pub scratch-all : (t : List Float) (n f : ℕ) (p : List Float) → n ≤ length p → Scratch n p (distances_left t n f p)
scratch-all t n f p h = loop-keeps (λ j m. Scratch n p m) (distance_row t n f) n 0 p (λ j m b s. scratch-distances t f j (omega arith) h refl s) scratch-start
