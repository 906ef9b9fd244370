-- From the rows of all frames to their lists: what the symmetrising asks holds, and what it gives is the definition. Assumes nothing.
use mathlib.Core.Path.{◌≡◌, ap, ◌∙◌, sym, subst}
use mathlib.Core.List.{List, ◌++◌}
use Prim.Native.Nat.{ℕ, ◌+◌, ◌-◌, ◌*◌, ◌<◌, ◌≤◌, min, max}
use native.Mathlib.Omega.{arith}
use native.Mathlib.Nat.{le-max_left, max-le, min-le_right}
use lib.ListN.{length, drop, replicate}
use lib.Ieee.{Float, binary64, mul}
use Rattle.laws.specs.Domain.{most_frames}
use Rattle.laws.specs.Loops.{loop}
use Rattle.elementary.specs.Limits.{ceil_of, three64, neighbours_of}
use Rattle.affinity_lists.specs.Lists.{Rows, areas, lists_made, Prepared, weights_all, indices_of, offsets_of}
use Rattle.laws.specs.Area.{zero64}
use Rattle.laws.specs.Joined.{laid}
use Rattle.affinity.specs.Steps.{shares_left, frames_left}
use Rattle.affinity.specs.Neighbours.{values_in, frames_in, neighbour_row, neighbours_listed}
use Rattle.affinity.proofs.Named.{rows_named, shares-scratch, frames-scratch}

-- ---- how many neighbours: at least one, and not all frames

pub some-neighbours : (perplexity : Float) (n : ℕ) → 0 < neighbours_of perplexity n
unfolding neighbours_of
some-neighbours perplexity n = le-max_left 1 (min (ceil_of (mul binary64 three64 perplexity) + 1) (n - 1))

pub not-all-neighbours : (perplexity : Float) (n : ℕ) → 2 ≤ n → neighbours_of perplexity n < n
unfolding neighbours_of
not-all-neighbours perplexity n h =
    let a = ceil_of (mul binary64 three64 perplexity) + 1 in
    below (max 1 (min a (n - 1))) n h (max-le (one n h) (min-le_right a (n - 1)))
  where
    one : (n : ℕ) → 2 ≤ n → 1 ≤ n - 1
    one n h = omega arith

    below : (x n : ℕ) → 2 ≤ n → x ≤ n - 1 → x < n
    below x n h m = omega arith

module _ (n : ℕ) (perplexity : Float) (k : ℕ) (e : k ≡ neighbours_of perplexity n) where
  pub k-some : 0 < k
  k-some = rw e (some-neighbours perplexity n)

  pub k-below : 2 ≤ n → k < n
  k-below h = rw e (not-all-neighbours perplexity n h)

  -- half of a list's area is room for the rows
  pub k-half : (l : ℕ) → 2 * (n * neighbours_of perplexity n) ≤ l → 2 * (n * k) ≤ l
  k-half l h = rw e h

  pub k-room : (l : ℕ) → 2 * (n * neighbours_of perplexity n) ≤ l → n * k ≤ l
  k-room l h = half (n * k) (k-half l h)
    where
      half : (x : ℕ) → 2 * x ≤ l → x ≤ l
      half x h = omega arith

  module _ (t : List Float) (f : ℕ) (W : List Float) (I O : List ℕ) (X : List Float) (R : List ℕ) {W₁ : List Float} {I₁ : List ℕ} {X₁ : List Float} {R₁ : List ℕ}
      (w : W₁ ≡ laid (λ i. values_in (neighbour_row t n f k perplexity i)) k n W) (j : I₁ ≡ laid (λ i. frames_in (neighbour_row t n f k perplexity i)) k n I) where
    pub rows-prepared : 2 ≤ n → n ≤ most_frames → length W₁ ≡ length W → length I₁ ≡ length I → length X₁ ≡ length X → length R₁ ≡ length R
        → 2 * (n * neighbours_of perplexity n) ≤ length W → 2 * (n * neighbours_of perplexity n) ≤ length I → n + 1 ≤ length O → n ≤ length X → n ≤ length R → Prepared n k (areas W₁ I₁ O X₁ R₁)
    rows-prepared two small s_w s_i s_x s_r h_w h_i h_o h_x h_r = record {
      frames = (small, k-below two);
      weights = rw s_w (k-half (length W) h_w);
      indices = rw s_i (k-half (length I) h_i);
      offsets = h_o;
      row_values = rw s_x h_x;
      row_indices = rw s_r h_r;
      rows = subst (Rows n k) (sym j) (rows_named t n f k perplexity I (k-below two));
    }

    pub lists-done : 2 ≤ n → n ≤ length X → n ≤ length R → X₁ ≡ loop (shares_left t n f k perplexity) n 0 X → R₁ ≡ loop (frames_left t n f k) n 0 R →
        lists_made n k (areas W₁ I₁ O X₁ R₁) ≡ neighbours_listed t n f perplexity (areas W I O X R)
    unfolding neighbours_listed
    lists-done two h_x h_r x r =
        let q = neighbours_of perplexity n in
        let w' : W₁ ≡ laid (λ i. values_in (neighbour_row t n f q perplexity i)) q n W = w ∙ (λ h. laid (λ i. values_in (neighbour_row t n f (e h) perplexity i)) (e h) n W) in
        let j' : I₁ ≡ laid (λ i. frames_in (neighbour_row t n f q perplexity i)) q n I = j ∙ (λ h. laid (λ i. frames_in (neighbour_row t n f (e h) perplexity i)) (e h) n I) in
        let x' : drop n X₁ ≡ drop n X = ap (drop n) x ∙ (shares-scratch t n f k (k-below two) perplexity X h_x).tail in
        let r' : drop n R₁ ≡ drop n R = ap (drop n) r ∙ (frames-scratch t n f k (k-below two) R h_r).tail in
        λ h. areas (weights_all n (e h) (j' h) (w' h)) (indices_of n (e h) (j' h)) (offsets_of n (e h) (j' h) O) (replicate n zero64 ++ x' h) (replicate n 0 ++ r' h)
