-- The row of a frame: what the k nearest, the search over their distances and the order by index leave in the areas is the row of the definition, k frames that
-- rise, without the frame itself. Assumes nothing.
use mathlib.Core.Path.{◌≡◌, refl, sym, ap, ◌∙◌}
use mathlib.Core.List.{List, [], ◌++◌, map, append-nil}
use mathlib.Core.Bool.{true, false}
use Prim.Native.Nat.{ℕ, zero, suc, ◌+◌, ◌-◌, ◌*◌, ◌<◌, ◌≤◌}
use native.Mathlib.Omega.{arith}
use native.Mathlib.Nat.{zero-add, le_of_eq, le_of_lt}
use lib.ListN.{length, get_or, drop, take, replicate, length-replicate, length-map, length-append, length-drop, take-append-drop, drop_of_length-le, get_or-append}
use lib.Seq.{drop_at, length-take-le}
use lib.Ieee.{Float, nan, binary64, div}
use Rattle.laws.specs.Loops.{loop}
use Rattle.laws.specs.Area.{at, num, zero64}
use Rattle.laws.proofs.Parts.{Scratch, scratch-start}
use Rattle.laws.proofs.Loops.{loop-keeps}
use Rattle.laws.proofs.Changed.{changed-at, changed-tail, scratch-front}
use Rattle.laws.proofs.Laid.{singles-size, singles-taken, laid-at, Lays, lays-next}
use Rattle.laws.proofs.Numbers.{row_in}
use borrow.Rule.Slice.PartMut.{mid_of, put_mid, same_len_mid}
use Rattle.affinity_distances.specs.Distances.{distance_row}
use Rattle.affinity_near.specs.Near.{Pair, pair, sorted, nearest_of, by_index_of, values_over, indices_over}
use Rattle.affinity_near.proofs.Apart.{nearest-frames}
use Rattle.affinity_near.proofs.Rows.{nearest-count, nearest-distinct, by-index-count, made-rises, made_in}
use Rattle.affinity_sigma.specs.Sigma.{divide_step, sigma_shares, shares_of}
use Rattle.affinity_lists.specs.Lists.{Rows}
use Rattle.affinity_lists.proofs.Made.{rows_made}
use Rattle.affinity_joins.specs.Joins.{norm}
use Rattle.affinity.specs.Exact.{distances_of}
use Rattle.laws.specs.Joined.{each, laid}
use Rattle.affinity.specs.Steps.{shares_left, frames_left}
use Rattle.affinity.specs.Neighbours.{values_in, frames_in, nearest_frames, nearest_shares, neighbour_row}
use Rattle.affinity.proofs.Shares.{shares-there, shares-tail, scratch-distances}

-- a front and the rest
together : {x y a b : ℕ} → x ≡ a → y ≡ b - a → a ≤ b → x + y ≡ b
together e f h = omega arith

-- ---- pairs laid over an area

module _ {B : Type 0} (g : Pair → B) (l : List Pair) where
  over-at : (d : List B) (z : B) (t : ℕ) → t < length l → get_or (map g l ++ drop (length l) d) t z ≡ get_or (map g l) t z
  over-at d z t h = get_or-append (map g l) (drop (length l) d) z t (omega (arith, length-map l g))

  pub over-tail : (d : List B) (k : ℕ) → length l ≡ k → drop k (map g l ++ drop (length l) d) ≡ drop k d
  over-tail d k e = drop_at (map g l) (drop (length l) d) k (length-map l g ∙ e) ∙ ap (λ (s : ℕ). drop s d) e

  over-size : (d : List B) → length l ≤ length d → length (map g l ++ drop (length l) d) ≡ length d
  over-size d h = length-append (map g l) (drop (length l) d) ∙ together (length-map l g) (length-drop (length l) d) h

-- pairs that agree have one order by index
sorted-alike : (f g : ℕ → Pair) (n : ℕ) → ((t : ℕ) → t < n → f t ≡ g t) → sorted false (λ t. true) f n ≡ sorted false (λ t. true) g n
unfolding sorted
sorted-alike f g zero h = refl
sorted-alike f g (suc n) h = rw (sorted-alike f g n (λ t l. h t (omega arith)), h n (omega arith))

by-index-alike : (X Y : List Float) (R S : List ℕ) (k : ℕ) → ((t : ℕ) → t < k → at X t ≡ at Y t) → ((t : ℕ) → t < k → num R t ≡ num S t) → by_index_of X R k ≡ by_index_of Y S k
by-index-alike X Y R S k h g = ap (take k) (sorted-alike (λ t. pair (at X t) (num R t)) (λ t. pair (at Y t) (num S t)) k (λ t l. rw (h t l, g t l)))

-- ---- the k nearest by a row of distances are those of the frames

module _ (t : List Float) (n f k i : ℕ) (X₀ W₀ : List Float) (R₀ : List ℕ) (h_x : n ≤ length X₀)
    {X₁ W₁ : List Float} {R₁ : List ℕ} (x₁ : X₁ ≡ distance_row t n f i X₀)
    (w₁ : W₁ ≡ values_over (nearest_of X₁ n k i) W₀) (r₁ : R₁ ≡ indices_over (nearest_of X₁ n k i) R₀) where
  named : nearest_of X₁ n k i ≡ nearest_frames t n f k i
  named = ap (λ (x : List Float). nearest_of x n k i) x₁ ∙ nearest-frames t n f i X₀ h_x k

  pub nearest-done : (W₁ ≡ values_over (nearest_frames t n f k i) W₀) × ((X₁ ≡ distance_row t n f i X₀) × (R₁ ≡ indices_over (nearest_frames t n f k i) R₀))
  nearest-done = (w₁ ∙ ap (λ (l : List Pair). values_over l W₀) named, (x₁, r₁ ∙ ap (λ (l : List Pair). indices_over l R₀) named))

module _ (t : List Float) (n f k : ℕ) (perplexity : Float) (i : ℕ) (hi : i < n) (hk : k < n) where
  abbrev frames : List Pair
  frames = nearest_frames t n f k i

  abbrev row : List Pair
  row = neighbour_row t n f k perplexity i

  -- the k nearest by a row of distances, in whichever area
  near-is : (p : List Float) → n ≤ length p → nearest_of (distance_row t n f i p) n k i ≡ frames
  near-is p h = nearest-frames t n f i p h k

  zeros : n ≤ length (replicate n zero64)
  zeros = le_of_eq (sym (length-replicate n zero64))

  pub frames-count : length frames ≡ k
  frames-count = ap length (sym (near-is (replicate n zero64) zeros)) ∙ nearest-count (distances_of t n f i) i n k hi hk

  -- frame i's share of the s-th nearest
  abbrev share : ℕ → Float
  share s = div binary64 (at (shares_of (values_in frames) k perplexity) s) (norm n)

  shares-are : length (nearest_shares t n f k perplexity i) ≡ k
  unfolding nearest_shares
  shares-are = singles-size share k

  -- ---- the row is that of any areas which hold the shares and the nearest frames

  row_by : (X : List Float) (R : List ℕ) → ((s : ℕ) → s < k → at X s ≡ at (nearest_shares t n f k perplexity i) s) → by_index_of X (indices_over frames R) k ≡ row
  unfolding neighbour_row
  row_by X R h = by-index-alike X (nearest_shares t n f k perplexity i) (indices_over frames R) (frames_in frames) k h
      (λ s l. over-at (λ (x : Pair). x.index) frames R 0 s (omega (arith, frames-count)))

  row_near : (X : List Float) (R : List ℕ) (p : List Float) → n ≤ length p → ((s : ℕ) → s < k → at X s ≡ at (nearest_shares t n f k perplexity i) s) →
      by_index_of X (indices_over (nearest_of (distance_row t n f i p) n k i) R) k ≡ row
  row_near X R p h m = ap (λ (l : List Pair). by_index_of X (indices_over l R) k) (near-is p h) ∙ row_by X R m

  mine : by_index_of (nearest_shares t n f k perplexity i) (indices_over (nearest_of (distances_of t n f i) n k i) []) k ≡ row
  mine = row_near (nearest_shares t n f k perplexity i) [] (replicate n zero64) zeros (λ s l. refl)

  pub row_count : length row ≡ k
  row_count = ap length (sym mine) ∙ by-index-count (nearest_shares t n f k perplexity i) (indices_over (nearest_of (distances_of t n f i) n k i) []) k
      (nearest-distinct (distances_of t n f i) i n k hi hk [])

  -- ---- its frames rise, and are others

  place : (s : ℕ) → s < k → num (indices_over (by_index_of (nearest_shares t n f k perplexity i) (indices_over (nearest_of (distances_of t n f i) n k i) []) k) []) s ≡ num (frames_in row) s
  place s l = ap (λ (r : List Pair). num (indices_over r []) s) mine ∙ over-at (λ (x : Pair). x.index) row [] 0 s (omega (arith, row_count))

  row-rises : (s u : ℕ) → s < u → u < k → num (frames_in row) s < num (frames_in row) u
  row-rises s u h m = omega (arith, place s (omega arith), place u m, made-rises (distances_of t n f i) n k i hi hk (nearest_shares t n f k perplexity i) [] [] s u h m)

  row-others : (s : ℕ) → s < k → (num (frames_in row) s < n) × (num (frames_in row) s ≡ i → ⊥)
  row-others s h =
      let a = made_in (distances_of t n f i) n k i hi hk (nearest_shares t n f k perplexity i) [] [] s h in
      (omega (arith, place s h, a.0), λ q. a.1 (place s h ∙ q))

  -- ---- the areas of one row, from one function to the next

  module _ (X₀ : List Float) (R₀ : List ℕ) (W₀ : List Float) (I₀ : List ℕ) (h_x : n ≤ length X₀)
      {X₁ X₂ X₃ W₁ W₂ : List Float} {R₁ I₁ : List ℕ}
      (x₁ : X₁ ≡ distance_row t n f i X₀) (s₁ : length X₁ ≡ length X₀)
      (w₁ : W₁ ≡ values_over frames W₀) (r₁ : R₁ ≡ indices_over frames R₀)
      (x₂ : X₂ ≡ sigma_shares W₁ k perplexity X₁) (s₂ : length X₂ ≡ length X₁)
      (x₃ : X₃ ≡ loop (divide_step (norm n)) k 0 X₂) (s₃ : length X₃ ≡ length X₂)
      (w₂ : W₂ ≡ values_over (by_index_of X₃ R₁ k) W₁) (i₁ : I₁ ≡ indices_over (by_index_of X₃ R₁ k) I₀) where
    distances-there : (s : ℕ) → s < k → at W₁ s ≡ at (values_in frames) s
    distances-there s l = ap (λ (r : List Float). at r s) w₁ ∙ over-at (λ (x : Pair). x.value) frames W₀ nan s (omega (arith, frames-count))

    share-there : (s : ℕ) → s < k → at X₃ s ≡ share s
    share-there s l =
        ap (λ (r : List Float). at r s) x₃
        ∙ changed-at nan (λ j v. div binary64 v (norm n)) k X₂ (omega arith) s l
        ∙ ap (λ (v : Float). div binary64 v (norm n)) (shares-there W₁ (values_in frames) k perplexity X₁ X₂ distances-there (omega arith) s₂ x₂ s l)

    shares-left : X₃ ≡ shares_left t n f k perplexity i X₀
    unfolding nearest_shares
    shares-left =
        sym (take-append-drop k X₃)
        ∙ ap (λ (r : List Float). r ++ drop k X₃) (singles-taken X₃ nan share 0 k (omega arith) (λ s l. ap (at X₃) (zero-add s) ∙ share-there s l))
        ∙ ap (λ (r : List Float). each share k ++ r)
        (ap (drop k) x₃
        ∙ changed-tail nan (λ j v. div binary64 v (norm n)) k X₂ (omega arith)
        ∙ shares-tail W₁ (values_in frames) k perplexity X₁ X₂ distances-there (omega arith) s₂ x₂
        ∙ ap (drop k) x₁)

    shares-divided : (s : ℕ) → s < k → at X₃ s ≡ at (nearest_shares t n f k perplexity i) s
    shares-divided s l = ap (λ (r : List Float). at r s) shares-left ∙ get_or-append (nearest_shares t n f k perplexity i) (drop k (distance_row t n f i X₀)) nan s (omega (arith, shares-are))

    ordered : by_index_of X₃ R₁ k ≡ row
    ordered = ap (λ (r : List ℕ). by_index_of X₃ r k) r₁ ∙ row_by X₃ R₀ shares-divided

    row-values : W₂ ≡ values_over row W₀
    row-values =
        w₂
        ∙ ap (λ (l : List Pair). values_over l W₁) ordered
        ∙ ap (λ (r : List Float). values_in row ++ r) (tail (ap (drop k) w₁ ∙ over-tail (λ (x : Pair). x.value) frames W₀ k frames-count))
      where
        tail : drop k W₁ ≡ drop k W₀ → drop (length row) W₁ ≡ drop (length row) W₀
        tail e = rw row_count e

    row-frames : I₁ ≡ indices_over row I₀
    row-frames = i₁ ∙ ap (λ (l : List Pair). indices_over l I₀) ordered

    pub row_done : (W₂ ≡ values_over row W₀) × ((I₁ ≡ indices_over row I₀) × ((X₃ ≡ shares_left t n f k perplexity i X₀) × (R₁ ≡ frames_left t n f k i R₀)))
    row_done = (row-values, (row-frames, (shares-left, r₁)))

-- ---- the preparation rows: past the first n places they are kept

module _ (t : List Float) (n f k : ℕ) (hk : k < n) where
  pub shares-scratch : (perplexity : Float) (p : List Float) → n ≤ length p → Scratch n p (loop (shares_left t n f k perplexity) n 0 p)
  shares-scratch perplexity p h = loop-keeps (λ j m. Scratch n p m) (shares_left t n f k perplexity) n 0 p (λ j m b s. one j m (omega arith) s) scratch-start
    where
      one : (j : ℕ) (m : List Float) → j < n → Scratch n p m → Scratch n p (shares_left t n f k perplexity j m)
      one j m b s =
          let d = distance_row t n f j m in
          let c = shares-are t n f k perplexity j b hk in
          let z : Scratch n p d = scratch-distances t f j b h refl s in
          scratch-front k (le_of_lt hk) (length-append (nearest_shares t n f k perplexity j) (drop k d) ∙ together c (length-drop k d) (omega (arith, z.size)))
          (drop_at (nearest_shares t n f k perplexity j) (drop k d) k c) z

  pub frames-scratch : (r : List ℕ) → n ≤ length r → Scratch n r (loop (frames_left t n f k) n 0 r)
  frames-scratch r h = loop-keeps (λ j m. Scratch n r m) (frames_left t n f k) n 0 r (λ j m b s. one j m (omega arith) s) scratch-start
    where
      one : (j : ℕ) (m : List ℕ) → j < n → Scratch n r m → Scratch n r (frames_left t n f k j m)
      one j m b s =
          let c = frames-count t n f k zero64 j b hk in
          scratch-front k (le_of_lt hk) (over-size (λ (x : Pair). x.index) (nearest_frames t n f k j) m (omega (arith, c, s.size)))
          (over-tail (λ (x : Pair). x.index) (nearest_frames t n f k j) m k c) s

-- ---- the rows of all frames

module _ {B : Type 0} (g : Pair → B) (t : List Float) (n f k : ℕ) (perplexity : Float) (hk : k < n) where
  abbrev pub rows : ℕ → List B
  rows i = map g (neighbour_row t n f k perplexity i)

  pub rows-size : (i : ℕ) → i < n → length (rows i) ≡ k
  rows-size i h = length-map (neighbour_row t n f k perplexity i) g ∙ row_count t n f k perplexity i h hk

  -- one more row is laid: what its frame left in the part of an area that was lent
  pub lays-row : {i : ℕ} {l₀ l part : List B} (w : ℕ) → w ≡ k → i < n → n * k ≤ length l₀ → length part ≡ length (mid_of (i * k) w l) →
      part ≡ rows i ++ drop (length (neighbour_row t n f k perplexity i)) (mid_of (i * k) w l)
      → Lays k rows n l₀ i l → Lays k rows n l₀ (i + 1) (put_mid (i * k) w l part)
  lays-row {i} {l₀} {l} {part} w e hi room s p r =
      let fits : i * k + k ≤ length l = rw r.size (row_in i n k (length l₀) hi room) in
      let none : drop (length (neighbour_row t n f k perplexity i)) (mid_of (i * k) k l) ≡ [] =
      drop_of_length-le (mid_of (i * k) k l) {i = length (neighbour_row t n f k perplexity i)}
      (omega (arith, row_count t n f k perplexity i hi hk, length-take-le k (drop (i * k) l) (rw (length-drop (i * k) l) (omega arith)))) in
      lays-next k rows r hi room (same_len_mid (i * k) w l part s)
      (rw e (ap (λ (x : List B). take (i * k) l ++ (x ++ drop k (drop (i * k) l))) ((rw e at p) ∙ ap (λ (x : List B). rows i ++ x) none ∙ append-nil (rows i))))

pub rows_named : (t : List Float) (n f k : ℕ) (perplexity : Float) (I : List ℕ) → k < n → Rows n k (laid (λ i. frames_in (neighbour_row t n f k perplexity i)) k n I)
rows_named t n f k perplexity I hk = rows_made (λ i l. record {
  rises = λ s u h m. omega (arith, there i s l (omega arith), there i u l m, row-rises t n f k perplexity i l hk s u h m);
  frames = λ s h. let a = row-others t n f k perplexity i l hk s h in (omega (arith, there i s l h, a.0), λ q. a.1 (sym (there i s l h) ∙ q));
})
  where
    there : (i s : ℕ) → i < n → s < k → num (laid (λ i. frames_in (neighbour_row t n f k perplexity i)) k n I) (i * k + s) ≡ num (frames_in (neighbour_row t n f k perplexity i)) s
    there i s l h = laid-at k (λ i. frames_in (neighbour_row t n f k perplexity i)) n i s (drop (n * k) I) 0 (rows-size (λ (x : Pair). x.index) t n f k perplexity hk) l h
