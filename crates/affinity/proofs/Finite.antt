-- Every weight is finite and not negative: each affinity of the exact route, and each weight of the lists. The premise is a table in the domain, of at most
-- 4096 frames and 256 features; the perplexity may be any value. Nothing else is assumed.
use mathlib.Core.Path.{◌≡◌, refl, sym, ap, subst, ◌∙◌}
use mathlib.Core.List.{List, [], append-nil}
use mathlib.Core.Bool.{Bool, true, false, cond, not}
use Prim.Native.Nat.{ℕ, ◌+◌, ◌*◌, ◌^◌, ◌<◌, ◌≤◌, min, max}
use native.Mathlib.Omega.{arith}
use native.Mathlib.Decide.{ℕ_discrete}
use native.Mathlib.Nat.{le_of_eq, le_refl, zero-add}
use lib.Dec.{ltb, eqb, lit<, lit≤}
use lib.IntN.{pos}
use lib.ListN.{length, drop, replicate, length-replicate, get_or-append}
use lib.Ieee.{Float, nan, binary64, add, div, of_int, of_bits}
use borrow.Author.Tests.{ltb-true}
use Rattle.laws.specs.Domain.{most_features, most_frames}
use Rattle.laws.specs.Area.{at, num, zero64, two64}
use Rattle.laws.specs.Joined.{joined, each, laid}
use Rattle.laws.proofs.Numbers.{row_in}
use Rattle.laws.proofs.Joined.{joined-all, get_or-map-in, length-map, those-below}
use Rattle.laws.proofs.Laid.{singles-size, singles-get, laid-at, laid-size}
use Rattle.elementary.specs.Limits.{in_domain, not_negative, neighbours_of}
use Rattle.elementary.proofs.Sizes.{Least, Sized, held_whole, sized, sized-signed, sized-most, sized-next, sized-add, sized-mul, sized-div, least-mul}
use Rattle.elementary.proofs.Sizes.{whole-sized, sized-whole, whole-not-negative, whole-signed, whole-most, whole-least, two_sized, zero-whole}
use Rattle.affinity_distances.specs.Distances.{distance_of}
use Rattle.affinity_near.specs.Near.{Pair, pair, sorted}
use Rattle.affinity_near.proofs.Apart.{row-own, row_other}
use Rattle.affinity_near.proofs.Entering.{none-pair}
use Rattle.affinity_near.proofs.Rows.{all_take, all-sorted, all-at}
use Rattle.affinity_distances.proofs.Finite.{distance-bounded}
use Rattle.affinity_sigma.specs.Sigma.{shares_of}
use Rattle.affinity_sigma.proofs.Finite.{most_share, share-bounded}
use Rattle.affinity_links.specs.Links.{plus_of}
use Rattle.affinity_lists.specs.Lists.{Areas, place, plus_share, joint, weight, list_of, weights_of, links_of, linked}
use Rattle.affinity_lists.proofs.Linked.{length-weights}
use Rattle.affinity_lists.proofs.Theorems.{offsets-last}
use Rattle.affinity_joins.specs.Joins.{norm}
use Rattle.affinity.specs.Exact.{distances_of, conditional, jointly, affinity_of, exact_of}
use Rattle.affinity.specs.Neighbours.{values_in, frames_in, nearest_frames, nearest_shares, neighbour_row, rows_of, neighbours_listed}
use Rattle.affinity.proofs.Named.{frames-count, row_count, rows-size, rows_named}
use Rattle.affinity.proofs.Listed.{some-neighbours, not-all-neighbours}
use Rattle.affinity.proofs.Kept.{weights-kept}

-- ---- 2n

two-least : Least 1 1 two64
unfolding of_bits
two-least = lit≤ tt

module _ (n : ℕ) (some : 0 < n) (few : n ≤ most_frames) where
  norm-sized : Sized false (2 * n) 1 (norm n)
  norm-sized = sized-mul false false 2 1 n 1 (2 * n) 1 two64 (of_int binary64 (pos n)) (lit< tt) (lit< tt) (lit< tt) (held_whole (2 * n) (omega (arith, few))) (omega arith) two_sized
      (sized false n 1 (of_int binary64 (pos n)) (whole-signed n) (whole-most n (omega (arith, few))))

  norm-least : Least 1 1 (norm n)
  norm-least = least-mul 1 1 1 1 1 1 (2 * n) 1 two64 (of_int binary64 (pos n)) (lit< tt) (lit< tt) (lit< tt) (held_whole 1 (lit≤ tt)) (lit≤ tt)
      (sized-signed false 2 1 two64 two_sized) (whole-signed n) two-least (whole-least n some (omega (arith, few)))
      (sized-most false (2 * n) 1 (norm n) norm-sized)

  -- a value divided by 2n keeps its bound
  by-norm : (b : ℕ) (x : Float) → b ≤ 2 * most_share → Sized false b 1 x → Sized false b 1 (div binary64 x (norm n))
  by-norm b x h p = sized-div false false b 1 1 1 b 1 x (norm n) (lit< tt) (lit< tt) (lit< tt) (held_whole b (omega (arith, h))) (omega arith) p
      (sized-signed false (2 * n) 1 (norm n) norm-sized) norm-least

each_at : (g : ℕ → Float) (n j : ℕ) → j < n → at (each g n) j ≡ g j
each_at g n j h = ap (λ (r : List Float). at r j) (sym (append-nil (each g n))) ∙ singles-get g n j [] nan h

-- ---- the weight of a link, where no share is above b

module _ (b : ℕ) (small : b + b ≤ 2 ^ 53) (k : ℕ) (J : List ℕ) (S : List Float) where
  plus-sized : (c a p : ℕ) (w : Float) → c ≤ b → (p < k → Sized false b 1 (at S (a + p))) → Sized false c 1 w → Sized false (c + b) 1 (plus_of S a k p w)
  plus-sized c a p w h share v = go (ltb p k) refl
    where
      go : (q : Bool) → ltb p k ≡ q → Sized false (c + b) 1 (cond q (add binary64 w (at S (a + p))) w)
      go true e = sized-add c b 1 w (at S (a + p)) (lit< tt) (held_whole (c + b) (omega (arith, h, small))) v (share (ltb-true p k e))
      go false e = sized-next false c (c + b) 1 w (omega arith) v

  weight-sized : (i j : ℕ) → ((s : ℕ) → s < k → Sized false b 1 (at S (i * k + s))) → ((s : ℕ) → s < k → Sized false b 1 (at S (j * k + s))) → Sized false (b + b) 1 (weight k J S i j)
  unfolding weight
  weight-sized i j mine other = go (ltb i j)
    where
      both : (x y : ℕ) → ((s : ℕ) → s < k → Sized false b 1 (at S (x * k + s))) → ((s : ℕ) → s < k → Sized false b 1 (at S (y * k + s))) → Sized false (b + b) 1 (joint k J S x y)
      both x y p q =
          plus-sized b (y * k) (place k J y x) (plus_share k J S x y zero64) (le_refl b) (λ h. q (place k J y x) h)
          (subst (λ (c : ℕ). Sized false c 1 (plus_share k J S x y zero64)) (zero-add b)
          (plus-sized 0 (x * k) (place k J x y) zero64 (omega arith) (λ h. p (place k J x y) h) (sized-whole 0 zero64 (zero-whole 0))))

      go : (c : Bool) → Sized false (b + b) 1 (cond c (joint k J S i j) (joint k J S j i))
      go true = both i j mine other
      go false = both j i other mine

-- ---- a table in the domain

module _ (t : List Float) (n f : ℕ) (perplexity : Float) (few-features : f ≤ most_features) (few : n ≤ most_frames) (inside : (q : ℕ) → q < n * f → in_domain (at t q) ≡ true) where
  distance-far : (i j : ℕ) → i < n → j < n → not_negative (distance_of t f i j)
  distance-far i j h l = whole-not-negative _ (distance_of t f i j) (distance-bounded t f few-features i j (row i h) (row j l))
    where
      row : (i : ℕ) → i < n → (k : ℕ) → k < f → in_domain (at t (i * f + k)) ≡ true
      row i h k l = inside (i * f + k) (omega (arith, l, row_in i n f (n * f) h (le_refl (n * f))))

  zero-far : not_negative zero64
  zero-far = whole-not-negative 0 zero64 (zero-whole 0)

  share-sized : (ds : List Float) (k : ℕ) → 0 < k → k ≤ most_frames → ((j : ℕ) → j < k → not_negative (at ds j)) → (j : ℕ) → j < k → Sized false most_share 1 (at (shares_of ds k perplexity) j)
  share-sized ds k some few far j h = sized-whole most_share (at (shares_of ds k perplexity) j)
      (share-bounded ds k some few far perplexity (replicate k zero64) (le_of_eq (sym (length-replicate k zero64))) j h)

  -- ---- the exact route

  distances-far : (i : ℕ) → i < n → (j : ℕ) → j < n → not_negative (at (distances_of t n f i) j)
  distances-far i h j l = elim (ℕ_discrete j i) [
    | yes e ↦ subst not_negative (sym (ap (at (distances_of t n f i)) e ∙ row-own t n f i (replicate n zero64) room h)) zero-far
    | no d ↦ subst not_negative (sym (row_other t n f i (replicate n zero64) room j l d)) (distance-far i j h l)
  ]
    where
      room : n ≤ length (replicate n zero64)
      room = le_of_eq (sym (length-replicate n zero64))

  conditional-sized : (i j : ℕ) → i < n → j < n → Sized false most_share 1 (conditional t n f perplexity i j)
  unfolding conditional
  conditional-sized i j h l = share-sized (distances_of t n f i) n (omega (arith, h)) few (distances-far i h) j l

  jointly-sized : (a b : ℕ) → a < n → b < n → Sized false (2 * most_share) 1 (jointly t n f perplexity a b)
  unfolding jointly
  jointly-sized a b h l =
      let c = conditional t n f perplexity a b in
      let d = conditional t n f perplexity b a in
      by-norm n (omega (arith, h)) few (2 * most_share) (add binary64 c d) (lit≤ tt)
      (sized-add most_share most_share 1 c d (lit< tt) (held_whole (most_share + most_share) (lit≤ tt)) (conditional-sized a b h l) (conditional-sized b a l h))

  -- every affinity of two frames is finite and not negative
  pub affinity-not-negative : (i j : ℕ) → i < n → j < n → not_negative (affinity_of t n f perplexity i j)
  unfolding affinity_of
  affinity-not-negative i j h l = go (eqb i j)
    where
      go : (b : Bool) → not_negative (cond b zero64 (jointly t n f perplexity (min i j) (max i j)))
      go true = zero-far
      go false = whole-not-negative (2 * most_share) (jointly t n f perplexity (min i j) (max i j))
          (whole-sized (2 * most_share) (jointly t n f perplexity (min i j) (max i j)) (jointly-sized (min i j) (max i j) (omega arith) (omega arith)))

  -- so is what stands in each of the n·n places of the area
  exact-laid : (l : List Float) (p : ℕ) → p < n * n → not_negative (at (laid (λ i. each (λ j. affinity_of t n f perplexity i j) n) n n l) p)
  exact-laid l p h =
      let row : ℕ → List Float = λ i. each (affinity_of t n f perplexity i) n in
      let inner : p < length (joined row n) = omega (arith, h, laid-size n row n (λ i m. singles-size (affinity_of t n f perplexity i) n)) in
      subst not_negative (sym (get_or-append (joined row n) (drop (n * n) l) nan p inner))
      (joined-all not_negative row n nan (λ i j a c. place-fine i j a (omega (arith, c, singles-size (affinity_of t n f perplexity i) n))) p inner)
    where
      place-fine : (i j : ℕ) → i < n → j < n → not_negative (at (each (affinity_of t n f perplexity i) n) j)
      place-fine i j a c = subst not_negative (sym (each_at (affinity_of t n f perplexity i) n j c)) (affinity-not-negative i j a c)

  pub exact-not-negative : (l : List Float) (p : ℕ) → p < n * n → not_negative (at (exact_of t n f perplexity l) p)
  unfolding exact_of
  exact-not-negative l p h = exact-laid l p h

  -- ---- the Barnes-Hut route: the rows

  module _ (k : ℕ) (some : 0 < k) (hk : k < n) (i : ℕ) (hi : i < n) where
    nearest-far : (s : ℕ) → s < k → not_negative (at (values_in (nearest_frames t n f k i)) s)
    nearest-far s h =
        let l = nearest_frames t n f k i in
        let inner : s < length l = omega (arith, h, frames-count t n f k perplexity i hi hk) in
        subst not_negative (sym (get_or-map-in (λ (x : Pair). x.value) l s none-pair nan inner))
        (all-at (λ x. not_negative x.value) l s inner
        (all_take (λ x. not_negative x.value) k (sorted true (λ j. not (eqb j i)) (λ j. pair (distance_of t f i j) j) n)
        (all-sorted true (λ j. not (eqb j i)) (λ j. pair (distance_of t f i j) j) (λ x. not_negative x.value) n (λ j m e. distance-far i j hi m))))

    shares-sized : (s : ℕ) → s < k → Sized false most_share 1 (at (nearest_shares t n f k perplexity i) s)
    unfolding nearest_shares
    shares-sized s h =
        let ds = values_in (nearest_frames t n f k i) in
        subst (Sized false most_share 1) (sym (each_at (λ s. div binary64 (at (shares_of ds k perplexity) s) (norm n)) k s h))
        (by-norm n (omega (arith, hi)) few most_share (at (shares_of ds k perplexity) s) (lit≤ tt) (share-sized ds k some (omega (arith, hk, few)) nearest-far s h))

    row_sized : (s : ℕ) → s < k → Sized false most_share 1 (at (values_in (neighbour_row t n f k perplexity i)) s)
    unfolding neighbour_row
    row_sized s h =
        let l = neighbour_row t n f k perplexity i in
        let g : ℕ → Pair = λ u. pair (at (nearest_shares t n f k perplexity i) u) (num (frames_in (nearest_frames t n f k i)) u) in
        let inner : s < length l = omega (arith, h, row_count t n f k perplexity i hi hk) in
        subst (Sized false most_share 1) (sym (get_or-map-in (λ (x : Pair). x.value) l s none-pair nan inner))
        (all-at (λ x. Sized false most_share 1 x.value) l s inner
        (all_take (λ x. Sized false most_share 1 x.value) k (sorted false (λ u. true) g k)
        (all-sorted false (λ u. true) g (λ x. Sized false most_share 1 x.value) k (λ u m e. shares-sized u m))))

  -- ---- the lists, as they stand in the area afterwards

  module _ (two : 2 ≤ n) (a : Areas) where
    abbrev k : ℕ
    k = neighbours_of perplexity n

    hk : k < n
    hk = not-all-neighbours perplexity n two

    abbrev made : Areas
    made = rows_of t n f k perplexity a

    made-sized : (i : ℕ) → i < n → (s : ℕ) → s < k → Sized false most_share 1 (at made.weights (i * k + s))
    made-sized i h s l =
        subst (Sized false most_share 1)
        (sym (laid-at k (λ i. values_in (neighbour_row t n f k perplexity i)) n i s (drop (n * k) a.weights) nan (rows-size (λ (x : Pair). x.value) t n f k perplexity hk) h l))
        (row_sized k (some-neighbours perplexity n) hk i h s l)

    -- the weight of any two frames is finite and not negative
    pub link-not-negative : (i j : ℕ) → i < n → j < n → not_negative (weight k made.indices made.weights i j)
    link-not-negative i j h l =
        let w = weight k made.indices made.weights i j in
        whole-not-negative (most_share + most_share) w (whole-sized (most_share + most_share) w (weight-sized most_share (lit≤ tt) k made.indices made.weights i j (made-sized i h) (made-sized j l)))

    listed_of : (i u : ℕ) → i < n → u < length (weights_of n k made.indices made.weights i) → not_negative (at (weights_of n k made.indices made.weights i) u)
    listed_of i u h l =
        let list = list_of n k made.indices i in
        let inner : u < length list = omega (arith, l, length-map (weight k made.indices made.weights i) list) in
        subst not_negative (sym (get_or-map-in (weight k made.indices made.weights i) list u 0 nan inner))
        (link-not-negative i (num list u) h (those-below (linked k made.indices i) n u inner))

    last : num (neighbours_listed t n f perplexity a).offsets n ≡ links_of n k made.indices
    unfolding neighbours_listed
    last = offsets-last n k made (rows_named t n f k perplexity a.indices hk)

    -- every weight of the lists is finite and not negative: at each place below the last offset
    pub listed-not-negative : (p : ℕ) → p < num (neighbours_listed t n f perplexity a).offsets n → not_negative (at (neighbours_listed t n f perplexity a).weights p)
    listed-not-negative p h =
        let W = joined (weights_of n k made.indices made.weights) n in
        let inner : p < length W = omega (arith, h, length-weights n k made.indices made.weights n, last) in
        subst not_negative (sym (ap (λ (l : List Float). at l p) (weights-kept t n f perplexity two a) ∙ get_or-append W _ nan p inner))
        (joined-all not_negative (weights_of n k made.indices made.weights) n nan listed_of p inner)
