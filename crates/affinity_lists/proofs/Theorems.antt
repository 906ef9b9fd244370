-- What holds of the lists as they stand in the areas afterwards. The premise is that the rows are in order; nothing else is assumed.
use mathlib.Core.Path.{◌≡◌, sym, ap, subst, ◌∙◌}
use mathlib.Core.List.{List}
use mathlib.Core.Bool.{true, true≢false}
use Prim.Native.Nat.{ℕ, suc, ◌+◌, ◌-◌, ◌*◌, ◌<◌, ◌≤◌}
use native.Mathlib.Omega.{arith}
use lib.Ieee.{nan}
use lib.ListN.{length, drop, get_or-append}
use Rattle.laws.specs.Area.{num, at}
use Rattle.laws.specs.Joined.{joined}
use Rattle.laws.proofs.Joined.{those-below, those-holds, those-rise, place_in, spot_yes, spot-at, joined-none, joined-grow, joined_at, joined-all, singles-at, length-map, get_or-map-in}
use Rattle.affinity_lists.specs.Lists.{Rows, InList, linked, weight, list_of, weights_of, list_start, links_of, Areas, lists_made}
use Rattle.affinity_lists.proofs.Linked.{linked-comm, weight-comm, linked-self, length-weights, degree-least, links-least, links-most}

-- b: the areas before, with the rows in order
module _ (n k : ℕ) (b : Areas) (ok : Rows n k b.indices) where
  -- the areas afterwards
  abbrev made : Areas
  made = lists_made n k b

  abbrev start : ℕ → ℕ
  start i = list_start n k b.indices i

  abbrev list : ℕ → List ℕ
  list i = list_of n k b.indices i

  offset-is : (i : ℕ) → i ≤ n → num made.offsets i ≡ start i
  offset-is i h = singles-at start (suc n) i (drop (suc n) b.offsets) (omega arith)

  -- the offsets start at 0
  pub offsets-first : num made.offsets 0 ≡ 0
  offsets-first = offset-is 0 (omega arith) ∙ ap length (joined-none list)

  -- no offset is below the one before it: each list has at least the k frames that its own frame names
  pub offsets-rise : (i : ℕ) → i < n → num made.offsets i + k ≤ num made.offsets (i + 1)
  offsets-rise i h = omega (arith, offset-is i (omega arith), offset-is (i + 1) (omega arith), joined-grow list i, degree-least n k b.indices ok i h)

  -- the last one is the number of links
  pub offsets-last : num made.offsets n ≡ links_of n k b.indices
  offsets-last = offset-is n (omega arith)

  -- there are between n·k and 2·n·k links
  pub links-between : (n * k ≤ num made.offsets n) × (num made.offsets n ≤ 2 * (n * k))
  links-between = (omega (arith, offsets-last, links-least n k b.indices ok), omega (arith, offsets-last, links-most n k b.indices ok))

  -- every listed index is a frame
  pub listed_below : (p : ℕ) → p < num made.offsets n → num made.indices p < n
  listed_below p h =
      let l : p < links_of n k b.indices = omega (arith, offsets-last) in
      subst (λ (x : ℕ). x < n) (sym (get_or-append (joined list n) (drop (links_of n k b.indices) b.indices) 0 p l))
      (joined-all (λ (x : ℕ). x < n) list n 0 (λ i t a c. those-below (linked k b.indices i) n t c) p l)

  -- ---- what stands t past the beginning of list i

  module _ (i t : ℕ) (h : i < n) (l : t < length (list i)) where
    index_at : num made.indices (start i + t) ≡ num (list i) t
    index_at = joined_at list n i t (drop (links_of n k b.indices) b.indices) 0 h l

    weight-at : at made.weights (start i + t) ≡ weight k b.indices b.weights i (num (list i) t)
    weight-at =
        ap (λ (x : ℕ). at made.weights (x + t)) (sym (length-weights n k b.indices b.weights i))
        ∙ joined_at (weights_of n k b.indices b.weights) n i t (drop (links_of n k b.indices) b.weights) nan h
        (subst (λ (x : ℕ). t < x) (sym (length-map (weight k b.indices b.weights i) (list i))) l)
        ∙ get_or-map-in (weight k b.indices b.weights i) (list i) t 0 nan l

  -- every frame that is linked with i stands in list i, with the weight of the link
  pub listed-all : (i j : ℕ) → i < n → j < n → linked k b.indices i j ≡ true
      → (p : ℕ) × (InList made.offsets i p × (num made.indices p ≡ j) × (at made.weights p ≡ weight k b.indices b.weights i j))
  listed-all i j h l e =
      let s = place_in (linked k b.indices i) n j in
      let m : s < length (list i) = spot_yes (linked k b.indices i) n j l e in
      let named : num (list i) s ≡ j = spot-at (linked k b.indices i) n j l e in
      let here : InList made.offsets i (start i + s) = omega (arith, m, offset-is i (omega arith), offset-is (i + 1) (omega arith), joined-grow list i) in
      (start i + s, (here, index_at i s h m ∙ named, weight-at i s h m ∙ ap (weight k b.indices b.weights i) named))

  -- ---- a place p of list i

  module _ (i p : ℕ) (h : i < n) (at_p : InList made.offsets i p) where
    -- how far it is past the beginning
    abbrev past : ℕ
    past = p - start i

    place_is : (start i + past ≡ p) × (past < length (list i))
    place_is = (omega (arith, at_p, offset-is i (omega arith)), omega (arith, at_p, offset-is i (omega arith), offset-is (i + 1) (omega arith), joined-grow list i))

    index_is : num made.indices p ≡ num (list i) past
    index_is = ap (num made.indices) (sym place_is.0) ∙ index_at i past h place_is.1

    index_below : num made.indices p < n
    index_below = omega (arith, index_is, those-below (linked k b.indices i) n past place_is.1)

    -- what list i names is linked with i
    pub listed-linked : linked k b.indices i (num made.indices p) ≡ true
    listed-linked = ap (linked k b.indices i) index_is ∙ those-holds (linked k b.indices i) n past place_is.1

    -- with the weight of that link
    pub listed-weight : at made.weights p ≡ weight k b.indices b.weights i (num made.indices p)
    listed-weight = ap (at made.weights) (sym place_is.0) ∙ weight-at i past h place_is.1 ∙ ap (weight k b.indices b.weights i) (sym index_is)

    -- no list names its own frame
    pub listed-other : num made.indices p ≡ i → ⊥
    listed-other e = true≢false (sym listed-linked ∙ ap (linked k b.indices i) e ∙ linked-self n k b.indices ok i h)

    -- every link has its mirror: the list of the frame named at p names i, with an equal weight, so with the same bits
    pub listed-mirror : (r : ℕ) × (InList made.offsets (num made.indices p) r × (num made.indices r ≡ i) × (at made.weights r ≡ at made.weights p))
    listed-mirror =
        let j = num made.indices p in
        let m = listed-all j i index_below h (linked-comm k b.indices b.weights j i ∙ listed-linked) in
        (m.0, (m.1.0, m.1.1, m.1.2 ∙ weight-comm k b.indices b.weights j i ∙ sym listed-weight))

  -- each list rises strictly
  pub listed-rises : (i p r : ℕ) → i < n → InList made.offsets i p → InList made.offsets i r → p < r → num made.indices p < num made.indices r
  listed-rises i p r h u v l = omega (
    arith,
    index_is i p h u,
    index_is i r h v,
    those-rise (linked k b.indices i) n (p - start i) (r - start i) (omega (arith, u, offset-is i (omega arith))) (place_is i r h v).1,
  )

-- the contract of `symmetrise` allows one outcome
pub one-outcome : (a b : Areas) → a ≡ b → (a.weights ≡ b.weights) × (a.indices ≡ b.indices) × (a.offsets ≡ b.offsets) × (a.row_values ≡ b.row_values) × (a.row_indices ≡ b.row_indices)
one-outcome a b e = (ap (λ (x : Areas). x.weights) e, ap (λ (x : Areas). x.indices) e, ap (λ (x : Areas). x.offsets) e, ap (λ (x : Areas). x.row_values) e, ap (λ (x : Areas). x.row_indices) e)
