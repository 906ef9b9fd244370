-- The leaf that a point comes to, before and after a level of an insertion. Assumes nothing.
use mathlib.Core.Path.{◌≡◌, refl, sym, ap, subst, ◌∙◌}
use mathlib.Core.List.{List}
use Prim.Native.Nat.{ℕ, zero, suc, ◌+◌, ◌^◌, ◌<◌, ◌≤◌}
use native.Mathlib.Omega.{arith}
use native.Mathlib.Decide.{ℕ_discrete}
use lib.Ieee.{Float}
use borrow.Author.Tests.{eq-eqb, ne_eqb}
use Rattle.tree_node.specs.declared.Node.{Node}
use Rattle.tree_node.specs.Arena.{node_at}
use Rattle.tree_children.specs.Children.{child_index}
use Rattle.tree_children.proofs.Below.{child-below}
use Rattle.tree_walk.specs.Repel.{Blocks}
use Rattle.tree_walk.proofs.Fuel.{nowhere}
use Rattle.tree_worth.specs.Worth.{leaf_for}

module _ (c : ℕ) (p : List Float) where
  abbrev pub next_of : List Node → ℕ → ℕ
  next_of ns i = (node_at ns i).first + child_index c (node_at ns i).centre p

  stops-here : (g : ℕ) (ns : List Node) (i : ℕ) → (node_at ns i).first ≡ 0 → leaf_for g c p ns i ≡ i
  unfolding leaf_for
  stops-here zero ns i z = refl
  stops-here (suc g) ns i z = rw (eq-eqb _ _ z, leaf_for)

  goes_down : (g : ℕ) (ns : List Node) (i : ℕ) → ((node_at ns i).first ≡ 0 → ⊥) → leaf_for (suc g) c p ns i ≡ leaf_for g c p ns (next_of ns i)
  unfolding leaf_for
  goes_down g ns i z = rw (ne_eqb _ _ z, leaf_for)

  -- nodes with the same children and centres lead alike
  pub route-same : (ns ms : List Node) → ((x : ℕ) → (node_at ms x).first ≡ (node_at ns x).first) → ((x : ℕ) → (node_at ms x).centre ≡ (node_at ns x).centre) →
      (g i : ℕ) → leaf_for g c p ms i ≡ leaf_for g c p ns i
  unfolding leaf_for
  route-same ns ms f h zero i = refl
  route-same ns ms f h (suc g) i = elim (ℕ_discrete (node_at ns i).first 0) [
    | yes z ↦ stops-here (suc g) ms i (f i ∙ z) ∙ sym (stops-here (suc g) ns i z)
    | no z ↦
        let e : next_of ms i ≡ next_of ns i = rw (f i, h i) in
        goes_down g ms i (λ x. z (sym (f i) ∙ x)) ∙ ap (leaf_for g c p ms) e ∙ route-same ns ms f h g (next_of ns i) ∙ sym (goes_down g ns i z)
  ]

  module _ (u : ℕ) (ns : List Node) (ok : Blocks u c ns) where
    next-used : (i : ℕ) → i < u → ((node_at ns i).first ≡ 0 → ⊥) → (i < next_of ns i) × (next_of ns i < u)
    next-used i l z = let h = ok i l z in (omega (arith, h.0), omega (arith, h.1, child-below c (node_at ns i).centre p))

    -- any number of levels that reaches the last used node leads alike
    pub route-fuel : (g g' i : ℕ) → i < u → u ≤ i + g → u ≤ i + g' → leaf_for g c p ns i ≡ leaf_for g' c p ns i
    route-fuel zero g' i l a b = absurd (nowhere i u l a)
    route-fuel (suc g) zero i l a b = absurd (nowhere i u l b)
    route-fuel (suc g) (suc g') i l a b = elim (ℕ_discrete (node_at ns i).first 0) [
      | yes z ↦ stops-here (suc g) ns i z ∙ sym (stops-here (suc g') ns i z)
      | no z ↦
          let h = next-used i l z in
          goes_down g ns i z ∙ route-fuel g g' (next_of ns i) h.1 (omega (arith, h.0, a)) (omega (arith, h.0, b)) ∙ sym (goes_down g' ns i z)
    ]

    abbrev pub route_of : ℕ → ℕ
    route_of i = leaf_for u c p ns i

    pub route-leaf : (i : ℕ) → (node_at ns i).first ≡ 0 → route_of i ≡ i
    route-leaf i z = stops-here u ns i z

    pub route-inner : (i : ℕ) → i < u → ((node_at ns i).first ≡ 0 → ⊥) → route_of i ≡ route_of (next_of ns i)
    route-inner i l z = route-fuel u (suc u) i l (omega arith) (omega arith) ∙ goes_down u ns i z

    -- it leads to a used leaf
    ends_at : (g i : ℕ) → i < u → u ≤ i + g → (leaf_for g c p ns i < u) × ((node_at ns (leaf_for g c p ns i)).first ≡ 0)
    ends_at zero i l a = absurd (nowhere i u l a)
    ends_at (suc g) i l a = elim (ℕ_discrete (node_at ns i).first 0) [
      | yes z ↦ rw (stops-here (suc g) ns i z) (l, z)
      | no z ↦
          let h = next-used i l z in
          let r : (leaf_for g c p ns (next_of ns i) < u) × ((node_at ns (leaf_for g c p ns (next_of ns i))).first ≡ 0) = ends_at g (next_of ns i) h.1 (omega (arith, h.0, a)) in
          subst (λ (x : ℕ). (x < u) × ((node_at ns x).first ≡ 0)) (sym (goes_down g ns i z)) r
    ]

    pub route-ends : (i : ℕ) → i < u → (route_of i < u) × ((node_at ns (route_of i)).first ≡ 0)
    route-ends i l = ends_at u i l (omega arith)

  -- ---- leaf i of u nodes gets its 2^c children from node u on

  module _ (u i : ℕ) (ns ms : List Node) (ok : Blocks u c ns) (ok' : Blocks (u + 2 ^ c) c ms) (li : i < u) (leaf : (node_at ns i).first ≡ 0)
      (first-i : (node_at ms i).first ≡ u) (centre-i : (node_at ms i).centre ≡ (node_at ns i).centre)
      (old : (x : ℕ) → x < u → (x ≡ i → ⊥) → node_at ms x ≡ node_at ns x) (new : (b : ℕ) → b < 2 ^ c → (node_at ms (u + b)).first ≡ 0) where
    abbrev before : ℕ → ℕ
    before x = route_of u ns ok x

    abbrev after : ℕ → ℕ
    after x = route_of (u + 2 ^ c) ms ok' x

    abbrev child : ℕ
    child = u + child_index c (node_at ns i).centre p

    from-i : after i ≡ child
    from-i =
        let z : (node_at ms i).first ≡ 0 → ⊥ = λ x. omega (arith, first-i, x, li) in
        let e : next_of ms i ≡ child = rw (first-i, centre-i) in
        route-inner (u + 2 ^ c) ms ok' i (omega (arith, li)) z ∙ ap after e ∙ route-leaf (u + 2 ^ c) ms ok' child (new (child_index c (node_at ns i).centre p) (child-below c (node_at ns i).centre p))

    -- what came to leaf i comes to one of its children; what came elsewhere comes there still
    pub split-route : (g x : ℕ) → x < u → u ≤ x + g → (before x ≡ i → after x ≡ child) × ((before x ≡ i → ⊥) → after x ≡ before x)
    split-route zero x l a = absurd (nowhere x u l a)
    split-route (suc g) x l a = elim (ℕ_discrete (node_at ns x).first 0) [
      | yes z ↦ elim (ℕ_discrete x i) [
        | yes e ↦ ((λ _. ap after e ∙ from-i), λ n. absurd (n (route-leaf u ns ok x z ∙ e)))
        | no n ↦ (
          (λ q. absurd (n (sym (route-leaf u ns ok x z) ∙ q))),
          λ _. route-leaf (u + 2 ^ c) ms ok' x (ap (λ (v : Node). v.first) (old x l n) ∙ z) ∙ sym (route-leaf u ns ok x z),
        )
      ]
      | no z ↦
          let n : x ≡ i → ⊥ = λ e. z (ap (λ (y : ℕ). (node_at ns y).first) e ∙ leaf) in
          let e : next_of ms x ≡ next_of ns x = ap (λ (v : Node). v.first + child_index c v.centre p) (old x l n) in
          let h = next-used u ns ok x l z in
          let b : before x ≡ before (next_of ns x) = route-inner u ns ok x l z in
          let f : after x ≡ after (next_of ns x) = route-inner (u + 2 ^ c) ms ok' x (omega (arith, l)) (λ q. z (sym (ap (λ (v : Node). v.first) (old x l n)) ∙ q)) ∙ ap after e in
          let r : (before (next_of ns x) ≡ i → after (next_of ns x) ≡ child) × ((before (next_of ns x) ≡ i → ⊥) →
          after (next_of ns x) ≡ before (next_of ns x)) = split-route g (next_of ns x) h.1 (omega (arith, h.0, a)) in
          ((λ q. f ∙ r.0 (sym b ∙ q)), λ q. f ∙ r.1 (λ w. q (b ∙ w)) ∙ sym b)
    ]
