-- The list of the leaves that count a point: each stands in it once, and none is missing. Assumes nothing.
use mathlib.Core.Path.{◌≡◌, refl, sym, ap, subst, ◌∙◌}
use mathlib.Core.List.{List, [], ◌∷◌, ◌++◌}
use Prim.Native.Nat.{ℕ, zero, suc, ◌+◌, ◌-◌, ◌^◌, ◌<◌, ◌≤◌}
use native.Mathlib.Omega.{arith}
use native.Mathlib.Decide.{ℕ_discrete}
use native.Mathlib.Nat.{not-suc-le-zero, add-zero}
use borrow.Author.Tests.{eq-eqb, ne_eqb}
use Rattle.laws.specs.Sums.{sum}
use Rattle.laws.specs.Joined.{joined}
use Rattle.laws.proofs.Sums.{sum_same}
use Rattle.tree_node.specs.declared.Node.{Node}
use Rattle.tree_node.specs.Arena.{node_at}
use Rattle.tree_walk.proofs.Fuel.{nowhere}
use Rattle.tree.specs.Insert.{Tree}
use Rattle.tree_worth.specs.Worth.{leaves_of, times_in, counts_of}
use Rattle.tree_worth.proofs.Sums.{sum-nothing, term-le, sum-some, sum-one-only}
use Rattle.tree_worth.proofs.Tallies.{Tallied}
use Rattle.tree_worth.proofs.Ways.{tally-whole}

-- ---- lists that are joined

joined-same' : (f g : ℕ → List ℕ) (n : ℕ) → ((b : ℕ) → b < n → f b ≡ g b) → joined f n ≡ joined g n
unfolding joined
joined-same' f g zero h = refl
joined-same' f g (suc n) h = rw (joined-same' f g n (λ b l. h b (omega arith)), h n (omega arith))

joined-nothing : (f : ℕ → List ℕ) (n : ℕ) → ((b : ℕ) → b < n → f b ≡ []) → joined f n ≡ []
unfolding joined
joined-nothing f zero h = refl
joined-nothing f (suc n) h = rw (joined-nothing f n (λ b l. h b (omega arith)), h n (omega arith))

times-append : (k : ℕ) (l m : List ℕ) → times_in k (l ++ m) ≡ times_in k l + times_in k m
unfolding times_in
times-append k [] m = omega arith
times-append k (x ∷ l) m = omega (arith, times-append k l m)

times-joined : (k : ℕ) (f : ℕ → List ℕ) (n : ℕ) → times_in k (joined f n) ≡ sum (λ b. times_in k (f b)) n
unfolding joined sum times_in
times-joined k f zero = refl
times-joined k f (suc n) = times-append k (joined f n) (f n) ∙ ap (λ (x : ℕ). x + times_in k (f n)) (times-joined k f n)

counts-append : (ns : List Node) (l m : List ℕ) → counts_of ns (l ++ m) ≡ counts_of ns l + counts_of ns m
unfolding counts_of
counts-append ns [] m = omega arith
counts-append ns (x ∷ l) m = omega (arith, counts-append ns l m)

counts-joined : (ns : List Node) (f : ℕ → List ℕ) (n : ℕ) → counts_of ns (joined f n) ≡ sum (λ b. counts_of ns (f b)) n
unfolding joined sum counts_of
counts-joined ns f zero = refl
counts-joined ns f (suc n) = counts-append ns (joined f n) (f n) ∙ ap (λ (x : ℕ). x + counts_of ns (f n)) (counts-joined ns f n)

times-one : (k x : ℕ) → times_in k (x ∷ []) ≤ 1
unfolding times_in
times-one k x = elim (ℕ_discrete x k) [ yes e ↦ rw (eq-eqb x k e) (omega arith) | no n ↦ rw (ne_eqb x k n) (omega arith) ]

times-here : (k : ℕ) → times_in k (k ∷ []) ≡ 1
unfolding times_in
times-here k = rw (eq-eqb k k refl)

times-is : (k x : ℕ) → 0 < times_in k (x ∷ []) → x ≡ k
unfolding times_in
times-is k x h = elim (ℕ_discrete x k) [ yes e ↦ e | no n ↦ absurd (not-suc-le-zero (rw (ne_eqb x k n) at h)) ]

times_none : (k : ℕ) → times_in k [] ≡ 0
unfolding times_in
times_none k = refl

none-none : (k : ℕ) (l : List ℕ) → l ≡ [] → 0 < times_in k l → ⊥
none-none k l e h = not-suc-le-zero (subst (λ (x : ℕ). 0 < x) (ap (times_in k) e ∙ times_none k) h)

counts-none : (ns : List Node) → counts_of ns [] ≡ 0
unfolding counts_of
counts-none ns = refl

counts-one : (ns : List Node) (x : ℕ) → counts_of ns (x ∷ []) ≡ (node_at ns x).count
unfolding counts_of
counts-one ns x = add-zero (node_at ns x).count

-- ---- the list, node by node

module _ (c : ℕ) (ns : List Node) where
  pub leaves-inner : (g i : ℕ) → ((node_at ns i).first ≡ 0 → ⊥) → leaves_of (suc g) c ns i ≡ joined (λ b. leaves_of g c ns ((node_at ns i).first + b)) (2 ^ c)
  unfolding leaves_of
  leaves-inner g i z = rw (ne_eqb _ _ z, leaves_of)

  pub leaves_empty : (g i : ℕ) → (node_at ns i).first ≡ 0 → (node_at ns i).count ≡ 0 → leaves_of (suc g) c ns i ≡ []
  unfolding leaves_of
  leaves_empty g i z e = rw (eq-eqb _ _ z, leaves_of) (rw (eq-eqb _ _ e))

  pub leaves-here : (g i : ℕ) → (node_at ns i).first ≡ 0 → ((node_at ns i).count ≡ 0 → ⊥) → leaves_of (suc g) c ns i ≡ i ∷ []
  unfolding leaves_of
  leaves-here g i z e = rw (eq-eqb _ _ z, leaves_of) (rw (ne_eqb _ _ e))

  leaves-zero : (i : ℕ) → leaves_of 0 c ns i ≡ []
  unfolding leaves_of
  leaves-zero i = refl

-- m steps up
climbed : (ℕ → ℕ) → ℕ → ℕ → ℕ
climbed up zero x = x
climbed up (suc m) x = up (climbed up m x)

module _ (c : ℕ) (t : Tree) (h : Tallied c 0 0 t) (some : 0 < t.used) where
  abbrev ns : List Node
  ns = t.nodes

  abbrev u : ℕ
  u = t.used

  child-in : (i : ℕ) → i < u → ((node_at ns i).first ≡ 0 → ⊥) → (b : ℕ) → b < 2 ^ c → (node_at ns i).first + b < u
  child-in i l z b lb = omega (arith, (h.above i l z).1, lb)

  -- below a node that counts none there is no such leaf
  pub none_below : (g i : ℕ) → i < u → (node_at ns i).count ≡ 0 → leaves_of g c ns i ≡ []
  none_below zero i l e = leaves-zero c ns i
  none_below (suc g) i l e =
      elim (ℕ_discrete (node_at ns i).first 0) [
        | yes z ↦ leaves_empty c ns g i z e
        | no z ↦
            leaves-inner c ns g i z
            ∙ joined-nothing (λ b. leaves_of g c ns ((node_at ns i).first + b)) (2 ^ c)
            (λ b lb. none_below g ((node_at ns i).first + b) (child-in i l z b lb)
            (sum-nothing (λ b. (node_at ns ((node_at ns i).first + b)).count) (2 ^ c) (sym (tally-whole c t h some i l z) ∙ e) b lb))
      ]

  -- any number of levels that reaches the last used node gives the same
  leaves-fuel : (g g' i : ℕ) → i < u → u ≤ i + g → u ≤ i + g' → leaves_of g c ns i ≡ leaves_of g' c ns i
  leaves-fuel zero g' i l a b = absurd (nowhere i u l a)
  leaves-fuel (suc g) zero i l a b = absurd (nowhere i u l b)
  leaves-fuel (suc g) (suc g') i l a a' =
      elim (ℕ_discrete (node_at ns i).first 0) [
        | yes z ↦ elim (ℕ_discrete (node_at ns i).count 0) [
          | yes e ↦ leaves_empty c ns g i z e ∙ sym (leaves_empty c ns g' i z e)
          | no e ↦ leaves-here c ns g i z e ∙ sym (leaves-here c ns g' i z e)
        ]
        | no z ↦
            leaves-inner c ns g i z
            ∙ joined-same' (λ b. leaves_of g c ns ((node_at ns i).first + b)) (λ b. leaves_of g' c ns ((node_at ns i).first + b)) (2 ^ c)
            (λ b lb. leaves-fuel g g' ((node_at ns i).first + b) (child-in i l z b lb) (omega (arith, a, (h.above i l z).0)) (omega (arith, a', (h.above i l z).0)))
            ∙ sym (leaves-inner c ns g' i z)
      ]

  abbrev below : ℕ → List ℕ
  below i = leaves_of u c ns i

  below-inner : (i : ℕ) → i < u → ((node_at ns i).first ≡ 0 → ⊥) → below i ≡ joined (λ b. below ((node_at ns i).first + b)) (2 ^ c)
  below-inner i l z = leaves-fuel u (suc u) i l (omega arith) (omega arith) ∙ leaves-inner c ns u i z

  below-here : (i : ℕ) → i < u → (node_at ns i).first ≡ 0 → ((node_at ns i).count ≡ 0 → ⊥) → below i ≡ i ∷ []
  below-here i l z e = leaves-fuel u (suc u) i l (omega arith) (omega arith) ∙ leaves-here c ns u i z e

  -- ---- what their counts add up to

  pub below-counts : (g i : ℕ) → i < u → u ≤ i + g → counts_of ns (leaves_of g c ns i) ≡ (node_at ns i).count
  below-counts zero i l a = absurd (nowhere i u l a)
  below-counts (suc g) i l a =
      elim (ℕ_discrete (node_at ns i).first 0) [
        | yes z ↦ elim (ℕ_discrete (node_at ns i).count 0) [
          | yes e ↦ ap (counts_of ns) (leaves_empty c ns g i z e) ∙ counts-none ns ∙ sym e
          | no e ↦ ap (counts_of ns) (leaves-here c ns g i z e) ∙ counts-one ns i
        ]
        | no z ↦
            ap (counts_of ns) (leaves-inner c ns g i z)
            ∙ counts-joined ns (λ b. leaves_of g c ns ((node_at ns i).first + b)) (2 ^ c)
            ∙ sum_same (λ b. counts_of ns (leaves_of g c ns ((node_at ns i).first + b))) (λ b. (node_at ns ((node_at ns i).first + b)).count) (2 ^ c)
            (λ b lb. below-counts g ((node_at ns i).first + b) (child-in i l z b lb) (omega (arith, a, (h.above i l z).0)))
            ∙ sym (tally-whole c t h some i l z)
      ]

  -- ---- what stands in it is a leaf that counts a point

  pub below-only : (k g i : ℕ) → i < u → 0 < times_in k (leaves_of g c ns i) → (k < u) × ((node_at ns k).first ≡ 0) × ((node_at ns k).count ≡ 0 → ⊥)
  below-only k zero i l s = absurd (none-none k (leaves_of 0 c ns i) (leaves-zero c ns i) s)
  below-only k (suc g) i l s =
      elim (ℕ_discrete (node_at ns i).first 0) [
        | yes z ↦ elim (ℕ_discrete (node_at ns i).count 0) [
          | yes e ↦ absurd (none-none k (leaves_of (suc g) c ns i) (leaves_empty c ns g i z e) s)
          | no e ↦ (let q : i ≡ k = times-is k i (subst (λ (x : List ℕ). 0 < times_in k x) (leaves-here c ns g i z e) s) in subst (λ (x : ℕ). (x < u) ×
              ((node_at ns x).first ≡ 0) × ((node_at ns x).count ≡ 0 → ⊥)) q (l, z, e))
        ]
        | no z ↦
            let r = sum-some (λ b. times_in k (leaves_of g c ns ((node_at ns i).first + b))) (2 ^ c)
            (subst (λ (x : ℕ). 0 < x) (ap (times_in k) (leaves-inner c ns g i z) ∙ times-joined k (λ b. leaves_of g c ns ((node_at ns i).first + b)) (2 ^ c)) s)
            in
            below-only k g ((node_at ns i).first + r.0) (child-in i l z r.0 r.1) r.2
      ]

  -- ---- so many steps up from it lead to node i: so many as it is deeper

  leads : (k g i : ℕ) → i < u → 0 < times_in k (leaves_of g c ns i) → (m : ℕ) × (m + h.deep i ≡ h.deep k) × (climbed h.up m k ≡ i)
  unfolding climbed
  leads k zero i l s = absurd (none-none k (leaves_of 0 c ns i) (leaves-zero c ns i) s)
  leads k (suc g) i l s =
      elim (ℕ_discrete (node_at ns i).first 0) [
        | yes z ↦ elim (ℕ_discrete (node_at ns i).count 0) [
          | yes e ↦ absurd (none-none k (leaves_of (suc g) c ns i) (leaves_empty c ns g i z e) s)
          | no e ↦ (let q : i ≡ k = times-is k i (subst (λ (x : List ℕ). 0 < times_in k x) (leaves-here c ns g i z e) s) in
              (0, (let w : h.deep i ≡ h.deep k = ap h.deep q in omega (arith, w)), sym q))
        ]
        | no z ↦
            let r = sum-some (λ b. times_in k (leaves_of g c ns ((node_at ns i).first + b))) (2 ^ c)
            (subst (λ (x : ℕ). 0 < x) (ap (times_in k) (leaves-inner c ns g i z) ∙ times-joined k (λ b. leaves_of g c ns ((node_at ns i).first + b)) (2 ^ c)) s)
            in
            let w : (m : ℕ) × (m + h.deep ((node_at ns i).first + r.0) ≡ h.deep k) ×
            (climbed h.up m k ≡ (node_at ns i).first + r.0) = leads k g ((node_at ns i).first + r.0) (child-in i l z r.0 r.1) r.2 in
            let o = h.of-child i l z r.0 r.1 in
            (suc w.0, omega (arith, w.1, o.1), ap h.up w.2 ∙ o.0)
      ]

  pub below-once : (k g i : ℕ) → i < u → times_in k (leaves_of g c ns i) ≤ 1
  below-once k zero i l = subst (λ (x : ℕ). x ≤ 1) (sym (ap (times_in k) (leaves-zero c ns i) ∙ times_none k)) (omega arith)
  below-once k (suc g) i l =
      elim (ℕ_discrete (node_at ns i).first 0) [
        | yes z ↦ elim (ℕ_discrete (node_at ns i).count 0) [
          | yes e ↦ subst (λ (x : ℕ). x ≤ 1) (sym (ap (times_in k) (leaves_empty c ns g i z e) ∙ times_none k)) (omega arith)
          | no e ↦ subst (λ (x : List ℕ). times_in k x ≤ 1) (sym (leaves-here c ns g i z e)) (times-one k i)
        ]
        | no z ↦
            let f : ℕ → ℕ = λ b. times_in k (leaves_of g c ns ((node_at ns i).first + b)) in
            subst (λ (x : ℕ). x ≤ 1) (sym (ap (times_in k) (leaves-inner c ns g i z) ∙ times-joined k (λ b. leaves_of g c ns ((node_at ns i).first + b)) (2 ^ c)))
            (sum-one-only f (2 ^ c) (λ b lb. below-once k g ((node_at ns i).first + b) (child-in i l z b lb))
            (λ a b la lb sa sb. same-child i l z a b la lb (leads k g ((node_at ns i).first + a) (child-in i l z a la) sa) (leads k g ((node_at ns i).first + b) (child-in i l z b lb) sb)))
      ]
    where
      same-child : (i : ℕ) → i < u → ((node_at ns i).first ≡ 0 → ⊥) → (a b : ℕ) → a < 2 ^ c → b < 2 ^ c
          → ((m : ℕ) × (m + h.deep ((node_at ns i).first + a) ≡ h.deep k) × (climbed h.up m k ≡ (node_at ns i).first + a))
          → ((m : ℕ) × (m + h.deep ((node_at ns i).first + b) ≡ h.deep k) × (climbed h.up m k ≡ (node_at ns i).first + b)) → a ≡ b
      same-child i l z a b la lb (m, dm, em) (m', dm', em') =
          let e : m ≡ m' = omega (arith, dm, dm', (h.of-child i l z a la).1, (h.of-child i l z b lb).1) in
          let f : (node_at ns i).first + a ≡ (node_at ns i).first + b = sym em ∙ ap (λ (x : ℕ). climbed h.up x k) e ∙ em' in
          omega (arith, f)

  -- ---- none is missing

  climbs : (k g x : ℕ) → x < g → x < u → 0 < times_in k (below x) → 0 < times_in k (below 0)
  climbs k zero x a l s = absurd (not-suc-le-zero a)
  climbs k (suc g) x a l s = elim (ℕ_discrete x 0) [
    | yes e ↦ subst (λ (y : ℕ). 0 < times_in k (below y)) e s
    | no n ↦
        let w = h.has-parent x (omega (arith, n)) l in
        let p = h.up x in
        let lp : p < u = omega (arith, w.0, l) in
        let b = x - (node_at ns p).first in
        let e : (node_at ns p).first + b ≡ x = omega (arith, w.2) in
        let lb : b < 2 ^ c = omega (arith, w.2, w.3) in
        let f : ℕ → ℕ = λ b. times_in k (below ((node_at ns p).first + b)) in
        let q : times_in k (below p) ≡ sum f (2 ^ c) = ap (times_in k) (below-inner p lp w.1) ∙ times-joined k (λ b. below ((node_at ns p).first + b)) (2 ^ c) in
        let v : f b ≡ times_in k (below x) = ap (λ (y : ℕ). times_in k (below y)) e in
        climbs k g p (omega (arith, w.0, a)) lp (omega (arith, q, v, s, term-le f (2 ^ c) b lb))
  ]

  pub below_all : (k : ℕ) → k < u → (node_at ns k).first ≡ 0 → ((node_at ns k).count ≡ 0 → ⊥) → times_in k (below 0) ≡ 1
  below_all k l z e =
      let q : times_in k (below k) ≡ 1 = ap (times_in k) (below-here k l z e) ∙ times-here k in
      let s = climbs k (suc k) k (omega arith) l (omega (arith, q)) in
      omega (arith, s, below-once k u 0 some)
