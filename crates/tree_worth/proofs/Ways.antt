-- Of a tree whose counts, depths and parents are in order: what a way from the root leads to, and that each node has one parent. Assumes nothing.
use mathlib.Core.Path.{◌≡◌, sym, ap, ◌∙◌}
use mathlib.Core.List.{List}
use Prim.Native.Nat.{ℕ, zero, suc, ◌+◌, ◌-◌, ◌^◌, ◌<◌, ◌≤◌}
use native.Mathlib.Omega.{arith}
use native.Mathlib.Numerals.{add-one}
use native.Mathlib.Decide.{ℕ_discrete}
use native.Mathlib.Nat.{not-suc-le-zero, add-zero}
use Rattle.tree_node.specs.declared.Node.{Node}
use Rattle.tree_node.specs.Arena.{node_at}
use Rattle.tree.specs.Insert.{Tree}
use Rattle.tree_worth.specs.Worth.{child_counts, Deep, IsChild}
use Rattle.tree_worth.proofs.Tallies.{Tallied, owed-out}

module _ (c : ℕ) (t : Tree) (k : Tallied c 0 0 t) (some : 0 < t.used) where
  abbrev ns : List Node
  ns = t.nodes

  pub tally-whole : (x : ℕ) → x < t.used → ((node_at ns x).first ≡ 0 → ⊥) → (node_at ns x).count ≡ child_counts c ns x
  tally-whole x l z = k.tally x l z ∙ (ap (λ (o : ℕ). child_counts c ns x + o) (owed-out c (node_at ns x).first 0 (λ h _. z (omega (arith, h)))) ∙ add-zero (child_counts c ns x))

  -- what a way from the root leads to is a used node, at that depth
  pub way_deep : (d x : ℕ) → Deep c ns d x → (x < t.used) × (k.deep x ≡ d)
  unfolding Deep
  way_deep zero x e = rw e (some, k.at-root)
  way_deep (suc d) x (p, b, z, l, e, w) =
      let r : (p < t.used) × (k.deep p ≡ d) = way_deep d p w in
      rw e (omega (arith, (k.above p r.0 z).1, l), (k.of-child p r.0 z b l).1 ∙ ap (λ (y : ℕ). y + 1) r.1 ∙ add-one d)

  -- and every used node has one: g steps up are enough
  way_up : (g x : ℕ) → x < g → x < t.used → (d : ℕ) × Deep c ns d x
  unfolding Deep
  way_up zero x l u = absurd (not-suc-le-zero l)
  way_up (suc g) x l u = elim (ℕ_discrete x 0) [
    | yes e ↦ (0, e)
    | no n ↦
        let h = k.has-parent x (omega (arith, n)) u in
        let r : (d : ℕ) × Deep c ns d (k.up x) = way_up g (k.up x) (omega (arith, h.0, l)) (omega (arith, h.0, u)) in
        (suc r.0, (k.up x, x - (node_at ns (k.up x)).first, h.1, omega (arith, h.2, h.3), omega (arith, h.2), r.1))
  ]

  pub way-there : (x : ℕ) → x < t.used → (d : ℕ) × Deep c ns d x
  way-there x u = way_up (suc x) x (omega arith) u

  pub parent-there : (x : ℕ) → 0 < x → x < t.used → (p : ℕ) × (p < t.used) × IsChild c ns p x
  parent-there x h u = let g = k.has-parent x h u in (k.up x, omega (arith, g.0, u), (g.1, g.2, g.3))

  pub parent-only : (x p q : ℕ) → p < t.used → q < t.used → IsChild c ns p x → IsChild c ns q x → p ≡ q
  parent-only x p q lp lq (zp, ap', bp) (zq, aq, bq) = sym (up_is p lp zp ap' bp) ∙ up_is q lq zq aq bq
    where
      up_is : (p : ℕ) → p < t.used → ((node_at ns p).first ≡ 0 → ⊥) → (node_at ns p).first ≤ x → x < (node_at ns p).first + 2 ^ c → k.up x ≡ p
      up_is p l z a b =
          let e : (node_at ns p).first + (x - (node_at ns p).first) ≡ x = omega (arith, a) in
          ap k.up (sym e) ∙ (k.of-child p l z (x - (node_at ns p).first) (omega (arith, a, b))).0
