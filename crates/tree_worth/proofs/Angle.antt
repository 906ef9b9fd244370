-- With an angle of zero the walk is the sum over the leaves that count a point, in the order of their list. Assumes nothing.
use mathlib.Core.Path.{◌≡◌, refl, sym, ap, ◌∙◌}
use mathlib.Core.List.{List, [], ◌∷◌, ◌++◌}
use mathlib.Core.Bool.{Bool, cond}
use Prim.Native.Nat.{ℕ, zero, suc, ◌+◌, ◌^◌, ◌<◌}
use native.Mathlib.Omega.{arith}
use native.Mathlib.Decide.{ℕ_discrete}
use lib.Ieee.{Float, binary64, mul}
use borrow.Author.Tests.{eq-eqb, ne_eqb}
use Rattle.laws.specs.Loops.{loop}
use Rattle.laws.specs.Joined.{joined}
use Rattle.laws.proofs.Bools.{by_bool}
use Rattle.laws.proofs.Loops.{loop-last, loop-same}
use Rattle.tree_node.specs.declared.Node.{Node}
use Rattle.std.specs.declared.option.Option.{Option}
use Rattle.std.specs.declared.option.Option.TheVariants.{None, Some}
use Rattle.tree_node.specs.Arena.{node_at}
use Rattle.tree_bodies.specs.declared.Acc.{Acc}
use Rattle.tree_bodies.specs.Bodies.{leaf_kind, kind_of, body_of}
use Rattle.tree_walk.specs.Repel.{walk_of}
use Rattle.tree_walk.proofs.Fuel.{skips, bodies, opens}
use Rattle.tree.specs.Insert.{Tree}
use Rattle.tree_worth.specs.Worth.{leaves_of, holds_alone, leaf_adds, leaves_add, NoAngle}
use Rattle.tree_worth.proofs.Tallies.{Tallied}
use Rattle.tree_worth.proofs.Leaves.{leaves-inner, leaves-here, none_below}
use Rattle.tree_worth.proofs.Zero.{cell_opens}

module _ (c q : ℕ) (p : List Float) (ns : List Node) where
  abbrev adds : List ℕ → Acc → Acc
  adds l a = leaves_add c q p ns l a

  adds-append : (l m : List ℕ) (a : Acc) → adds (l ++ m) a ≡ adds m (adds l a)
  unfolding leaves_add
  adds-append [] m a = refl
  adds-append (x ∷ l) m a = adds-append l m (leaf_adds c q p (node_at ns x) a)

  adds-joined : (f : ℕ → List ℕ) (n : ℕ) (a : Acc) → adds (joined f n) a ≡ loop (λ b a. adds (f b) a) n 0 a
  unfolding joined loop leaves_add
  adds-joined f zero a = refl
  adds-joined f (suc n) a = adds-append (joined f n) (f n) a ∙ ap (adds (f n)) (adds-joined f n a) ∙ sym (loop-last (λ b a. adds (f b) a) n a)

  adds_none : (l : List ℕ) (a : Acc) → l ≡ [] → adds l a ≡ a
  unfolding leaves_add
  adds_none l a e = rw e refl

  adds_one : (x : ℕ) (a : Acc) → adds (x ∷ []) a ≡ leaf_adds c q p (node_at ns x) a
  unfolding leaves_add
  adds_one x a = refl

  -- ---- a leaf that counts a point, to the walk

  module _ (theta2 : Float) where
    kind-none : (i : ℕ) → (node_at ns i).count ≡ 0 → kind_of c q p theta2 (node_at ns i) ≡ 0
    unfolding kind_of
    kind-none i e = rw (eq-eqb _ _ e)

    kind-leaf : (i : ℕ) → ((node_at ns i).count ≡ 0 → ⊥) → (node_at ns i).first ≡ 0 → kind_of c q p theta2 (node_at ns i) ≡ leaf_kind q (node_at ns i).count (node_at ns i).leaf
    unfolding kind_of
    kind-leaf i n z = rw (ne_eqb _ _ n, eq-eqb _ _ z)

    leaf-kind : (n : ℕ) (l : Option ℕ) → leaf_kind q n l ≡ cond (holds_alone q n l) 0 1
    leaf-kind n None = refl
    leaf-kind n (Some o) = refl

    leaf_walked : (g i : ℕ) (a : Acc) → ((node_at ns i).count ≡ 0 → ⊥) → (node_at ns i).first ≡ 0 → walk_of (suc g) c q p theta2 ns i a ≡ leaf_adds c q p (node_at ns i) a
    leaf_walked g i a n z =
        let v = node_at ns i in
        let k : kind_of c q p theta2 v ≡ cond (holds_alone q v.count v.leaf) 0 1 = kind-leaf i n z ∙ leaf-kind v.count v.leaf in
        by_bool (walk_of (suc g) c q p theta2 ns i a ≡ leaf_adds c q p v a) (holds_alone q v.count v.leaf)
        (λ e. skips c q p theta2 ns g i a (k ∙ ap (λ (b : Bool). cond b 0 1) e) ∙ sym (ap (λ (b : Bool). cond b a (body_of c p v a)) e))
        (λ e. bodies c q p theta2 ns g i a (k ∙ ap (λ (b : Bool). cond b 0 1) e) ∙ sym (ap (λ (b : Bool). cond b a (body_of c p v a)) e))

module _ (c q : ℕ) (p : List Float) (angle : Float) (flat : NoAngle angle) (t : Tree) (h : Tallied c 0 0 t) (some : 0 < t.used) where
  abbrev ns : List Node
  ns = t.nodes

  abbrev theta2 : Float
  theta2 = mul binary64 angle angle

  pub walk-adds : (g i : ℕ) (a : Acc) → i < t.used → walk_of g c q p theta2 ns i a ≡ leaves_add c q p ns (leaves_of g c ns i) a
  unfolding walk_of leaves_of leaves_add
  walk-adds zero i a l = refl
  walk-adds (suc g) i a l =
      elim (ℕ_discrete (node_at ns i).count 0) [
        | yes e ↦ skips c q p theta2 ns g i a (kind-none c q p ns theta2 i e) ∙ sym (adds_none c q p ns (leaves_of (suc g) c ns i) a (none_below c t h some (suc g) i l e))
        | no n ↦ elim (ℕ_discrete (node_at ns i).first 0) [
          | yes z ↦ leaf_walked c q p ns theta2 g i a n z ∙ sym (ap (λ (x : List ℕ). leaves_add c q p ns x a) (leaves-here c ns g i z n) ∙ adds_one c q p ns i a)
          | no z ↦
              let k = cell_opens c q p angle (node_at ns i) flat n z in
              opens c q p theta2 ns g i a (λ x. two-not-0 (sym k ∙ x)) (λ x. two-not-1 (sym k ∙ x))
              ∙ loop-same (λ b a. walk_of g c q p theta2 ns ((node_at ns i).first + b) a) (λ b a. leaves_add c q p ns (leaves_of g c ns ((node_at ns i).first + b)) a) (2 ^ c) 0 a
              (λ b y _ lb. walk-adds g ((node_at ns i).first + b) y (omega (arith, lb, (h.above i l z).1)))
              ∙ sym (ap (λ (x : List ℕ). leaves_add c q p ns x a) (leaves-inner c ns g i z) ∙ adds-joined c q p ns (λ b. leaves_of g c ns ((node_at ns i).first + b)) (2 ^ c) a)
        ]
      ]
    where
      two-not-0 : ◌≡◌ {A = ℕ} 2 0 → ⊥
      two-not-0 x = omega (arith, x)

      two-not-1 : ◌≡◌ {A = ℕ} 2 1 → ⊥
      two-not-1 x = omega (arith, x)
