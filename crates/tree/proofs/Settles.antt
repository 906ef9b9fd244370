-- The Rust makes all children empty and then inserts the old point into one of them. `subdivided` does the same. Assumes nothing.
use mathlib.Core.Path.{◌≡◌, refl, sym, ap, subst, ◌∙◌}
use mathlib.Core.List.{List}
use mathlib.Core.Bool.{true}
use Prim.Native.Nat.{ℕ, suc, ◌+◌, ◌-◌, ◌^◌, ◌<◌, ◌≤◌}
use native.Mathlib.Omega.{arith}
use native.Mathlib.Decide.{ℕ_discrete, dec_lt}
use lib.ListN.{length, set, length-set}
use lib.Seq.{get_or-set_same, get_or-set_other, ext_get_or}
use lib.Ieee.{Float}
use borrow.Author.Tests.{eq-eqb, ne_eqb}
use Rattle.laws.specs.Loops.{loop}
use Rattle.tree_node.specs.declared.Node.{Node}
use Rattle.tree_node.specs.Node.{point_of}
use Rattle.tree_children.specs.Children.{child_index, cell_of}
use Rattle.tree_turns.specs.Turns.{child_of, absorbed, occupied, turn_of, out}
use Rattle.tree_node.specs.Arena.{node_at, blank}
use Rattle.tree.specs.Insert.{tree, subdivided, inserted}
use Rattle.tree_children.proofs.Below.{child-below}
use Rattle.tree.proofs.Grow.{make_step, made, length-filled, filled_in, filled-out}
use Rattle.tree.proofs.Inserting.{level-plain, inserted-last}

module _ (y : List Float) (c : ℕ) (w : Node) (o : ℕ) (ns : List Node) (h : w.first + 2 ^ c ≤ length ns) where
  abbrev q : List Float
  q = point_of y c o

  abbrev k : ℕ
  k = child_index c w.centre q

  -- all children empty
  abbrev pub empties : List Node
  empties = loop (make_step w.first (cell_of c w)) (2 ^ c) 0 ns

  abbrev old : Node
  old = occupied o (absorbed c q (cell_of c w k))

  at-k : w.first + k < length empties
  at-k = omega (arith, child-below c w.centre q, h, (made w.first (cell_of c w) (2 ^ c) ns).0)

  here : node_at empties (w.first + k) ≡ cell_of c w k
  here = (made w.first (cell_of c w) (2 ^ c) ns).2 k (child-below c w.centre q) (omega (arith, child-below c w.centre q, h))

  child-same : child_of c w o q k ≡ old
  unfolding child_of
  child-same = rw (eq-eqb k k refl)

  child-other : (b : ℕ) → (b ≡ k → ⊥) → child_of c w o q b ≡ cell_of c w b
  unfolding child_of
  child-other b n = rw (ne_eqb b k n)

  put-old : set empties (w.first + k) old ≡ subdivided c w o q (2 ^ c) ns
  put-old =
      let u = w.first in
      ext_get_or blank (set empties (u + k) old) (subdivided c w o q (2 ^ c) ns) (length-set empties (u + k) old ∙ (made u (cell_of c w) (2 ^ c) ns).0 ∙ sym (length-filled c w o q (2 ^ c) ns))
      λ x lx. elim (ℕ_discrete x (u + k)) [
        | yes e ↦ rw e (get_or-set_same empties (u + k) old blank at-k ∙ sym (filled_in c w o q (2 ^ c) ns k (child-below c w.centre q) (omega (arith, child-below c w.centre q, h)) ∙ child-same))
        | no n ↦ get_or-set_other empties (u + k) x old blank n ∙ go x n
      ]
    where
      inside : (x : ℕ) → w.first ≤ x → x < w.first + 2 ^ c → (x ≡ w.first + k → ⊥) → node_at empties x ≡ node_at (subdivided c w o q (2 ^ c) ns) x
      inside x a b n =
          let i = x - w.first in
          let e : w.first + i ≡ x = omega (arith, a) in
          let l : i < 2 ^ c = omega (arith, a, b) in
          let r : w.first + i < length ns = omega (arith, e, b, h) in
          subst (λ (z : ℕ). node_at empties z ≡ node_at (subdivided c w o q (2 ^ c) ns) z) e
          ((made w.first (cell_of c w) (2 ^ c) ns).2 i l r ∙ sym (filled_in c w o q (2 ^ c) ns i l r ∙ child-other i (λ z. n (omega (arith, e, z)))))

      go : (x : ℕ) → (x ≡ w.first + k → ⊥) → node_at empties x ≡ node_at (subdivided c w o q (2 ^ c) ns) x
      go x n =
          elim (dec_lt x w.first) [
            | yes a ↦ (made w.first (cell_of c w) (2 ^ c) ns).1 x (λ s t. omega (arith, s, a)) ∙ sym (filled-out c w o q (2 ^ c) ns x (λ s t. omega (arith, s, a)))
            | no a ↦ elim (dec_lt x (w.first + 2 ^ c)) [
              | yes b ↦ inside x (omega (arith, a)) b n
              | no b ↦ (made w.first (cell_of c w) (2 ^ c) ns).1 x (λ s t. omega (arith, t, b)) ∙ sym (filled-out c w o q (2 ^ c) ns x (λ s t. omega (arith, t, b)))
            ]
          ]

  -- the old point's own insertion, one level down
  pub settles : (g d u : ℕ) → inserted (suc g) y c q o d (w.first + k) (tree u empties) ≡ tree u (subdivided c w o q (2 ^ c) ns)
  unfolding turn_of
  settles g d u =
      inserted-last g y c q o d (w.first + k) (tree u empties) (out old 0 0 o true) (ap (λ (v : Node). turn_of c q o d u v) here) refl
      ∙ level-plain y c (w.first + k) old 0 o true (tree u empties) ∙ ap (tree u) put-old
