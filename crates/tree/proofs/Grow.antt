-- What the proofs of insertion cite of one node and of the children made. Assumes nothing.
use mathlib.Core.Path.{◌≡◌, refl, ap, subst, ◌∙◌}
use mathlib.Core.List.{List}
use Prim.Native.Nat.{ℕ, zero, suc, ◌+◌, ◌-◌, ◌<◌, ◌≤◌}
use native.Mathlib.Omega.{arith}
use native.Mathlib.Nat.{zero-add, not-suc-le-zero}
use native.Mathlib.Decide.{ℕ_discrete}
use lib.ListN.{length, set, length-set}
use lib.Seq.{get_or-set_same, get_or-set_other}
use lib.Ieee.{Float}
use borrow.Author.Tests.{eq-eqb, ne_eqb}
use Rattle.laws.specs.Domain.{deepest}
use Rattle.laws.specs.Loops.{loop}
use Rattle.laws.proofs.Loops.{loop-keeps}
use Rattle.laws.proofs.Numbers.{left, none}
use Rattle.tree_node.specs.declared.Node.{Node}
use Rattle.tree_children.specs.Children.{child_index, child_centre, child_half}
use Rattle.tree_turns.specs.Turns.{child_of}
use Rattle.tree_node.specs.Arena.{node_at, blank}
use Rattle.tree.specs.Insert.{subdivided, splits_of}

-- ---- the splits counted: n so far, and those that are left, are the whole

pub splits-le : (g c : ℕ) (z h q p : List Float) → splits_of g c z h q p ≤ g
unfolding splits_of
splits-le zero c z h q p = omega arith
splits-le (suc g) c z h q p =
    elim (ℕ_discrete (child_index c z q) (child_index c z p)) [
      | yes e ↦ rw (eq-eqb _ _ e, splits_of) (omega (arith, splits-le g c (child_centre c z h (child_index c z p)) (child_half c h) q p))
      | no n ↦ rw (ne_eqb _ _ n, splits_of) (omega arith)
    ]

pub splits-same : (g c : ℕ) (z h q p : List Float) → child_index c z q ≡ child_index c z p → splits_of (suc g) c z h q p ≡ suc
    (splits_of g c (child_centre c z h (child_index c z p)) (child_half c h) q p)
unfolding splits_of
splits-same g c z h q p e = rw (eq-eqb _ _ e, splits_of)

pub splits-apart : (g c : ℕ) (z h q p : List Float) → (child_index c z q ≡ child_index c z p → ⊥) → splits_of (suc g) c z h q p ≡ 1
unfolding splits_of
splits-apart g c z h q p n = rw (ne_eqb _ _ n, splits_of)

splits-none : (c : ℕ) (z h q p : List Float) → splits_of 0 c z h q p ≡ 0
unfolding splits_of
splits-none c z h q p = refl

pub record Splits (c : ℕ) (q p : List Float) (depth : ℕ) (y g : List Float) (z h : List Float) (n d : ℕ) : Type 0 where
  pub same : n + splits_of (deepest - d) c z h q p ≡ splits_of (deepest - depth) c y g q p

module _ {c : ℕ} {q p : List Float} {depth : ℕ} {y g z h : List Float} {n d : ℕ} where
  pub splits-few : Splits c q p depth y g z h n d → n ≤ deepest
  splits-few s = omega (arith, s.same, splits-le (deepest - depth) c y g q p)

  pub splits-go : Splits c q p depth y g z h n d → d < deepest → child_index c z q ≡ child_index c z p → Splits c q p depth y g (child_centre c z h (child_index c z p))
      (child_half c h) (n + 1) (d + 1)
  splits-go s l e = record { same = omega (arith, s.same, ap (λ (k : ℕ). splits_of k c z h q p) (left deepest d l) ∙ splits-same (deepest - (d + 1)) c z h q p e) }

  pub splits_last : Splits c q p depth y g z h n d → d < deepest → (child_index c z q ≡ child_index c z p → ⊥) → n + 1 ≡ splits_of (deepest - depth) c y g q p
  splits_last s l e = omega (arith, s.same, ap (λ (k : ℕ). splits_of k c z h q p) (left deepest d l) ∙ splits-apart (deepest - (d + 1)) c z h q p e)

  pub splits-end : Splits c q p depth y g z h n d → deepest ≤ d → n ≡ splits_of (deepest - depth) c y g q p
  splits-end s l = omega (arith, s.same, ap (λ (k : ℕ). splits_of k c z h q p) (none deepest d l) ∙ splits-none c z h q p)

-- ---- a run of stores, from place u on

module _ (u : ℕ) (f : ℕ → Node) where
  abbrev pub make_step : ℕ → List Node → List Node
  make_step b ms = set ms (u + b) (f b)

  abbrev Made : List Node → ℕ → List Node → Type 0
  Made ns b ms = (length ms ≡ length ns) × ((k : ℕ) → (u ≤ k → k < u + b → ⊥) → node_at ms k ≡ node_at ns k) × ((k : ℕ) → k < b → u + k < length ns → node_at ms (u + k) ≡ f k)

  made-next : (ns : List Node) (b : ℕ) (ms : List Node) → Made ns b ms → Made ns (b + 1) (make_step b ms)
  made-next ns b ms (e, out, in') = (
    length-set ms (u + b) (f b) ∙ e,
    (λ k n. get_or-set_other ms (u + b) k (f b) blank (λ x. n (omega (arith, x)) (omega (arith, x))) ∙ out k (λ x y. n x (omega arith))),
    λ k l r. elim (ℕ_discrete k b) [
      | yes x ↦ rw x (get_or-set_same ms (u + b) (f b) blank (omega (arith, e, r, x)))
      | no x ↦ get_or-set_other ms (u + b) (u + k) (f b) blank (λ w. x (omega (arith, w))) ∙ in' k (omega (arith, l, x)) r
    ],
  )

  pub made : (n : ℕ) (ns : List Node) → Made ns n (loop make_step n 0 ns)
  unfolding loop
  made n ns = subst (λ (k : ℕ). Made ns k (loop make_step n 0 ns)) (zero-add n)
      (loop-keeps (Made ns) make_step n 0 ns (λ j y l h. made-next ns j y h) (refl, (λ k x. refl), (λ k l r. absurd (not-suc-le-zero l))))

-- ---- the children made

module _ (c : ℕ) (v : Node) (o : ℕ) (q : List Float) where
  pub length-filled : (n : ℕ) (ns : List Node) → length (subdivided c v o q n ns) ≡ length ns
  unfolding subdivided
  length-filled n ns = (made v.first (child_of c v o q) n ns).0

  pub filled-out : (n : ℕ) (ns : List Node) (k : ℕ) → (v.first ≤ k → k < v.first + n → ⊥) → node_at (subdivided c v o q n ns) k ≡ node_at ns k
  unfolding subdivided
  filled-out n ns = (made v.first (child_of c v o q) n ns).1

  pub filled_in : (n : ℕ) (ns : List Node) (k : ℕ) → k < n → v.first + k < length ns → node_at (subdivided c v o q n ns) (v.first + k) ≡ child_of c v o q k
  unfolding subdivided
  filled_in n ns = (made v.first (child_of c v o q) n ns).2

  pub filled_none : (ns : List Node) → subdivided c v o q 0 ns ≡ ns
  unfolding subdivided loop
  filled_none ns = refl
