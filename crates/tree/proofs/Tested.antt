-- The contents test: what its loop has found when it ends, and that it says "fine" exactly of a well-formed tree. Assumes nothing.
use mathlib.Core.Path.{◌≡◌, sym, ap, subst, ◌∙◌}
use mathlib.Core.List.{List}
use mathlib.Core.Bool.{true, false, true≢false}
use Prim.Native.Nat.{ℕ, ◌<◌, ◌≤◌}
use native.Mathlib.Omega.{arith}
use native.Mathlib.Decide.{dec_lt, ℕ_discrete}
use lib.ListN.{length}
use borrow.Author.Tests.{eq-eqb, ne_eqb, lt-ltb, le-ltb, not-false}
use Rattle.laws.specs.Loops.{first}
use Rattle.laws.proofs.First.{Seeks, seek_stop, seek-done, first-none, first-all}
use Rattle.laws.proofs.Every.{every-at, every-all}
use Rattle.tree_node.specs.declared.Cell.{Cell}
use Rattle.tree_node.specs.Arena.{nodes_of, node_at, nameable}
use Rattle.tree_node.proofs.Told.{nodes-length, nameable-most}
use Rattle.std.specs.declared.result.Result.TheVariants.{Ok, Err}
use Rattle.tree_contents.specs.declared.Unsound.TheVariants.{Used}
use Rattle.tree_contents.specs.Contents.{node_ok, node_fault}
use Rattle.tree.specs.Insert.{Tree, tree_ok}
use Rattle.tree.specs.Contents.{faulty, contents_of, contents_fine}

module _ (n c : ℕ) (t : Tree) where
  pub none-used : t.used ≡ 0 → Err Used ≡ contents_of n c t
  unfolding contents_of
  none-used e = rw (eq-eqb t.used 0 e)

  pub too_many : (t.used ≡ 0 → ⊥) → nameable (length t.nodes) < t.used → Err Used ≡ contents_of n c t
  unfolding contents_of
  too_many z l = rw (ne_eqb t.used 0 z, lt-ltb (nameable (length t.nodes)) t.used l)

  module _ (z : t.used ≡ 0 → ⊥) (l : t.used ≤ nameable (length t.nodes)) where
    lowest : first (faulty n c t) t.used < t.used → Err (node_fault n (first (faulty n c t) t.used) (node_at t.nodes (first (faulty n c t) t.used))) ≡ contents_of n c t
    unfolding contents_of
    lowest h = rw (ne_eqb t.used 0 z, le-ltb (nameable (length t.nodes)) t.used l, lt-ltb (first (faulty n c t) t.used) t.used h)

    pub a-fault : (i : ℕ) → Seeks (faulty n c t) t.used i → i < t.used → node_ok n n c t.used i (node_at t.nodes i) ≡ false → Err (node_fault n i (node_at t.nodes i)) ≡ contents_of n c t
    a-fault i s h e =
        let q : i ≡ first (faulty n c t) t.used = seek_stop s h (rw e) in
        ap (λ (k : ℕ). Err (node_fault n k (node_at t.nodes k))) q ∙ lowest (subst (λ (k : ℕ). k < t.used) q h)

    all-passed : t.used ≤ first (faulty n c t) t.used → Ok tt ≡ contents_of n c t
    unfolding contents_of
    all-passed h = rw (ne_eqb t.used 0 z, le-ltb (nameable (length t.nodes)) t.used l, le-ltb (first (faulty n c t) t.used) t.used h)

    pub no-fault : (i : ℕ) → Seeks (faulty n c t) t.used i → t.used ≤ i → Ok tt ≡ contents_of n c t
    no-fault i s h = all-passed (subst (λ (k : ℕ). t.used ≤ k) (seek-done s h) h)

  -- ---- "fine" is "well formed", both ways

  -- what the contents rule asks
  pub record Sound : Type 0 where
    pub some : 0 < t.used
    pub within : t.used ≤ nameable (length t.nodes)
    pub nodes : tree_ok n n c t ≡ true

  pub sound-fine : Sound → contents_fine (contents_of n c t) ≡ true
  sound-fine s =
      let none : first (faulty n c t) t.used ≡ t.used = first-none (faulty n c t) t.used (λ i h. rw (every-at (λ i. node_ok n n c t.used i (node_at t.nodes i)) t.used s.nodes i h)) in
      rw (sym (all-passed (λ q. positive q s.some) s.within (omega arith)))
    where
      positive : t.used ≡ 0 → 0 < t.used → ⊥
      positive q h = omega arith

  inside : contents_fine (contents_of n c t) ≡ true → (t.used ≡ 0 → ⊥) → t.used ≤ nameable (length t.nodes) → Sound
  inside e z l =
      elim (dec_lt (first (faulty n c t) t.used) t.used) [
        | yes h ↦ absurd (true≢false (sym e ∙ ap contents_fine (sym (lowest z l h))))
        | no h ↦ record {
          some = omega arith;
          within = l;
          nodes = every-all (λ i. node_ok n n c t.used i (node_at t.nodes i)) t.used (λ i k. not-false _ (first-all (faulty n c t) t.used (omega arith) i k));
        }
      ]

  pub fine-sound : contents_fine (contents_of n c t) ≡ true → Sound
  fine-sound e =
      elim (ℕ_discrete t.used 0) [
        | yes q ↦ absurd (true≢false (sym e ∙ ap contents_fine (sym (none-used q))))
        | no z ↦ elim (dec_lt (nameable (length t.nodes)) t.used) [
          | yes l ↦ absurd (true≢false (sym e ∙ ap contents_fine (sym (too_many z l))))
          | no m ↦ inside e z (omega arith)
        ]
      ]

-- ---- what the test asks of the number in use, by the number of cells that a word can name

module _ (cs : List Cell) (used m : ℕ) (e : m ≡ nameable (length cs)) where
  pub past-named : m < used → nameable (length (nodes_of cs)) < used
  past-named h = rw nodes-length (omega (arith, e, h))

  pub among-named : used ≤ m → used ≤ nameable (length (nodes_of cs))
  among-named h = rw nodes-length (omega (arith, e, h))

  pub among-cells : used ≤ m → used ≤ length cs
  among-cells h = omega (arith, e, h, nameable-most (length cs))
