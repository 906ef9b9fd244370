-- What a unit of the tree and a finish can be, and that areas keep their lengths. Assumes nothing.
use mathlib.Core.Path.{◌≡◌, refl, sym, subst, ◌∙◌}
use mathlib.Core.List.{List}
use mathlib.Core.Bool.{Bool, true, false, cond, ◌&&◌, true≢false}
use Prim.Native.Nat.{ℕ, ◌+◌, ◌-◌, ◌*◌}
use native.Mathlib.Decide.{ℕ_discrete}
use lib.Dec.{eqb, ltb}
use lib.ListN.{length, length-set}
use lib.Ieee.{Float, binary64, mul}
use borrow.Author.Tests.{eq-eqb, ne_eqb}
use Rattle.laws.specs.Loops.{loop}
use Rattle.laws.specs.Area.{at, zero64}
use Rattle.laws.proofs.Bools.{by_bool}
use Rattle.laws.proofs.Loops.{loop-keeps}
use Rattle.run_record.specs.declared.Run.{Run}
use Rattle.run_record.specs.Record.{is_tree, advanced_of, closed_of}
use Rattle.tree_node.specs.declared.Node.{Node}
use Rattle.tree_node.specs.Arena.{nameable}
use Rattle.tree_bodies.specs.declared.Acc.{Acc}
use Rattle.tree.specs.Insert.{Tree, tree, needs_of, inserted, Insertion, insertion, insert_of}
use Rattle.gradient.specs.Forces.{stored, place_of, put_step, attraction_of, forces_of}
use Rattle.tree_walk.specs.Repel.{repelled}
use Rattle.tree_node.specs.Node.{point_of}
use Rattle.gradient_pairs.specs.Exact.{num_step, pulls_of}
use Rattle.gradient.specs.Exact.{total_row, slope_step, gradient_row}
use Rattle.gradient.specs.Element.{norm_of}
use Rattle.step_passes.specs.Passes.{Before, means_of, calm_moves, calm_centred, position_step, increment_step, gain_step}
use Rattle.step.specs.Step.{finish_of}
use Rattle.std.specs.Prelude.{Ok, Err}
use Rattle.run_finish.specs.declared.Halt.TheVariants.{Full, Wild}
use Rattle.run_plan.specs.Plan.{exaggeration_of}
use Rattle.run_finish.specs.Finish.{before_of, FinishTurn, finish_turn, finish_unit}
use Rattle.run_units.specs.Units.{TreeTurn, tree_turn, box_turn, insert_turn, tree_unit, force_unit}

-- ---- a unit of the tree: the box, a refusal, or an insertion

full_is : (b : Bool) (t t' : Tree) → (cond b (insertion true t) (insertion false t')).full ≡ true → cond b (insertion true t) (insertion false t') ≡ insertion true t
full_is true t t' e = refl
full_is false t t' e = absurd (true≢false (sym e))

module _ (r : Run) (y : List Float) (ns : List Node) where
  -- the insertion that is next
  abbrev pub inserting : Insertion
  inserting = insert_of y r.settings.c (r.phase - 1) (tree r.used ns)

  pub tree-box : r.phase ≡ 0 → tree_unit r y ns ≡ box_turn r y ns
  unfolding tree_unit
  tree-box e = rw (eq-eqb r.phase 0 e)

  full-same : inserting.full ≡ true → inserting ≡ insertion true (tree r.used ns)
  unfolding insert_of
  full-same e = full_is (ltb (nameable (length ns)) (r.used + needs_of (length ns) y r.settings.c (point_of y r.settings.c (r.phase - 1)) 0 0 ns))
      (tree r.used ns) (inserted (length ns) y r.settings.c (point_of y r.settings.c (r.phase - 1)) (r.phase - 1) 0 0 (tree r.used ns)) e

  tree-full : (r.phase ≡ 0 → ⊥) → inserting.full ≡ true → tree_unit r y ns ≡ tree_turn r ns (Err Full)
  unfolding tree_unit insert_turn
  tree-full n e = rw (ne_eqb r.phase 0 n, full-same e)

  pub tree-insert : (r.phase ≡ 0 → ⊥) → inserting.full ≡ false → tree_unit r y ns ≡ tree_turn (advanced_of r inserting.tree.used) inserting.tree.nodes (Ok tt)
  unfolding tree_unit insert_turn
  tree-insert n e = rw (ne_eqb r.phase 0 n, e)

  pub by-tree : (P : TreeTurn → Type 0)
      → (r.phase ≡ 0 → P (box_turn r y ns))
      → ((r.phase ≡ 0 → ⊥) → inserting.full ≡ true → P (tree_turn r ns (Err Full)))
      → ((r.phase ≡ 0 → ⊥) → inserting.full ≡ false → P (tree_turn (advanced_of r inserting.tree.used) inserting.tree.nodes (Ok tt)))
      → P (tree_unit r y ns)
  by-tree P a b d =
      elim (ℕ_discrete r.phase 0) [
        | yes e ↦ subst P (sym (tree-box e)) (a e)
        | no n ↦ by_bool (P (tree_unit r y ns)) inserting.full (λ f. subst P (sym (tree-full n f)) (b n f)) (λ f. subst P (sym (tree-insert n f)) (d n f))
      ]

-- ---- the finish: the step, or a refusal that changes nothing

module _ (r : Run) (y v g F : List Float) where
  abbrev b : Before
  b = before_of r y v g F

  abbrev m : ℕ
  m = r.settings.n * r.settings.c

  pub by-finish : (P : FinishTurn → Type 0)
      → P (finish_turn (closed_of r (norm_of b.gradients m)) (loop (position_step (means_of b r.settings.n r.settings.c) b r.settings.c) m 0 y)
      (loop (increment_step b) m 0 v) (loop (gain_step b) m 0 g) (Ok tt))
      → P (finish_turn r y v g (Err Wild))
      → P (finish_unit r y v g F)
  unfolding finish_unit finish_of
  by-finish P moved wild = by_bool (P (finish_unit r y v g F)) (calm_moves b m && calm_centred (means_of b r.settings.n r.settings.c) b r.settings.c m) (λ t. rw t moved) (λ t. rw t wild)

-- ---- lengths

module _ {A : Type 0} where
  -- what keeps the length in each turn keeps it
  pub length_run : (f : ℕ → List A → List A) (n k : ℕ) (l : List A) → ((j : ℕ) (m : List A) → length (f j m) ≡ length m) → length (loop f n k l) ≡ length l
  length_run f n k l h = loop-keeps (λ (j : ℕ) (m : List A). length m ≡ length l) f n k l (λ j m a b. h j m ∙ b) refl

length-put : (x : List Float) (a n : ℕ) (F : List Float) → length (loop (put_step x a) n 0 F) ≡ length F
length-put x a n F = length_run (put_step x a) n 0 F (λ j l. length-set l (a + j) _)

length-stored : (c i : ℕ) (t : List Float) (acc : Acc) (F : List Float) → length (stored c i t acc F) ≡ length F
unfolding stored
length-stored c i t acc F =
    let a = place_of c i in
    length-set (loop (put_step acc.neg (a + c)) c 0 (loop (put_step t a) c 0 F)) (a + 2 * c) acc.sum ∙ (length-put acc.neg (a + c) c (loop (put_step t a) c 0 F) ∙ length-put t a c F)

length-point : (e angle : Float) (c : ℕ) (y W : List Float) (xs off : List ℕ) (used : ℕ) (ns : List Node) (i : ℕ) (F : List Float) → length (forces_of e angle c y W xs off used ns i F) ≡ length F
unfolding forces_of
length-point e angle c y W xs off used ns i F = length-stored c i (attraction_of e c y W xs off i) (repelled used c i (point_of y c i) (mul binary64 angle angle) ns) F

length-total : (y : List Float) (n c i : ℕ) (F : List Float) → length (total_row y n c i F) ≡ length F
unfolding total_row
length-total y n c i F = length-set F (n * c) (loop (num_step y c i) n 0 (cond (eqb i 0) zero64 (at F (n * c))))

length-gradient : (y P : List Float) (e : Float) (n c i : ℕ) (F : List Float) → length (gradient_row y P e n c i F) ≡ length F
unfolding gradient_row
length-gradient y P e n c i F = length_run (slope_step (pulls_of y P e (at F (n * c)) n c i) y (i * c)) c 0 F (λ j l. length-set l (i * c + j) _)

pub length-forces : (r : Run) (y P : List Float) (xs off : List ℕ) (ns : List Node) (F : List Float) → length (force_unit r y P xs off ns F) ≡ length F
unfolding force_unit
length-forces r y P xs off ns F =
    by_bool (length (force_unit r y P xs off ns F) ≡ length F) (is_tree r.settings.method)
    (λ t. rw t (length-point (exaggeration_of r) r.settings.angle r.settings.c y P xs off r.used ns (r.phase - r.settings.n - 1) F))
    (λ t. by_bool (length (force_unit r y P xs off ns F) ≡ length F) (ltb r.phase r.settings.n) (λ q. rw (t, q)
    (length-total y r.settings.n r.settings.c r.phase F)) (λ q. rw (t, q)
    (length-gradient y P (exaggeration_of r) r.settings.n r.settings.c (r.phase - r.settings.n) F)))
