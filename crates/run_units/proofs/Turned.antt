-- What the tree's functions leave is the unit that the definition names. Assumes nothing.
use mathlib.Core.Path.{◌≡◌, sym}
use mathlib.Core.List.{List}
use mathlib.Core.Bool.{Bool, true, false}
use Prim.Native.Nat.{ℕ, ◌-◌}
use lib.ListN.{set}
use lib.Ieee.{Float}
use borrow.Author.Tests.{eq-eqb, ne_eqb}
use Rattle.run_record.specs.declared.Run.{Run}
use Rattle.run_record.specs.Record.{advanced_of}
use Rattle.tree_node.specs.declared.Node.{Node}
use Rattle.tree.specs.Insert.{tree, insertion, insert_of}
use Rattle.tree_bounds.specs.Bounds.{box_of}
use Rattle.std.specs.Prelude.{Ok, Err}
use Rattle.run_finish.specs.declared.Halt.TheVariants.{Full}
use Rattle.run_units.specs.Units.{tree_turn, insert_turn, tree_unit}

module _ (r : Run) (y : List Float) (ns ns' : List Node) where
  pub box-is : {t : Run} → r.phase ≡ 0 → t ≡ advanced_of r 1 → ns' ≡ set ns 0 (box_of y r.settings.n r.settings.c) → tree_turn t ns' (Ok tt) ≡ tree_unit r y ns
  unfolding tree_unit
  box-is e a q = rw (eq-eqb r.phase 0 e, a, q)

  module _ (full : Bool) (u : ℕ) (z : r.phase ≡ 0 → ⊥) (q : insertion full (tree u ns') ≡ insert_of y r.settings.c (r.phase - 1) (tree r.used ns)) where
    pub insert-full : full ≡ true → tree_turn r ns' (Err Full) ≡ tree_unit r y ns
    unfolding tree_unit insert_turn
    insert-full e = rw (ne_eqb r.phase 0 z, sym q, e)

    pub insert-done : {t : Run} → full ≡ false → t ≡ advanced_of r u → tree_turn t ns' (Ok tt) ≡ tree_unit r y ns
    unfolding tree_unit insert_turn
    insert-done e a = rw (ne_eqb r.phase 0 z, sym q, e, a)
