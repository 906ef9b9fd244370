use Rattle.std.proofs.Common.{ℕ, ◌≤◌, sym, ◌∙◌, subst, arith, rules}
use Rattle.tree_node.specs.Node.{Axes}
use Rattle.replay_arena.specs.Fronts.{Walkable}
use Rattle.replay_arena.proofs.Told.{fine-walks}
use Rattle.replay_tree.proofs.forces.same_forces.Goals as goal

pub loop-k-init : goal.loop-k-init
loop-k-init c =
    (search rules, fine-walks 512 c.args.used c.args.n c.args.c c.args.cells (search rules) (sym c.fine_in.ensures ∙ c.if-not-fine_in.false))

pub force_in-r-requires : goal.force_in-r-requires
force_in-r-requires c =
    subst (λ (m : ℕ). (Axes m) × (512 ≤ 512) × Walkable 512 c.args.used m c.args.cells) (sym c.eye_of-eye.ensures)
    (c.requires.0, omega arith, c.loop-k.invariant.1)
