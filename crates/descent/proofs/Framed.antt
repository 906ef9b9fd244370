-- No unit changes the number of nodes or the settings; so no call does. Assumes nothing.
use mathlib.Core.Path.{◌≡◌, refl, ◌∙◌}
use mathlib.Core.Bool.{false}
use Prim.Native.Nat.{ℕ, ◌-◌}
use native.Mathlib.Omega.{arith}
use lib.ListN.{length, length-set}
use Rattle.run_calls.specs.Machine.{Lawful}
use Rattle.run_calls.proofs.Demand.{good-after, call-state}
use Rattle.run_record.specs.Record.{is_ended}
use Rattle.tree_node.proofs.Told.{nameable-most}
use Rattle.tree.specs.Insert.{tree}
use Rattle.tree_bounds.specs.Bounds.{box_of}
use Rattle.tree.proofs.Whole.{taken-ends, taken-fits}
use Rattle.run_entry.specs.State.{State}
use Rattle.run_units.specs.Units.{unit, TreeTurn, Turned}
use Rattle.run_units.proofs.Rooms.{group-zero}
use Rattle.run_units.proofs.One.{by-unit}
use Rattle.run_budget.specs.Budget.{machine}
use Rattle.run_budget.proofs.Turns.{by-tree}
use Rattle.run_budget.proofs.Keeps.{unit-settings}
use Rattle.run_budget.proofs.Spends.{due}
use Rattle.descent.specs.Descent.{work}
use Rattle.descent.specs.Honest.{Honest}
use Rattle.descent.proofs.Lawful.{lawful}

module _ (s : State) (g : Honest s) (live : is_ended s.run.standing ≡ false) where
  unit-nodes : length (unit s).now.memory.nodes ≡ length s.memory.nodes
  unit-nodes =
      let r = s.run in
      let y = s.memory.positions in
      let ns = s.memory.nodes in
      let n = r.settings.n in
      by-unit s live (λ (t : Turned). length t.now.memory.nodes ≡ length ns)
      (λ z.
      let k = group-zero r z in
      by-tree r y ns (λ (t : TreeTurn). length t.nodes ≡ length ns)
      (λ e. length-set ns 0 (box_of y n r.settings.c))
      (λ e f. refl)
      (λ p f.
      let t = (g.good.contents k.0).tree p in
      (taken-ends y r.settings.c (r.phase - 1) (tree r.used ns) n n (omega (arith, k.1, p)) (omega (arith, g.good.settings.n-some)) t.each-node
      t.used-some (omega (arith, t.used-most, nameable-most (length ns))) (taken-fits y r.settings.c (r.phase - 1) (tree r.used ns) f)).nodes))
      (λ z. refl)
      (λ a b. refl)

-- an arena of so many nodes, and the same settings
abbrev pub Framed : State → State → Type 0
Framed s t = (length t.memory.nodes ≡ length s.memory.nodes) × (t.run.settings ≡ s.run.settings)

-- the descent is lawful with that kept besides
unfoldable framed : State → Lawful machine
unfolding lawful
framed s = record {
  Good = λ t. Honest t × Framed s t;
  rest = lawful.rest;
  passes = λ t g. lawful.passes t g.0;
  keeps = λ t g e. (lawful.keeps t g.0 e, (unit-nodes t g.0 (due t e).0 ∙ g.1.0, unit-settings t (due t e).0 ∙ g.1.1));
  lessens = λ t g e. lawful.lessens t g.0 e;
  small = λ t g. lawful.small t g.0;
}

pub work-frames : (b : ℕ) (s : State) → Honest s → Framed s (work b s).left
unfolding work lawful framed
work-frames b s g = rw (call-state machine lawful b s g) (good-after machine (framed s) b s (g, (refl, refl))).1
