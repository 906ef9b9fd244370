use mathlib.Core.Bool.{true≢false}
use mathlib.Core.Path.{sym}
use Prim.Native.Nat.{ℕ}
use Rattle.gradient.specs.Forces.{Linked}
use Rattle.replay_forces.proofs.Below.{each_next}
use native.Mathlib.Omega.{arith}
use Rattle.replay_forces.proofs.figures.all_linked.Goals as goal

pub loop-i-init : goal.loop-i-init
loop-i-init c =
    (omega arith, λ j h. absurd (omega (arith, h)))

pub linked-requires : goal.linked-requires
linked-requires c =
    omega (arith, c.loop-i-test.true, c.requires)

pub returns-then-not-linked : goal.returns-then-not-linked
returns-then-not-linked c =
    λ e. absurd (true≢false (sym e))

pub loop-i-preserved : goal.loop-i-preserved
loop-i-preserved c = (
  omega (arith, c.loop-i-test.true),
  each_next
      (λ (j : ℕ). Linked c.args.n c.args.lists.weights.now c.args.lists.indices.now c.args.lists.offsets.now j) c.loop-i.i
      c.loop-i.invariant.1 (c.linked.ensures c.if-not-linked.false),
)

pub returns : goal.returns
returns c =
    λ e j l. c.loop-i.invariant.1 j (omega (arith, l, c.loop-i-test.false))
