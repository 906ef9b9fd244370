use Rattle.replay_forces.proofs.Below.{below_next}
use mathlib.Core.Bool.{true≢false}
use mathlib.Core.Path.{sym}
use borrow.Author.Rules.{rules}
use native.Mathlib.Omega.{arith}
use Rattle.replay_forces.proofs.links.below.Goals as goal

pub returns-then-indices-k : goal.returns-then-indices-k
returns-then-indices-k c =
    λ e. absurd (true≢false (sym e))

pub loop-k-preserved : goal.loop-k-preserved
loop-k-preserved c = (
  search rules,
  below_next c.args.n c.loop-k.k c.args.indices.now c.loop-k.invariant.1
      c.if-indices-k.false,
)

pub returns : goal.returns
returns c =
    λ e j l. c.loop-k.invariant.1 j (omega (arith, l, c.loop-k-test.false))
