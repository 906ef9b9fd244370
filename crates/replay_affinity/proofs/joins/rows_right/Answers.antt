use Rattle.std.proofs.Common.{ℕ, sym, subst, true≢false, arith, rules}
use Rattle.affinity_lists.specs.Lists.{Rowed}
use Rattle.affinity_lists.proofs.Made.{rows_none}
use Rattle.replay_affinity.proofs.Rowing.{all_done}
use Rattle.replay_affinity.proofs.joins.rows_right.Goals as goal

pub loop-i-init : goal.loop-i-init
loop-i-init c =
    (search rules, rows_none)

pub returns-then-not-row_right : goal.returns-then-not-row_right
returns-then-not-row_right c =
    λ e. absurd (true≢false (sym e))

pub loop-i-preserved : goal.loop-i-preserved
loop-i-preserved c =
    (omega arith, c.row_right.ensures c.if-not-row_right.false c.loop-i.invariant.1)

pub returns : goal.returns
returns c =
    λ _. subst (λ (x : ℕ). Rowed x c.args.n c.args.k c.args.indices.now) (all_done c.loop-i.i c.args.n c.loop-i.invariant.0 c.loop-i-test.false) c.loop-i.invariant.1
