use Rattle.elementary.proofs.Powers.{series-step, series-end}
use Rattle.std.proofs.Common.{sym, ◌∙◌, rules, arith}
use Rattle.elementary.proofs.exponential.taylor.Goals as goal

pub loop-m-preserved : goal.loop-m-preserved
loop-m-preserved c =
    (search rules, series-step _ _ _ c.loop-m-test.true ∙ c.loop-m.invariant.1)

pub returns : goal.returns
returns c =
    sym (series-end _ _ _ (omega arith)) ∙ c.loop-m.invariant.1
