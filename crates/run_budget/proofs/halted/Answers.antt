-- `run_budget::halted` meets its contract: from what its calls promise.
use Rattle.run_budget.specs.Budget.{halted_of}
use mathlib.Core.Path.{sym, ◌∙◌}
use Rattle.run_budget.proofs.halted.Goals as goal

pub returns-then-is_ended : goal.returns-then-is_ended
unfolding halted_of
returns-then-is_ended c =
    rw c.stands.ensures (rw (sym c.is_ended.ensures ∙ c.if-is_ended.true))

pub returns : goal.returns
unfolding halted_of
returns c =
    rw c.turned_down.ensures (rw (sym c.is_ended.ensures ∙ c.if-is_ended.false))
