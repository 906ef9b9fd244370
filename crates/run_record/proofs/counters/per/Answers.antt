-- `run_record::counters::per` meets its contract: from what its calls promise.
use Rattle.run_record.specs.Record.{per_of}
use mathlib.Core.Path.{sym, ◌∙◌}
use Rattle.run_record.proofs.counters.per.Goals as goal

pub returns-then-is_tree : goal.returns-then-is_tree
unfolding per_of
returns-then-is_tree c =
    simp (sym c.is_tree.ensures ∙ c.if-is_tree.true)

pub returns : goal.returns
unfolding per_of
returns c =
    simp (sym c.is_tree.ensures ∙ c.if-is_tree.false)
