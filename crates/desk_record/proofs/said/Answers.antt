-- `desk_record::said` meets its contract: by `run_long`.
use Rattle.record_words.proofs.Laws.{run_long}
use Rattle.desk_record.specs.Records.{said_of}
use mathlib.Core.Path.{sym, ◌∙◌}
use native.Mathlib.Omega.{arith}
use Rattle.desk_record.proofs.said.Goals as goal

pub returns-then-not-run_fine : goal.returns-then-not-run_fine
unfolding said_of
returns-then-not-run_fine c =
    rw (sym c.run_fine.ensures ∙ c.if-not-run_fine.true)

pub bounds-record-i : goal.bounds-record-i
bounds-record-i c =
    omega (arith, c.requires, run_long _ (sym c.run_fine.ensures ∙ c.if-not-run_fine.false))

pub returns : goal.returns
unfolding said_of
returns c =
    rw (sym c.run_fine.ensures ∙ c.if-not-run_fine.false)
