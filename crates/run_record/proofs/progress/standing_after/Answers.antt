-- `run_record::progress::standing_after` meets its contract: from what its calls promise.
use mathlib.Core.Path.{sym, ◌∙◌}
use borrow.Author.Tests.{eq-eqb, ne_eqb}
use Rattle.run_record.proofs.progress.standing_after.Goals as goal

pub returns-then-stops_now : goal.returns-then-stops_now
returns-then-stops_now c = rw (sym c.stops_now.ensures ∙ c.if-stops_now.true)

pub returns-then-r : goal.returns-then-r
returns-then-r c = rw (sym c.stops_now.ensures ∙ c.if-stops_now.false, eq-eqb _ _ c.if-r.true)

pub returns : goal.returns
returns c = rw (sym c.stops_now.ensures ∙ c.if-stops_now.false, ne_eqb _ _ c.if-r.false)
