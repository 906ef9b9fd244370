-- `run_entry::offset_fine` meets its contract: each need follows from its own premises.
use borrow.Author.Tests.{eq-eqb, ne_eqb, le-leb, lt-leb}
use Rattle.run_entry.specs.Entry.{offset_fine}
use Rattle.run_entry.proofs.offset_fine.Goals as goal

pub returns-then-i-eq0 : goal.returns-then-i-eq0
unfolding offset_fine
returns-then-i-eq0 c = rw (eq-eqb _ _ c.if-i-eq0.true)

pub returns-then-offsets-i : goal.returns-then-offsets-i
unfolding offset_fine
returns-then-offsets-i c = rw (ne_eqb _ _ c.if-i-eq0.false, le-leb _ _ c.if-offsets-i.true)

pub returns-else-offsets-i : goal.returns-else-offsets-i
unfolding offset_fine
returns-else-offsets-i c = rw (ne_eqb _ _ c.if-i-eq0.false, lt-leb _ _ c.if-offsets-i.false)
