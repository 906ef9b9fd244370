-- `run_entry::tree_fits` meets its contract: each need follows from its own premises.
use borrow.Author.Tests.{le-leb, lt-leb}
use Rattle.run_entry.specs.Entry.{tree_fits}
use Rattle.run_entry.proofs.tree_fits.Goals as goal
use Rattle.run_entry.proofs.tree_fits.Goals.{then-a-links-via-then-a-links, then-a-links-via-else-a-links+then-x-links, then-a-links-via-else-a-links+else-x-links+then-o-n}

pub returns-then-a-links : goal.returns-then-a-links
unfolding tree_fits
returns-then-a-links c = elim c.then-a-links.branch [
  | then-a-links-via-then-a-links w ↦ rw (lt-leb _ _ w.if-a-links.true)
  | then-a-links-via-else-a-links+then-x-links w ↦ rw (le-leb _ _ w.if-a-links.false, lt-leb _ _ w.if-x-links.true)
  | then-a-links-via-else-a-links+else-x-links+then-o-n w ↦ rw (le-leb _ _ w.if-a-links.false, le-leb _ _ w.if-x-links.false, lt-leb _ _ w.if-o-n.true)
]

pub returns : goal.returns
unfolding tree_fits
returns c = rw (le-leb _ _ c.if-a-links.false, le-leb _ _ c.if-x-links.false, le-leb _ _ c.if-o-n.false)
