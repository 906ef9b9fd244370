-- `run_entry::lists_fault` meets its contract: by `listed-most`, `links-is`.
use Rattle.run_entry.specs.Entry.{lists_fault}
use borrow.Author.Tests.{lt-ltb, le-ltb}
use Rattle.run_entry.proofs.Laws.{listed-most, links-is}
use native.Mathlib.Omega.{arith}
use Rattle.run_entry.proofs.lists_fault.Goals as goal

pub returns-then-o-n : goal.returns-then-o-n
unfolding lists_fault
returns-then-o-n c =
    rw (
      lt-ltb _ _ (rw (rw c.sizes_of-z.ensures at c.first_offset-o.ensures) at c.if-o-n.true),
      c.before-then-o-n.ensures,
      (rw c.sizes_of-z.ensures at c.first_offset-o.ensures),
    )

pub first_index-x-requires : goal.first_index-x-requires
first_index-x-requires c =
    omega (
      arith,
      listed-most c.args.r.settings c.args.offsets.now (omega (arith, c.requires.settings-good.n-some))
          (rw (rw c.sizes_of-z.ensures at c.first_offset-o.ensures) at c.if-o-n.false),
      links-is c.args.r.settings,
      c.requires.x-long,
    )

pub returns-then-x-count : goal.returns-then-x-count
unfolding lists_fault
returns-then-x-count c =
    rw (
      le-ltb _ _ (rw (rw c.sizes_of-z.ensures at c.first_offset-o.ensures) at c.if-o-n.false),
      lt-ltb _ _
          (rw c.first_index-x.ensures at c.if-x-count.true),
      c.first_index-x.ensures,
    )

pub returns : goal.returns
unfolding lists_fault
returns c =
    rw (
      le-ltb _ _ (rw (rw c.sizes_of-z.ensures at c.first_offset-o.ensures) at c.if-o-n.false),
      le-ltb _ _
          (rw c.first_index-x.ensures at c.if-x-count.false),
    )
