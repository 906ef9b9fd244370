-- `affinity_links::link_of` meets its contract, by its test. Assumes nothing.
use borrow.Author.Tests.{lt-ltb, le-ltb}
use Rattle.affinity_links.specs.Links.{sought_yes, sought_weight, sought_row, sought_cursor}
use native.Mathlib.Omega.{arith}
use Rattle.affinity_links.proofs.link_of.Goals as goal

pub link_below-requires : goal.link_below-requires
link_below-requires c =
    (c.requires.small.0, c.requires.small.1, (c.requires.below c.if-j-i.true).0, (c.requires.below c.if-j-i.true).1)

pub returns-then-j-i : goal.returns-then-j-i
unfolding sought_yes sought_weight sought_row sought_cursor
returns-then-j-i c =
    record {
      weight_value = rw (lt-ltb _ _ c.if-j-i.true) c.link_below.ensures.weight_value;
      row_value = rw (lt-ltb _ _ c.if-j-i.true) c.link_below.ensures.row_value;
      cursor_value = rw (lt-ltb _ _ c.if-j-i.true) c.link_below.ensures.cursor_value;
    }

pub link_above-requires : goal.link_above-requires
link_above-requires c =
    (c.requires.small.0, (c.requires.above (omega arith)).0, (c.requires.above (omega arith)).1)

pub returns : goal.returns
unfolding sought_yes sought_weight sought_row sought_cursor
returns c =
    record {
      weight_value = rw (le-ltb _ _ c.if-j-i.false) c.link_above.ensures.weight_value;
      row_value = rw (le-ltb _ _ c.if-j-i.false) c.link_above.ensures.row_value;
      cursor_value = rw (le-ltb _ _ c.if-j-i.false) c.link_above.ensures.cursor_value;
    }
