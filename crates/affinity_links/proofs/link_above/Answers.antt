-- `affinity_links::link_above` meets its contract: the cursor in list j falls. Assumes nothing.
use mathlib.Core.Path.{refl}
use borrow.Author.Tests.{lt-ltb, le-ltb}
use Rattle.affinity_links.proofs.Search.{within_low}
use native.Mathlib.Omega.{arith}
use Rattle.affinity_links.proofs.link_above.Goals as goal

pub offset_bounds-offsets-j : goal.offset_bounds-offsets-j
offset_bounds-offsets-j c =
    omega (arith, c.requires.1)

pub bounds-offsets-j : goal.bounds-offsets-j
bounds-offsets-j c =
    omega (arith, c.requires.1)

pub overflow_cast-o : goal.overflow_cast-o
overflow_cast-o c =
    omega (arith, c.requires.2.0.inside)

pub overflow_cast-i : goal.overflow_cast-i
overflow_cast-i c =
    omega (arith, c.requires.0)

pub fallen-p-requires : goal.fallen-p-requires
fallen-p-requires c =
    (c.requires.0, c.requires.2.0)

pub bounds-weights-o : goal.bounds-weights-o
bounds-weights-o c =
    omega (arith, c.requires.2.1, within_low c.args.i c.requires.2.0 c.fallen-p.ensures c.if-p-w.true)

pub returns-then-p-w : goal.returns-then-p-w
returns-then-p-w c =
    let the-fallen = c.fallen-p in
    record {
      weight_value = rw ((lt-ltb _ _ (rw the-fallen.ensures at c.if-p-w.true)), the-fallen.ensures) refl;
      row_value = refl;
      cursor_value = the-fallen.ensures;
    }

pub returns-else-p-w : goal.returns-else-p-w
returns-else-p-w c =
    record {
      weight_value = rw (le-ltb _ _ (rw c.fallen-p.ensures at c.if-p-w.false)) refl;
      row_value = refl;
      cursor_value = c.fallen-p.ensures;
    }
