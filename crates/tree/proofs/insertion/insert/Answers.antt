-- `tree::insertion::insert` meets its contract: the laws of its loop.
use mathlib.Core.Path.{refl}
use native.Mathlib.Omega.{arith}
use borrow.Author.Tests.{not-true, not-false}
use lib.ListN.{length}
use Rattle.laws.proofs.Numbers.{row_in}
use Rattle.tree.proofs.Enters.{needs-asks, enters-start, enters-asks, enters-next, enters-deep, enters-nearer, enters-end}
use Rattle.tree.proofs.insertion.insert.Goals as goal

pub entering-w-requires : goal.entering-w-requires
entering-w-requires c = (
  c.requires.0,
  row_in c.args.j c.args.n c.args.c (length c.args.positions.now) c.requires.4 c.requires.3,
  needs-asks c.args.positions.now c.args.n c.args.used c.args.j c.args.c c.args.cells.now c.needs-more.result c.needs-more.ensures
      c.requires.0 (length c.args.cells.now) refl (omega arith) c.requires.2,
)

pub loop-w-init : goal.loop-w-init
loop-w-init c =
    enters-start c.args.positions.now c.args.n c.args.used c.args.j c.args.c c.args.cells.now c.needs-more.result c.needs-more.ensures
    c.requires.6 c.requires.1 c.requires.2 _ refl c.entering-w.result c.entering-w.ensures

pub level-s-requires : goal.level-s-requires
level-s-requires c =
    enters-asks c.args.positions.now c.args.n c.args.used c.args.j c.args.c c.args.cells.now c.loop-w.w c.loop-w.cells c.loop-w.invariant
    (not-true _ c.loop-w-test.true) c.requires.4 c.requires.0 c.requires.3 c.requires.5

pub lowered-w-requires : goal.lowered-w-requires
lowered-w-requires c =
    enters-deep c.args.positions.now c.args.n c.args.used c.args.j c.args.c c.args.cells.now c.loop-w.w c.loop-w.cells c.loop-w.invariant
    (not-true _ c.loop-w-test.true) c.requires.4 (length c.args.cells.now) refl (omega arith)

pub loop-w-smaller : goal.loop-w-smaller
loop-w-smaller c =
    enters-nearer c.args.positions.now c.args.n c.args.used c.args.j c.args.c c.args.cells.now c.loop-w.w c.loop-w.cells c.loop-w.invariant
    (not-true _ c.loop-w-test.true) c.requires.4 c.level-s.result c.level-s.new.cells c.level-s.ensures
    c.lowered-w.result c.lowered-w.ensures

pub loop-w-preserved : goal.loop-w-preserved
loop-w-preserved c =
    enters-next c.args.positions.now c.args.n c.args.used c.args.j c.args.c c.args.cells.now c.loop-w.w c.loop-w.cells c.loop-w.invariant
    (not-true _ c.loop-w-test.true) c.requires.4 c.level-s.result c.level-s.new.cells c.level-s.ensures
    c.lowered-w.result c.lowered-w.ensures

pub returns : goal.returns
returns c =
    enters-end c.args.positions.now c.args.n c.args.used c.args.j c.args.c c.args.cells.now c.loop-w.w c.loop-w.cells c.loop-w.invariant
    (not-false _ c.loop-w-test.false)
