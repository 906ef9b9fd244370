-- `tree::insertion::needs` meets its contract: the laws of its loop.
use Rattle.laws.proofs.Numbers.{row_in}
use mathlib.Core.Path.{refl}
use native.Mathlib.Omega.{arith}
use borrow.Author.Tests.{not-true, not-false}
use lib.ListN.{length}
use Rattle.tree.proofs.Descends.{probes-start, probes-asks, probes-next, probing-asks, probes-in, probes-end}
use Rattle.tree.proofs.insertion.needs.Goals as goal

pub probing-p-requires : goal.probing-p-requires
probing-p-requires c = (
  c.requires.0,
  row_in c.args.j c.args.n c.args.c (length c.args.positions.now) c.requires.4 c.requires.3,
  probing-asks c.args.positions.now c.args.used c.args.j c.args.c c.args.cells.now _ refl c.requires.0 (omega arith) c.requires.2,
)

pub loop-p-init : goal.loop-p-init
loop-p-init c = probes-start c.args.positions.now c.args.used c.args.j c.args.c c.args.cells.now _ refl c.requires.1 c.probing-p.result c.probing-p.ensures

pub load-v-requires : goal.load-v-requires
load-v-requires c =
    probes-in c.args.positions.now c.args.n c.args.used c.args.j c.args.c c.args.cells.now c.requires.2 c.requires.3 c.requires.5
    c.loop-p.p c.loop-p.invariant (not-true _ c.loop-p-test.true)

pub probed-p-requires : goal.probed-p-requires
probed-p-requires c =
    probes-asks c.args.positions.now c.args.n c.args.used c.args.j c.args.c c.args.cells.now c.requires.2 c.requires.3 c.requires.5
    c.loop-p.p c.loop-p.invariant (not-true _ c.loop-p-test.true) c.load-v.result c.load-v.ensures
    c.requires.0 (length c.args.cells.now) refl (omega arith)

pub loop-p-smaller : goal.loop-p-smaller
loop-p-smaller c =
    (probes-next c.args.positions.now c.args.n c.args.used c.args.j c.args.c c.args.cells.now c.requires.2 c.requires.3 c.requires.5
    c.loop-p.p c.loop-p.invariant (not-true _ c.loop-p-test.true) c.load-v.result c.load-v.ensures
    c.probed-p.result c.probed-p.ensures).1

pub loop-p-preserved : goal.loop-p-preserved
loop-p-preserved c =
    (probes-next c.args.positions.now c.args.n c.args.used c.args.j c.args.c c.args.cells.now c.requires.2 c.requires.3 c.requires.5
    c.loop-p.p c.loop-p.invariant (not-true _ c.loop-p-test.true) c.load-v.result c.load-v.ensures
    c.probed-p.result c.probed-p.ensures).0

pub returns : goal.returns
returns c =
    probes-end c.args.positions.now c.args.n c.args.used c.args.j c.args.c c.args.cells.now c.requires.2 c.requires.3 c.requires.5
    c.loop-p.p c.loop-p.invariant (not-false _ c.loop-p-test.false)
