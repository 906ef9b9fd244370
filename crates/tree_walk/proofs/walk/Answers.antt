-- `tree_walk::walk` meets its contract: the laws of its loop, with 32 levels.
use mathlib.Core.Path.{refl}
use Rattle.tree_walk.proofs.Pending.{going_done}
use native.Mathlib.Omega.{arith}
use Rattle.tree_walk.proofs.Going.{starts, asks, onward, resumes, again, inside}
use Rattle.tree_walk.proofs.walk.Goals as goal

pub loop-s-init : goal.loop-s-init
loop-s-init c = starts 32 c.args.used c.args.eye c.args.cells.now c.args.from c.args.to c.args.acc c.requires _ refl c.standing-s.result c.standing-s.ensures

pub bounds-cells-s : goal.bounds-cells-s
bounds-cells-s c =
    omega (
      arith,
      inside 32 c.args.used c.args.eye c.args.cells.now c.args.from c.args.to c.args.acc c.requires c.loop-s.stack c.loop-s.s c.loop-s.invariant
          c.loop-s-test.true,
    )

pub short_turn-t-requires : goal.short_turn-t-requires
short_turn-t-requires c =
    asks 32 c.args.used c.args.eye c.args.cells.now c.args.from c.args.to c.args.acc c.requires c.loop-s.stack c.loop-s.s c.loop-s.invariant c.loop-s-test.true
    _

pub deeper-a-requires : goal.deeper-a-requires
deeper-a-requires c =
    again 32 c.args.used c.args.eye c.args.cells.now c.args.from c.args.to c.args.acc c.requires c.loop-s.stack c.loop-s.s c.loop-s.invariant c.loop-s-test.true
    _ c.short_turn-t.result c.short_turn-t.new.stack c.short_turn-t.ensures c.if-t.true

pub loop-s-smaller-then-t : goal.loop-s-smaller-then-t
loop-s-smaller-then-t c =
    (resumes 32 c.args.used c.args.eye c.args.cells.now c.args.from c.args.to c.args.acc c.requires c.loop-s.stack c.loop-s.s c.loop-s.invariant c.loop-s-test.true
    _ c.short_turn-t.result c.short_turn-t.new.stack c.short_turn-t.ensures c.if-t.true
    c.deeper-a.result c.deeper-a.ensures c.resumed-s.result c.resumed-s.ensures).1

pub loop-s-preserved-then-t : goal.loop-s-preserved-then-t
loop-s-preserved-then-t c =
    (resumes 32 c.args.used c.args.eye c.args.cells.now c.args.from c.args.to c.args.acc c.requires c.loop-s.stack c.loop-s.s c.loop-s.invariant c.loop-s-test.true
    _ c.short_turn-t.result c.short_turn-t.new.stack c.short_turn-t.ensures c.if-t.true
    c.deeper-a.result c.deeper-a.ensures c.resumed-s.result c.resumed-s.ensures).0

pub loop-s-smaller : goal.loop-s-smaller
loop-s-smaller c =
    (onward 32 c.args.used c.args.eye c.args.cells.now c.args.from c.args.to c.args.acc c.requires c.loop-s.stack c.loop-s.s c.loop-s.invariant c.loop-s-test.true
    _ c.short_turn-t.result c.short_turn-t.new.stack c.short_turn-t.ensures c.if-t.false).1

pub loop-s-preserved : goal.loop-s-preserved
loop-s-preserved c =
    (onward 32 c.args.used c.args.eye c.args.cells.now c.args.from c.args.to c.args.acc c.requires c.loop-s.stack c.loop-s.s c.loop-s.invariant c.loop-s-test.true
    _ c.short_turn-t.result c.short_turn-t.new.stack c.short_turn-t.ensures c.if-t.false).0

pub returns : goal.returns
returns c = going_done 32 c.args.used c.args.eye c.args.cells.now c.loop-s.invariant c.loop-s-test.false
