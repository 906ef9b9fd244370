-- `tree_walk::deeper` meets its contract: the laws of its loop, with 256 levels.
use mathlib.Core.Path.{refl, subst}
use Prim.Native.Nat.{ℕ, ◌-◌, ◌<◌}
use Rattle.tree_walk.proofs.Pending.{going_done}
use native.Mathlib.Omega.{arith}
use Rattle.tree_walk.proofs.Going.{starts, asks, onward, resumes, again, smaller, inside}
use Rattle.tree_walk.proofs.+deeper.Goals as goal

pub loop-s-init : goal.loop-s-init
loop-s-init t c = starts 256 c.args.used c.args.eye c.args.cells.now c.args.from c.args.to c.args.acc c.requires _ refl c.standing-s.result c.standing-s.ensures

pub bounds-cells-s : goal.bounds-cells-s
bounds-cells-s t c =
    omega (
      arith,
      inside 256 c.args.used c.args.eye c.args.cells.now c.args.from c.args.to c.args.acc c.requires c.loop-s.stack c.loop-s.s c.loop-s.invariant
          c.loop-s-test.true,
    )

pub turn-t-requires : goal.turn-t-requires
turn-t-requires t c =
    let a = asks 256 c.args.used c.args.eye c.args.cells.now c.args.from c.args.to c.args.acc c.requires c.loop-s.stack c.loop-s.s c.loop-s.invariant c.loop-s-test.true
    _ in
    (a.0, refl, a.1, a.2, a.3, omega arith)

pub deeper-a-requires : goal.deeper-a-requires
deeper-a-requires t c = (
  subst (λ (m : ℕ). c.args.used - c.turn-t.result.deep < m) c.decreases
      (smaller 256 c.args.used c.args.eye c.args.cells.now c.args.from c.args.to c.args.acc c.requires c.loop-s.stack c.loop-s.s c.loop-s.invariant c.loop-s-test.true
      _ c.turn-t.result c.turn-t.new.stack c.turn-t.ensures c.if-t.true),
  again 256 c.args.used c.args.eye c.args.cells.now c.args.from c.args.to c.args.acc c.requires c.loop-s.stack c.loop-s.s c.loop-s.invariant c.loop-s-test.true
      _ c.turn-t.result c.turn-t.new.stack c.turn-t.ensures c.if-t.true,
)

pub loop-s-smaller-then-t : goal.loop-s-smaller-then-t
loop-s-smaller-then-t t c =
    (resumes 256 c.args.used c.args.eye c.args.cells.now c.args.from c.args.to c.args.acc c.requires c.loop-s.stack c.loop-s.s c.loop-s.invariant c.loop-s-test.true
    _ c.turn-t.result c.turn-t.new.stack c.turn-t.ensures c.if-t.true
    c.deeper-a.result c.deeper-a.ensures c.resumed-s.result c.resumed-s.ensures).1

pub loop-s-preserved-then-t : goal.loop-s-preserved-then-t
loop-s-preserved-then-t t c =
    (resumes 256 c.args.used c.args.eye c.args.cells.now c.args.from c.args.to c.args.acc c.requires c.loop-s.stack c.loop-s.s c.loop-s.invariant c.loop-s-test.true
    _ c.turn-t.result c.turn-t.new.stack c.turn-t.ensures c.if-t.true
    c.deeper-a.result c.deeper-a.ensures c.resumed-s.result c.resumed-s.ensures).0

pub loop-s-smaller : goal.loop-s-smaller
loop-s-smaller t c =
    (onward 256 c.args.used c.args.eye c.args.cells.now c.args.from c.args.to c.args.acc c.requires c.loop-s.stack c.loop-s.s c.loop-s.invariant c.loop-s-test.true
    _ c.turn-t.result c.turn-t.new.stack c.turn-t.ensures c.if-t.false).1

pub loop-s-preserved : goal.loop-s-preserved
loop-s-preserved t c =
    (onward 256 c.args.used c.args.eye c.args.cells.now c.args.from c.args.to c.args.acc c.requires c.loop-s.stack c.loop-s.s c.loop-s.invariant c.loop-s-test.true
    _ c.turn-t.result c.turn-t.new.stack c.turn-t.ensures c.if-t.false).0

pub returns : goal.returns
returns t c = going_done 256 c.args.used c.args.eye c.args.cells.now c.loop-s.invariant c.loop-s-test.false
