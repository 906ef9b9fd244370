-- `tree_bounds::root::span` meets its contract: by `row_in` and the laws of its loop.
use lib.Ieee.{div, neg, of_bits}
use Rattle.laws.proofs.Numbers.{row_in}
use Rattle.laws.proofs.Loops.{loop-start, loop-next, loop-done}
use Rattle.tree_bounds.specs.Bounds.{span_of}
use lib.ListN.{length}
use native.Mathlib.Omega.{arith}
use Rattle.tree_bounds.proofs.root.span.Goals as goal

pub loop-i-init : goal.loop-i-init
loop-i-init c =
    loop-start _ _ _

pub overflow_mul-i : goal.overflow_mul-i
overflow_mul-i c =
    omega (
      arith,
      (row_in c.loop-i.i c.args.n c.args.c (length c.args.positions.now) c.loop-i-test.true
          c.requires.1),
    )

pub offset_bounds-positions-i : goal.offset_bounds-positions-i
offset_bounds-positions-i c =
    omega (
      arith,
      (row_in c.loop-i.i c.args.n c.args.c (length c.args.positions.now) c.loop-i-test.true
          c.requires.1),
    )

pub bounds-positions-i : goal.bounds-positions-i
bounds-positions-i c =
    omega (
      arith,
      (row_in c.loop-i.i c.args.n c.args.c (length c.args.positions.now) c.loop-i-test.true
          c.requires.1),
      c.requires.0,
    )

pub loop-i-preserved : goal.loop-i-preserved
loop-i-preserved c =
    rw c.widen-s.ensures (loop-next c.loop-i.invariant (omega arith))

pub returns : goal.returns
unfolding span_of div neg of_bits
returns c =
    loop-done c.loop-i.invariant (omega arith)
