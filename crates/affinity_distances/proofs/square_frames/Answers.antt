use Prim.Native.Nat.{◌-◌}
use Rattle.laws.proofs.Loops.{loop-start, loop-next, loop-done}
use Rattle.laws.proofs.Numbers.{row_in}
use borrow.Author.Rules.{rules}
use native.Mathlib.Omega.{arith}
use Rattle.affinity_distances.proofs.square_frames.Goals as goal

pub loop-i-init : goal.loop-i-init
loop-i-init c =
    (search rules, loop-start _ _ _)

pub dot-requires : goal.dot-requires
dot-requires c =
    (row_in _ _ _ _ c.loop-i-test.true c.requires.0, row_in _ _ _ _ c.loop-i-test.true c.requires.0)

pub loop-i-preserved : goal.loop-i-preserved
loop-i-preserved c =
    (search rules, rw c.dot.ensures (loop-next c.loop-i.invariant.1 (omega arith)))

pub returns : goal.returns
returns c =
    loop-done c.loop-i.invariant.1 (omega arith)
