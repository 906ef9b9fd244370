-- `replay_elementary::neighbours_right` meets its contract: each need follows from its own premises.
use Prim.Native.Nat.{◌^◌}
use lib.Dec.{le→leb}
use lib.Ieee.{in_float}
use native.Mathlib.Omega.{arith}
use Rattle.replay_elementary.proofs.neighbours_right.Goals as goal

pub int_to_float-n : goal.int_to_float-n
unfolding in_float
int_to_float-n c =
    le→leb c.args.n (2 ^ 53) (omega arith)
