-- A picture fits.
use native.Mathlib.Omega.{arith}
use Rattle.monitor_write.proofs.is_wrong.Goals as goal

pub overflow_cast-pictures : goal.overflow_cast-pictures
overflow_cast-pictures c =
    omega (arith, c.type_inv.pictures c.args.i)
