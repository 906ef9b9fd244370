-- `sigma::share_out` meets its contract: both ways to make shares of weights. Assumes nothing.
use Prim.Native.Nat.{◌^◌}
use lib.Dec.{le→leb}
use lib.Ieee.{in_float}
use Rattle.affinity_sigma.specs.Sigma.{shared_by}
use native.Mathlib.Omega.{arith}
use Rattle.affinity_sigma.proofs.share_out.Goals as goal

pub int_to_float-n : goal.int_to_float-n
unfolding in_float
int_to_float-n c =
    le→leb c.args.n (2 ^ 53) (omega arith)

pub returns-then-sum : goal.returns-then-sum
unfolding shared_by
returns-then-sum c =
    rw c.if-sum.true c.fill.ensures

pub returns : goal.returns
unfolding shared_by
returns c =
    rw c.if-sum.false c.divide.ensures
