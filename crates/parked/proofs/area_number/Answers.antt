-- `parked::area_number` meets its contract: each need follows from its own premises.
use Prim.Native.Nat.{◌-◌}
use Rattle.parked.specs.Parked.{area_word}
use borrow.Author.Tests.{lt-ltb, le-ltb}
use native.Mathlib.Omega.{arith}
use Rattle.parked.proofs.area_number.Goals as goal

pub overflow_cast-result : goal.overflow_cast-result
overflow_cast-result c =
    omega (arith, c.type_inv.area (c.args.w - c.args.b))

pub returns-then-k-m : goal.returns-then-k-m
unfolding area_word
returns-then-k-m c =
    rw (lt-ltb _ _ c.if-k-m.true)

pub returns : goal.returns
unfolding area_word
returns c =
    rw (le-ltb _ _ c.if-k-m.false)
