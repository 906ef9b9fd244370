-- The first frame follows nothing; any other is held against the one before it.
use Prim.Native.Nat.{◌-◌}
use borrow.Author.Tests.{eq-eqb, ne_eqb}
use Rattle.monitor.specs.Monitor.{follows_at}
use native.Mathlib.Omega.{arith}
use Rattle.monitor_write.proofs.follows.Goals as goal

pub returns-then-i-eq0 : goal.returns-then-i-eq0
unfolding follows_at
returns-then-i-eq0 c =
    rw (eq-eqb _ _ c.if-i-eq0.true)

pub overflow_cast-pictures : goal.overflow_cast-pictures
overflow_cast-pictures c =
    omega (arith, c.type_inv.pictures (c.args.i - 1))

pub overflow_cast-pictures-2 : goal.overflow_cast-pictures-2
overflow_cast-pictures-2 c =
    omega (arith, c.type_inv.pictures c.args.i)

pub returns : goal.returns
unfolding follows_at
returns c =
    rw (ne_eqb _ _ c.if-i-eq0.false) c.may_follow.ensures
