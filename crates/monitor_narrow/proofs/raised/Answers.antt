-- A subnormal value: the leading zeros place its leading digit (`placed` of elementary), and the shift loses nothing.
use native.Mathlib.Nat.{mod-eq_of_lt}
use Prim.Native.Nat.{◌*◌, ◌-◌, ◌^◌}
use lib.Count.{count_leading_zeros}
use Rattle.elementary.proofs.Parts.{placed}
use Rattle.monitor_narrow.proofs.Laws.{raised-none, raised-some}
use native.Mathlib.Omega.{arith}
use Rattle.monitor_narrow.proofs.raised.Goals as goal

pub returns-then-t-eq0 : goal.returns-then-t-eq0
returns-then-t-eq0 c =
    (rw c.if-t-eq0.true raised-none, omega arith)

pub overflow_sub-z : goal.overflow_sub-z
overflow_sub-z c =
    (placed c.args.t (omega arith) (omega arith)).least

pub overflow_sub-result : goal.overflow_sub-result
overflow_sub-result c =
    omega (arith, (placed c.args.t (omega arith) (omega arith)).most)

pub overflow_cast-result-2 : goal.overflow_cast-result-2
overflow_cast-result-2 c =
    omega (arith, (placed c.args.t (omega arith) (omega arith)).most)

pub overflow_shl-result : goal.overflow_shl-result
overflow_shl-result c =
    omega (arith, (placed c.args.t (omega arith) (omega arith)).most)

pub overflow_add-result : goal.overflow_add-result
overflow_add-result c =
    rw (mod-eq_of_lt {n = c.args.t * 2 ^ (count_leading_zeros 64 c.args.t - 11)} {m = 2 ^ 64}
    (omega (arith, (placed c.args.t (omega arith) (omega arith)).high)))
    (omega (arith, (placed c.args.t (omega arith) (omega arith)).high))

pub returns : goal.returns
returns c =
    rw (mod-eq_of_lt {n = c.args.t * 2 ^ (count_leading_zeros 64 c.args.t - 11)} {m = 2 ^ 64}
    (omega (arith, (placed c.args.t (omega arith) (omega arith)).high)))
    (raised-some c.args.t c.requires c.if-t-eq0.false, omega (arith, (placed c.args.t (omega arith) (omega arith)).high))
