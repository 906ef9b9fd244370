-- Widening by the exponent's bits: infinities and NaN, the bits 0, and all others; a law for each.
use Rattle.monitor_narrow.proofs.Laws.{widen-inf, widen-nan, widen-small, widen-normal}
use native.Mathlib.Omega.{arith}
use Rattle.monitor_narrow.proofs.widen.Goals as goal

pub returns-then-t-eq0 : goal.returns-then-t-eq0
returns-then-t-eq0 c =
    widen-inf c.args.bits (omega arith) c.if-x-eq255.true c.if-t-eq0.true

pub returns-then-x-eq255 : goal.returns-then-x-eq255
returns-then-x-eq255 c =
    widen-nan c.args.bits c.if-x-eq255.true c.if-t-eq0.false

pub returns-then-x-eq0 : goal.returns-then-x-eq0
returns-then-x-eq0 c =
    rw c.raised.ensures.0 (widen-small c.args.bits (omega arith) c.if-x-eq0.true)

pub returns : goal.returns
returns c =
    widen-normal c.args.bits (omega arith) c.if-x-eq255.false c.if-x-eq0.false
