use Rattle.replay.proofs.Compared.{number-right, number-wrong, numbers-short, numbers-are}
use Rattle.laws.proofs.Every.{every-none, every-next, every-no, every-done}
use Rattle.std.proofs.Common.{sym, refl, arith}
use Rattle.replay.proofs.areas.same_numbers.Goals as goal

pub returns-then-m-area : goal.returns-then-m-area
returns-then-m-area c =
    numbers-short _ _ _ _ c.if-m-area.true

pub loop-i-init : goal.loop-i-init
loop-i-init c =
    (omega arith, every-none _)

pub returns-then-area-i : goal.returns-then-area-i
returns-then-area-i c =
    numbers-are _ _ _ _ _ c.if-m-area.false
    (sym (every-no _ _ _ c.loop-i-test.true
    (number-wrong c.args.area.now c.args.m c.args.list.now c.args.a c.loop-i.i refl
    c.wanted.ensures c.if-area-i.true)))

pub loop-i-preserved : goal.loop-i-preserved
loop-i-preserved c = (
  omega (arith, c.loop-i-test.true),
  every-next _ _ c.loop-i.invariant.1
      (number-right c.args.area.now c.args.m c.args.list.now c.args.a c.loop-i.i refl
      c.wanted.ensures c.if-area-i.false),
)

pub returns : goal.returns
returns c =
    numbers-are _ _ _ _ _ c.if-m-area.false (every-done _ _ _ c.loop-i.invariant.1 c.loop-i.invariant.0 c.loop-i-test.false)
