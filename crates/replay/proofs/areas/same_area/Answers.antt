use Rattle.replay.proofs.Compared.{value-passed, value-right, value-wrong, area-before, area-short, area-is}
use Rattle.laws.proofs.Every.{every-all, every-next, every-no, every-done}
use Rattle.std.proofs.Common.{sym, arith}
use Rattle.replay.proofs.areas.same_area.Goals as goal

pub returns-then-from-area : goal.returns-then-from-area
returns-then-from-area c =
    area-before _ _ _ _ _ c.if-from-area.true

pub returns-then-m-area : goal.returns-then-m-area
returns-then-m-area c =
    area-short _ _ _ _ _ c.if-from-area.false c.if-m-area.true

pub loop-i-init : goal.loop-i-init
loop-i-init c = (
  omega arith,
  c.if-from-area.false,
  every-all _ _
      (value-passed c.args.area.now c.args.from c.args.m c.args.list.now c.args.a),
)

pub returns-then-bits_of-wanted : goal.returns-then-bits_of-wanted
returns-then-bits_of-wanted c =
    area-is _ _ _ _ _ _ c.if-from-area.false c.if-m-area.false
    (sym (every-no _ _ _ c.loop-i-test.true
    (value-wrong c.args.area.now c.args.from c.args.m c.args.list.now c.args.a c.loop-i.i
    c.loop-i.invariant.0 c.bits_of.ensures c.wanted.ensures c.if-bits_of-wanted.true)))

pub loop-i-preserved : goal.loop-i-preserved
loop-i-preserved c = (
  omega (arith, c.loop-i.invariant.0),
  omega (arith, c.loop-i-test.true),
  every-next _ _ c.loop-i.invariant.2
      (value-right c.args.area.now c.args.from c.args.m c.args.list.now c.args.a c.loop-i.i
      c.loop-i.invariant.0 c.bits_of.ensures c.wanted.ensures c.if-bits_of-wanted.false),
)

pub returns : goal.returns
returns c =
    area-is _ _ _ _ _ _ c.if-from-area.false c.if-m-area.false (every-done _ _ _ c.loop-i.invariant.2 c.loop-i.invariant.1 c.loop-i-test.false)
