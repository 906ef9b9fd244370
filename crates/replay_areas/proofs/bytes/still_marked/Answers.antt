use Rattle.std.proofs.Common.{sym, ◌∙◌, arith}
use Rattle.laws.proofs.Every.{every-none, every-next, every-no, every-done}
use Rattle.replay_areas.proofs.bytes.still_marked.Goals as goal

pub loop-i-init : goal.loop-i-init
loop-i-init c =
    (every-none _, omega arith)

pub keeps_mark-requires : goal.keeps_mark-requires
keeps_mark-requires c =
    c.loop-i-test.true

pub returns-then-not-keeps_mark : goal.returns-then-not-keeps_mark
returns-then-not-keeps_mark c =
    sym (every-no _ _ c.loop-i.i c.loop-i-test.true (sym c.keeps_mark.ensures ∙ c.if-not-keeps_mark.true))

pub loop-i-preserved : goal.loop-i-preserved
loop-i-preserved c =
    (every-next _ _ c.loop-i.invariant.0 (sym c.keeps_mark.ensures ∙ c.if-not-keeps_mark.false), omega (arith, c.loop-i-test.true))

pub returns : goal.returns
returns c =
    every-done _ _ _ c.loop-i.invariant.0 c.loop-i.invariant.1 c.loop-i-test.false
