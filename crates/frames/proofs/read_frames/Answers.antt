use mathlib.Core.Path.{sym, ◌∙◌}
use Rattle.frames.proofs.Reader.{bad-one, all-good, stray}
use Rattle.laws.proofs.First.{seek-start, seek-next}
use Rattle.frames.proofs.read_frames.Goals as goal

pub loop-i-init : goal.loop-i-init
loop-i-init c =
    seek-start _ _

pub returns-then-is_bad : goal.returns-then-is_bad
returns-then-is_bad c =
    bad-one _ _ c.loop-i.invariant c.loop-i-test.true (sym c.is_bad.ensures ∙ c.if-is_bad.true)

pub loop-i-preserved : goal.loop-i-preserved
loop-i-preserved c =
    seek-next c.loop-i.invariant c.loop-i-test.true (sym c.is_bad.ensures ∙ c.if-is_bad.false)

pub returns-then-file-ne0 : goal.returns-then-file-ne0
returns-then-file-ne0 c =
    stray _ _ c.loop-i.invariant c.loop-i-test.false c.if-file-ne0.true

pub returns : goal.returns
returns c =
    all-good _ _ c.loop-i.invariant c.loop-i-test.false c.if-file-ne0.false
