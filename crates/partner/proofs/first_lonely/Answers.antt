use mathlib.Core.Path.{◌≡◌, sym, ap, ◌∙◌}
use mathlib.Core.Bool.{not}
use Rattle.laws.proofs.First.{seek-start, seek-next, seek_stop, seek-done}
use native.Mathlib.Omega.{arith}
use Rattle.partner.proofs.first_lonely.Goals as goal

pub loop-i-init : goal.loop-i-init
loop-i-init c =
    seek-start _ _

pub is_mirrored-requires : goal.is_mirrored-requires
is_mirrored-requires c =
    (omega (arith, c.loop-i-test.true, c.requires.0), c.requires.1, c.requires.2, c.requires.3)

pub returns-then-not-is_mirrored : goal.returns-then-not-is_mirrored
returns-then-not-is_mirrored c =
    seek_stop c.loop-i.invariant c.loop-i-test.true (ap not (sym c.is_mirrored.ensures ∙ c.if-not-is_mirrored.true))

pub loop-i-preserved : goal.loop-i-preserved
loop-i-preserved c =
    seek-next c.loop-i.invariant c.loop-i-test.true (ap not (sym c.is_mirrored.ensures ∙ c.if-not-is_mirrored.false))

pub returns : goal.returns
returns c =
    let e : c.args.d ≡ c.loop-i.i = omega (arith, c.loop-i.invariant.within) in e ∙ seek-done c.loop-i.invariant c.loop-i-test.false
