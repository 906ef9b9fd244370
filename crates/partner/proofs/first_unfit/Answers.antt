use mathlib.Core.Path.{◌≡◌, sym, ap, ◌∙◌}
use mathlib.Core.Bool.{not}
use Rattle.laws.proofs.First.{seek-start, seek-next, seek_stop, seek-done}
use native.Mathlib.Omega.{arith}
use Rattle.partner.specs.Partner.{whole_links}
use Rattle.partner.proofs.first_unfit.Goals as goal

pub loop-i-init : goal.loop-i-init
loop-i-init c =
    seek-start _ _

pub returns-then-not-link_fine : goal.returns-then-not-link_fine
returns-then-not-link_fine c =
    seek_stop c.loop-i.invariant c.loop-i-test.true (ap not (sym c.link_fine.ensures ∙ c.if-not-link_fine.true))

pub loop-i-preserved : goal.loop-i-preserved
loop-i-preserved c =
    seek-next c.loop-i.invariant c.loop-i-test.true (ap not (sym c.link_fine.ensures ∙ c.if-not-link_fine.false))

pub returns : goal.returns
returns c =
    let e : whole_links c.args.file.now ≡ c.loop-i.i = omega (arith, c.loop-i.invariant.within) in e ∙ seek-done c.loop-i.invariant c.loop-i-test.false
