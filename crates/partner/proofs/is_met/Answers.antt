use mathlib.Core.Path.{sym, ◌∙◌}
use Rattle.partner.proofs.Mirrors.{met-empty, met-done}
use Rattle.laws.proofs.Bisects.{bisects-start, bisects-within, bisects-next}
use native.Mathlib.Omega.{arith}
use borrow.Author.Tests.{le-leb, lt-leb}
use Rattle.partner.proofs.is_met.Goals as goal
use Rattle.partner.proofs.is_met.Goals.{then-link_pair-pair, else-link_pair-pair}

pub returns-then-k-eq0 : goal.returns-then-k-eq0
returns-then-k-eq0 c =
    rw c.if-k-eq0.true (sym (met-empty _ _ _))

pub loop-left-init : goal.loop-left-init
loop-left-init c =
    bisects-start c.if-k-eq0.false

pub link_pair-requires : goal.link_pair-requires
link_pair-requires c =
    omega (arith, bisects-within c.requires.2.rises c.loop-left.invariant c.loop-left-test.true, c.requires.1)

pub loop-left-preserved : goal.loop-left-preserved
loop-left-preserved c =
    bisects-next c.requires.2.rises c.loop-left.invariant _ c.loop-left-test.true (elim c.if-link_pair-pair.branch [
      | then-link_pair-pair w ↦ rw (sym c.link_pair.ensures, sym c.turned_pair-pair.ensures, le-leb _ _ w.if-link_pair-pair.true) w.low-is
      | else-link_pair-pair w ↦ rw (sym c.link_pair.ensures, sym c.turned_pair-pair.ensures, lt-leb _ _ w.if-link_pair-pair.false) w.low-is
    ])

pub is_mirror-requires : goal.is_mirror-requires
is_mirror-requires c =
    (c.requires.0, omega (arith, c.loop-left.invariant.inside, c.loop-left.invariant.some, c.requires.1))

pub returns : goal.returns
returns c =
    c.is_mirror.ensures ∙ met-done _ _ _ _ c.requires.2 c.loop-left.invariant (omega (arith, c.loop-left-test.false))
