use Rattle.take_gone.proofs.Next.{abreast-start, abreast-room, abreast-pass, abreast-next}
use Rattle.take_calm.proofs.Over.{tests-left-start, tests-left-pass, tests-left-next, tests-left-no, tests-left-done, calm-row-same}
use Rattle.take_calm.specs.CalmLeft.{calm_left}
use Rattle.take_gone.specs.Gone.{survivors}
use Rattle.laws.proofs.Numbers.{row_in}
use mathlib.Core.Path.{sym, ◌∙◌}
use native.Mathlib.Omega.{arith}
use Rattle.take_calm.proofs.is_calm_by.Goals as goal

pub loop-j-init : goal.loop-j-init
loop-j-init c =
    (tests-left-start, abreast-start c.requires.3)

pub overflow_cast-j : goal.overflow_cast-j
overflow_cast-j c =
    omega (arith, c.requires.0, c.loop-j-test.true)

pub is_next-requires : goal.is_next-requires
is_next-requires c =
    c.loop-j.invariant.1

pub overflow_add-g : goal.overflow_add-g
overflow_add-g c =
    omega (arith, abreast-room c.loop-j.invariant.1 (sym c.is_next.ensures ∙ c.if-is_next.true))

pub loop-j-preserved-then-is_next : goal.loop-j-preserved-then-is_next
loop-j-preserved-then-is_next c = (
  tests-left-pass c.loop-j.invariant.0 c.loop-j-test.true (sym c.is_next.ensures ∙ c.if-is_next.true),
  abreast-pass c.loop-j.invariant.1
      (sym c.is_next.ensures ∙ c.if-is_next.true),
)

pub overflow_mul-j : goal.overflow_mul-j
overflow_mul-j c =
    omega (arith, row_in c.loop-j.j c.args.n c.args.c _ c.loop-j-test.true c.requires.2)

pub is_calm_row-requires : goal.is_calm_row-requires
is_calm_row-requires c =
    (c.requires.1, row_in c.loop-j.j c.args.n c.args.c _ c.loop-j-test.true c.requires.2)

pub returns-then-not-is_calm_row : goal.returns-then-not-is_calm_row
unfolding calm_left
returns-then-not-is_calm_row c =
    sym (tests-left-no c.loop-j.invariant.0 c.loop-j-test.true (sym c.is_next.ensures ∙ c.if-is_next.false)
    (sym (c.is_calm_row.ensures ∙ calm-row-same (survivors c.args.gone.now c.args.n) c.args.c
    c.args.positions.now c.args.means.now c.requires.4 c.loop-j.j) ∙ c.if-not-is_calm_row.true))

pub loop-j-preserved : goal.loop-j-preserved
loop-j-preserved c = (
  tests-left-next c.loop-j.invariant.0 c.loop-j-test.true (sym c.is_next.ensures ∙ c.if-is_next.false)
      (sym (c.is_calm_row.ensures ∙ calm-row-same (survivors c.args.gone.now c.args.n) c.args.c
      c.args.positions.now c.args.means.now c.requires.4 c.loop-j.j) ∙ c.if-not-is_calm_row.false),
  abreast-next
      c.loop-j.invariant.1 (sym c.is_next.ensures ∙ c.if-is_next.false),
)

pub returns : goal.returns
unfolding calm_left
returns c =
    sym (tests-left-done c.loop-j.invariant.0 c.loop-j-test.false)
