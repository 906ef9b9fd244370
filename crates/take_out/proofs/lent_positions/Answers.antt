-- `take_out::lent_positions` meets its contract: by `lent-no-table`, `lent-no-old`, `lent-all`, `settings-fine`, `told-none`, `told-some`.
use Rattle.take_out.proofs.Rooms.{lent-no-table, lent-no-old, lent-all}
use Rattle.take_out.specs.TakeOut.{lent_positions}
use Rattle.take_left.proofs.Judged.{told-none, told-some}
use Rattle.run_record.proofs.Laws.{settings-fine}
use borrow.Author.Tests.{ne_eqb}
use mathlib.Core.Bool.{not}
use mathlib.Core.Path.{ap, ◌∙◌}
use native.Mathlib.Omega.{arith}
use Rattle.take_out.proofs.lent_positions.Goals as goal

pub returns-then-is_err : goal.returns-then-is_err
unfolding lent_positions
returns-then-is_err c =
    rw (ne_eqb _ 0 (told-some _ _ c.settings_fault.ensures (c.is_err.ensures.negation ∙ ap not c.if-is_err.true)))

pub times-requires : goal.times-requires
times-requires c =
    let g = settings-fine c.args.s (told-none _ _ c.settings_fault.ensures (c.is_err.ensures.negation ∙ ap not c.if-is_err.false)) in
    (omega (arith, g.n-most), omega (arith, g.f-most))

pub returns-then-t-times : goal.returns-then-t-times
returns-then-t-times c =
    lent-no-table c.args.s c.args.p c.args.t c.args.q (told-none _ _ c.settings_fault.ensures (c.is_err.ensures.negation ∙ ap not c.if-is_err.false))
    (omega (arith, c.times.ensures, c.if-t-times.true))

pub returns-then-q-s : goal.returns-then-q-s
returns-then-q-s c =
    lent-no-old c.args.s c.args.p c.args.t c.args.q (told-none _ _ c.settings_fault.ensures (c.is_err.ensures.negation ∙ ap not c.if-is_err.false))
    (omega (arith, c.times.ensures, c.if-t-times.false)) c.if-q-s.true

pub returns : goal.returns
returns c =
    lent-all c.args.s c.args.p c.args.t c.args.q (told-none _ _ c.settings_fault.ensures (c.is_err.ensures.negation ∙ ap not c.if-is_err.false))
    (omega (arith, c.times.ensures, c.if-t-times.false)) c.if-q-s.false
