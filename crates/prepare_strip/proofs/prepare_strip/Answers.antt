-- `prepare_strip::prepare_strip` meets its contract: by `refused-strip`, `passed-strip`.
use Rattle.std.proofs.lemmas.Result.{err_from_is_err_and}
use Rattle.refusal.proofs.Numbers.{refusal-some}
use Rattle.prepare.specs.Prepare.{lent}
use Rattle.prepare_strip.proofs.Laws.{refused-strip, passed-strip}
use mathlib.Core.Path.{◌∙◌}
use Rattle.prepare_strip.proofs.prepare_strip.Goals as goal

pub returns-in_err-strip_bars : goal.returns-in_err-strip_bars
returns-in_err-strip_bars c =
    let p = err_from_is_err_and c.from_residual.result c.from_residual.ensures.1 in
    rw (p.1, p.2) (refused-strip _ _ _ _
    (lent c.args.positions.now c.args.increments.now c.args.gains.now c.args.affinities.now
    c.args.indices.now c.args.offsets.now c.args.forces.now c.args.row_values.now
    c.args.row_indices.now) c.in_err-strip_bars.ensures (refusal-some c.in_err-strip_bars.field-0.0))

pub returns : goal.returns
returns c =
    c.prepare.ensures ∙ passed-strip _ _ _ _ _ c.in_ok-strip_bars.ensures
