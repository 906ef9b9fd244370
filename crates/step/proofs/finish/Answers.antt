-- `step::finish` meets its contract: by `finish-no-moves`, `finish-no-centred`, `finish-done`.
use Prim.Native.Nat.{◌^◌}
use lib.Dec.{le→leb}
use lib.Ieee.{in_float}
use mathlib.Core.Path.{sym, ◌∙◌}
use Rattle.step.proofs.Laws.{finish-no-moves, finish-no-centred, finish-done}
use native.Mathlib.Omega.{arith}
use Rattle.step.proofs.finish.Goals as goal

pub returns-then-not-sum_moves : goal.returns-then-not-sum_moves
returns-then-not-sum_moves c =
    finish-no-moves _ _ _ (sym c.sum_moves.ensures.0 ∙ c.if-not-sum_moves.true)

pub int_to_float-n : goal.int_to_float-n
unfolding in_float
int_to_float-n c =
    le→leb c.args.n (2 ^ 53) (omega arith)

pub returns-then-not-calm_centred : goal.returns-then-not-calm_centred
returns-then-not-calm_centred c =
    finish-no-centred _ _ _ (rw c.sum_moves.ensures.1 at c.take_means.ensures) (sym c.sum_moves.ensures.0 ∙ c.if-not-sum_moves.false)
    (sym c.calm_centred.ensures ∙ c.if-not-calm_centred.true)

pub returns : goal.returns
returns c =
    finish-done _ _ _ (rw c.sum_moves.ensures.1 at c.take_means.ensures) (sym c.sum_moves.ensures.0 ∙ c.if-not-sum_moves.false)
    (sym c.calm_centred.ensures ∙ c.if-not-calm_centred.false) c.write_moves.ensures
