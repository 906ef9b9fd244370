-- `desk_blind::short_number` meets its contract: from what its calls promise.
use mathlib.Core.Path.{sym}
use borrow.Author.Tests.{ne_eqb}
use Rattle.refusal.proofs.Numbers.{refusal-some}
use Rattle.desk_blind.proofs.short_number.Goals as goal

pub returns-in-Ok : goal.returns-in-Ok
returns-in-Ok c =
    rw (sym c.in-Ok.ensures)

pub returns-in-Err : goal.returns-in-Err
returns-in-Err c =
    rw (sym c.in-Err.ensures, ne_eqb _ 0 (refusal-some c.in-Err.e)) c.number.ensures
