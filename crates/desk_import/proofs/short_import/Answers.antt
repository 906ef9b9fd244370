-- `desk_import::short_import` meets its contract: from what its calls promise.
use borrow.Author.Tests.{eq-eqb, ne_eqb}
use mathlib.Core.Path.{sym}
use Rattle.refusal.proofs.Numbers.{refusal-some}
use Rattle.desk_import.proofs.short_import.Goals as goal

pub returns-in-Ok : goal.returns-in-Ok
returns-in-Ok c =
    rw (eq-eqb _ 0 (sym (rw c.tree_settings-t.ensures at c.in-Ok.ensures)))

pub returns-in-Err : goal.returns-in-Err
returns-in-Err c =
    rw (c.number.ensures, sym (rw c.tree_settings-t.ensures at c.in-Err.ensures), ne_eqb _ 0 (refusal-some c.in-Err.r))
