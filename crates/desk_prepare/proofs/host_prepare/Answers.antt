-- `desk_prepare::host_prepare` meets its contract: by `settings-long`, `unread-begun`, `short-begun`, `begun-is`.
use Rattle.record_words.proofs.Laws.{settings-long}
use Rattle.desk_prepare.proofs.Laws.{unread-begun, short-begun, begun-is}
use Rattle.prepare.specs.Prepare.{prepare_number}
use mathlib.Core.Path.{sym, ◌∙◌}
use Rattle.desk_prepare.proofs.host_prepare.Goals as goal

pub returns-then-not-settings_fine : goal.returns-then-not-settings_fine
returns-then-not-settings_fine c =
    unread-begun _ _ _ _ _ _ (sym c.settings_fine.ensures ∙ c.if-not-settings_fine.true)

pub settings_of-s-requires : goal.settings_of-s-requires
settings_of-s-requires c =
    settings-long _ (sym c.settings_fine.ensures ∙ c.if-not-settings_fine.false)

pub returns-then-record-lt14 : goal.returns-then-record-lt14
returns-then-record-lt14 c =
    short-begun _ _ _ _ _ _ (sym c.settings_fine.ensures ∙ c.if-not-settings_fine.false) c.if-record-lt14.true c.settings_of-s.ensures
    c.short_number.ensures

pub put_run-requires : goal.put_run-requires
put_run-requires c =
    c.if-record-lt14.false

pub returns-in-Err : goal.returns-in-Err
unfolding prepare_number
returns-in-Err c =
    begun-is _ _ _ _ _ _ (sym c.settings_fine.ensures ∙ c.if-not-settings_fine.false) c.if-record-lt14.false c.settings_of-s.ensures c.prepare-p.ensures
    (rw c.in-Err.is c.number.ensures) (rw c.in-Err.is)

pub returns-in-Ok : goal.returns-in-Ok
unfolding prepare_number
returns-in-Ok c =
    begun-is _ _ _ _ _ _ (sym c.settings_fine.ensures ∙ c.if-not-settings_fine.false) c.if-record-lt14.false c.settings_of-s.ensures c.prepare-p.ensures
    (rw c.in-Ok.is) (rw c.in-Ok.is c.put_run.ensures)
