-- `desk_blind::host_blind` meets its contract: by `settings-long`, `unread-seen`, `short-seen`, `seen-is`.
use mathlib.Core.Path.{sym, ◌∙◌}
use Rattle.blind.specs.Blind.{sight_rows}
use Rattle.record_words.proofs.Laws.{settings-long}
use Rattle.desk_blind.proofs.Laws.{unread-seen, short-seen, seen-is}
use Rattle.desk_blind.proofs.host_blind.Goals as goal

pub returns-then-not-settings_fine : goal.returns-then-not-settings_fine
returns-then-not-settings_fine c =
    unread-seen _ _ (sight_rows c.args.squares.now c.args.row_values.now c.args.row_shares.now
    c.args.row_indices.now) _ (sym c.settings_fine.ensures ∙ c.if-not-settings_fine.true)

pub settings_of-s-requires : goal.settings_of-s-requires
settings_of-s-requires c =
    settings-long _ (sym c.settings_fine.ensures ∙ c.if-not-settings_fine.false)

pub returns-then-answer-lt2 : goal.returns-then-answer-lt2
returns-then-answer-lt2 c =
    short-seen _ _ (sight_rows c.args.squares.now c.args.row_values.now c.args.row_shares.now
    c.args.row_indices.now) _ (sym c.settings_fine.ensures ∙ c.if-not-settings_fine.false) c.if-answer-lt2.true c.settings_of-s.ensures
    c.short_number.ensures

pub returns : goal.returns
returns c =
    seen-is _ _ (sight_rows c.args.squares.now c.args.row_values.now c.args.row_shares.now
    c.args.row_indices.now) _ (sym c.settings_fine.ensures ∙ c.if-not-settings_fine.false) c.if-answer-lt2.false c.settings_of-s.ensures
    c.blind-r.ensures c.put_sight.ensures
