-- `desk_prepare_strip::words_barred` meets its contract: by `settings-long`, `bars-told`.
use Rattle.record_words.proofs.Laws.{settings-long}
use Rattle.desk_prepare_strip.proofs.Laws.{bars-told}
use mathlib.Core.Path.{sym, ◌∙◌}
use Rattle.desk_prepare_strip.proofs.words_barred.Goals as goal

pub returns-then-not-settings_fine : goal.returns-then-not-settings_fine
returns-then-not-settings_fine c =
    rw (sym c.settings_fine.ensures ∙ c.if-not-settings_fine.true)

pub settings_of-s-requires : goal.settings_of-s-requires
settings_of-s-requires c =
    settings-long _ (sym c.settings_fine.ensures ∙ c.if-not-settings_fine.false)

pub returns : goal.returns
returns c =
    rw (sym c.settings_fine.ensures ∙ c.if-not-settings_fine.false, sym c.settings_of-s.ensures) (bars-told _ _ (c.number.ensures ∙ c.strip_bars.ensures))
