-- `desk_prepare_strip::host_prepare_strip` meets its contract: by `barred-words`, `words-passed-on`.
use Rattle.desk_prepare_strip.proofs.Laws.{barred-words, words-passed-on}
use mathlib.Core.Path.{sym, ◌∙◌}
use Rattle.desk_prepare_strip.proofs.host_prepare_strip.Goals as goal

pub returns-then-words_barred : goal.returns-then-words_barred
returns-then-words_barred c =
    barred-words _ _ _ _ _ _ (sym c.words_barred.ensures ∙ c.if-words_barred.true)

pub returns : goal.returns
returns c =
    c.host_prepare.ensures ∙ words-passed-on _ _ _ _ _ _ (sym c.words_barred.ensures ∙ c.if-words_barred.false)
