-- `answer_words::put_after` meets its contract: by `bad-after`, `fine-after`.
use Rattle.answer_words.proofs.Laws.{bad-after, fine-after}
use mathlib.Core.Path.{sym, ◌∙◌}
use Rattle.answer_words.proofs.put_after.Goals as goal

pub returns-then-is_bad : goal.returns-then-is_bad
returns-then-is_bad c =
    bad-after _ _ _ (sym c.is_bad.ensures ∙ c.if-is_bad.true)

pub returns : goal.returns
returns c =
    fine-after _ _ _ (sym c.is_bad.ensures ∙ c.if-is_bad.false) c.put_progress.ensures
