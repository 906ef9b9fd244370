-- `parked_file::head::third_stands` meets its contract: by `above-zero`, `first-told`, `second-told`, `third-is`, `stands-first`, `stands-second`.
use Rattle.run_record.proofs.Laws.{above-zero}
use Rattle.parked_file.proofs.Heads.{first-told, second-told}
use Rattle.parked_file.proofs.Stands.{missing, there, third-is, stands-first, stands-second}
use mathlib.Core.Path.{sym, ◌∙◌}
use Rattle.parked_file.proofs.head.third_stands.Goals as goal

pub returns-then-file-lt96 : goal.returns-then-file-lt96
returns-then-file-lt96 c =
    sym (missing _ 2 c.if-file-lt96.true)

pub third_fine-requires : goal.third_fine-requires
third_fine-requires c =
    rw (c.word-2.ensures, c.word-3.ensures) (
      (first-told _ _ _ _ (stands-first _ c.requires.0)).n-most,
      above-zero _
          (second-told _ _ _ _ _ _ (stands-second _ c.requires.1)).perplexity-positive,
      (second-told _ _ _ _ _ _ (stands-second _ c.requires.1)).perplexity-below,
    )

pub returns : goal.returns
returns c =
    rw (
      c.third_fine.ensures,
      c.word.ensures,
      c.word-2.ensures,
      c.word-3.ensures,
      c.word-4.ensures,
      c.word-5.ensures,
      c.word-6.ensures,
      c.word-7.ensures,
      c.word-8.ensures,
    ) (sym (there _ 2 c.if-file-lt96.false ∙ third-is _))
