-- `parked_file::head::second_stands` meets its contract: by `first-told`, `second_is`, `stands-first`.
use Rattle.parked_file.proofs.Heads.{first-told}
use Rattle.parked_file.proofs.Stands.{missing, there, second_is, stands-first}
use mathlib.Core.Path.{sym, ◌∙◌}
use Rattle.parked_file.proofs.head.second_stands.Goals as goal

pub returns-then-file-lt64 : goal.returns-then-file-lt64
returns-then-file-lt64 c =
    sym (missing _ 1 c.if-file-lt64.true)

pub second_fine-requires : goal.second_fine-requires
second_fine-requires c =
    rw c.word-2.ensures (first-told _ _ _ _ (stands-first _ c.requires)).n-most

pub returns : goal.returns
returns c =
    rw (c.second_fine.ensures, c.word.ensures, c.word-2.ensures, c.word-3.ensures, c.word-4.ensures, c.word-5.ensures, c.word-6.ensures)
    (sym (there _ 1 c.if-file-lt64.false ∙ second_is _))
