-- `parked_file::head::first_stands` meets its contract: by `first-is`.
use Rattle.parked_file.proofs.Stands.{missing, there, first-is}
use mathlib.Core.Path.{sym, ◌∙◌}
use Rattle.parked_file.proofs.head.first_stands.Goals as goal

pub returns-then-file-lt32 : goal.returns-then-file-lt32
returns-then-file-lt32 c =
    sym (missing _ 0 c.if-file-lt32.true)

pub returns : goal.returns
returns c =
    rw (c.first_fine.ensures, c.word.ensures, c.word-2.ensures, c.word-3.ensures, c.word-4.ensures)
    (sym (there _ 0 c.if-file-lt32.false ∙ first-is _))
