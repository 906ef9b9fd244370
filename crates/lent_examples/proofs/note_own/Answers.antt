-- `lent_examples::note_own` meets its contract: from what `note_from` says of the first k cells.
use Rattle.lent_examples.proofs.Parts.{noted-told}
use Rattle.lent_examples.proofs.note_own.Goals as goal

pub returns : goal.returns
returns c =
    noted-told c.args.k c.args.i c.args.more c.args.c c.args.cells c.args.values.now c.requires.1
    c.note_from.new.c c.note_from.new.cells c.note_from.ensures c.note_of-n.result c.note_of-n.ensures
