-- `lent_examples::put_from_own` meets its contract: from what `put_from` says of the first k cells.
use Rattle.lent_examples.proofs.Parts.{own-told}
use Rattle.lent_examples.proofs.put_from_own.Goals as goal

pub returns : goal.returns
returns c =
    own-told c.args.k c.args.i c.args.m c.args.cells c.args.values.now c.args.marks.now c.requires.0
    c.put_from-mark.result c.put_from-mark.new.cells c.put_from-mark.new.marks c.put_from-mark.ensures c.with_mark-p.result c.with_mark-p.ensures
