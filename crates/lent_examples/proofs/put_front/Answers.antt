-- `lent_examples::put_front` meets its contract: a write in the first k cells is one in the whole array.
use Rattle.lent_examples.proofs.Parts.{put-part}
use Rattle.lent_examples.proofs.put_front.Goals as goal

pub returns : goal.returns
returns c = put-part c.args.k c.args.i c.args.cells c.args.v c.put_cell.new.cells c.requires.0 c.put_cell.ensures
