-- The probe is the definition's, field by field, by what `point` and `is_ample` ensure.
use Rattle.tree.proofs.ways.probing.Goals as goal

pub returns : goal.returns
returns c =
    rw (c.point-p.ensures, c.is_ample-ended.ensures)
