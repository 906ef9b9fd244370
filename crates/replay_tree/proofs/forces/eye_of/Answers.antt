-- `eye_of`: the point's coordinates are among the positions. Assumes nothing.
use Rattle.laws.proofs.Numbers.{row_in}
use Rattle.replay_tree.proofs.forces.eye_of.Goals as goal

pub point-p-requires : goal.point-p-requires
point-p-requires c =
    (c.requires.0, row_in c.args.q c.args.n c.args.c _ c.requires.1 c.requires.2)
