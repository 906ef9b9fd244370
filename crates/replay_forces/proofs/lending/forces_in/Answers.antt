-- `replay_forces::lending::forces_in` meets its contract: by `forces-asks`.
use Rattle.replay_forces.proofs.Told.{forces-asks}
use Rattle.replay_forces.proofs.lending.forces_in.Goals as goal

pub point_forces-requires : goal.point_forces-requires
point_forces-requires c =
    forces-asks c.args.cells.now c.args.k c.args.used c.args.map.positions.now c.args.lists.weights.now c.args.lists.indices.now c.args.lists.offsets.now c.args.map.n c.args.map.c c.args.i
    c.args.forces.now c.requires
