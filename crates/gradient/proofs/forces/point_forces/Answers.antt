-- `gradient::forces::point_forces` meets its contract: its calls may be made, and what they come to.
use Rattle.gradient.proofs.Told.{walk-asks, forces-told}
use Rattle.gradient.proofs.forces.point_forces.Goals as goal

pub repulsive_force-acc-requires : goal.repulsive_force-acc-requires
repulsive_force-acc-requires c =
    walk-asks c.args.cells.now c.args.used c.args.map.positions.now c.args.lists.weights.now c.args.lists.indices.now c.args.lists.offsets.now c.args.map.n c.args.map.c c.args.i
    c.args.exaggeration c.args.angle c.args.forces.now c.requires c.eye_of-eye.result c.eye_of-eye.ensures

pub returns : goal.returns
returns c =
    forces-told c.args.cells.now c.args.used c.args.map.positions.now c.args.lists.weights.now c.args.lists.indices.now c.args.lists.offsets.now c.args.map.n c.args.map.c c.args.i
    c.args.exaggeration c.args.angle c.args.forces.now c.requires c.eye_of-eye.result c.eye_of-eye.ensures
    c.repulsive_force-acc.result c.repulsive_force-acc.ensures c.place_forces.new.forces c.place_forces.ensures
