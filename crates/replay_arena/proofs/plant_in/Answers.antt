-- `replay_arena::plant_in` meets its contract: what is said of the first k cells is said of all.
use Rattle.std.proofs.Common.{arith, length-take}
use Rattle.replay_arena.proofs.Told.{plant-told, plant-asks}
use Rattle.replay_arena.proofs.plant_in.Goals as goal

pub plant-requires : goal.plant-requires
plant-requires c = plant-asks c.args.n c.args.c c.args.k c.args.cells c.args.positions.now c.requires (omega (arith, length-take c.args.k c.args.cells))

pub returns : goal.returns
returns c = plant-told c.args.n c.args.c c.args.k c.args.cells c.args.positions.now c.requires (omega (arith, length-take c.args.k c.args.cells)) c.plant.new.cells c.plant.ensures
