-- `replay_arena::force_in` meets its contract: a tree that a force walk may go through has all that it asks.
use Rattle.replay_arena.proofs.Told.{force-asks}
use Rattle.replay_arena.proofs.force_in.Goals as goal

pub repulsive_force-r-requires : goal.repulsive_force-r-requires
repulsive_force-r-requires c = force-asks c.args.k c.args.used c.args.eye c.args.cells c.requires
