-- `replay_arena::put_in` meets its contract: what is well formed has all that an insertion asks, and what is said of the first k cells is said of all.
use Rattle.std.proofs.Common.{arith, length-take}
use Rattle.replay_arena.proofs.Told.{put-asks, put-told}
use Rattle.replay_arena.proofs.put_in.Goals as goal

pub insert-a-requires : goal.insert-a-requires
insert-a-requires c = put-asks c.args.n c.args.used c.args.j c.args.c c.args.k c.args.cells c.args.positions.now c.requires

pub returns : goal.returns
returns c =
    put-told c.args.n c.args.used c.args.j c.args.c c.args.k c.args.cells c.args.positions.now c.requires c.insert-a.result c.insert-a.new.cells c.insert-a.ensures
    (omega (arith, length-take c.args.k c.args.cells)) c.put_of-p.result c.put_of-p.ensures
