-- `park::park` meets its contract: what the entry tests show is what writing asks, and its answer is the definition's.
use Rattle.park.proofs.Laws.{park-asks, park-said}
use mathlib.Core.Path.{refl}
use Rattle.park.proofs.park.Goals as goal

pub put_tested-a-requires : goal.put_tested-a-requires
put_tested-a-requires c =
    park-asks c.args.words.now c.args.positions.now c.args.increments.now c.args.gains.now c.args.affinities.now c.args.indices.now c.args.offsets.now
    c.args.forces c.args.cells.now _ _ _ _ refl refl refl refl _ c.words_fault-t.ensures

pub returns : goal.returns
returns c =
    park-said c.args.words.now c.args.positions.now c.args.increments.now c.args.gains.now c.args.affinities.now c.args.indices.now c.args.offsets.now
    c.args.forces c.args.cells.now _ _ _ _ refl refl refl refl _ c.words_fault-t.ensures _ _ _ c.put_tested-a.ensures
