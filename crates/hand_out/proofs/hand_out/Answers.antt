-- `hand_out::hand_out` meets its contract: what the entry tests show is what handing out asks, and its answer is the definition's.
use Rattle.hand_out.proofs.Laws.{hand-asks, hand-said}
use mathlib.Core.Path.{refl}
use Rattle.hand_out.proofs.hand_out.Goals as goal

pub hand_tested-a-requires : goal.hand_tested-a-requires
hand_tested-a-requires c =
    hand-asks c.args.words.now c.args.positions.now c.args.increments.now c.args.gains.now c.args.affinities.now c.args.indices.now c.args.offsets.now
    c.args.forces.now c.args.cells.now _ _ _ _ _ refl refl refl refl refl _ c.words_fault-t.ensures

pub returns : goal.returns
returns c =
    hand-said c.args.words.now c.args.positions.now c.args.increments.now c.args.gains.now c.args.affinities.now c.args.indices.now c.args.offsets.now
    c.args.forces.now c.args.cells.now _ _ _ _ _ refl refl refl refl refl _ c.words_fault-t.ensures _ _ _ _ _ c.hand_tested-a.ensures
