-- `partner_write::write_lists` meets its contract: what the entry tests show is what writing asks, and its answer is the definition's.
use Rattle.partner_write.proofs.Laws.{write-asks, write-said}
use mathlib.Core.Path.{refl}
use Rattle.partner_write.proofs.write_lists.Goals as goal

pub write_tested-a-requires : goal.write_tested-a-requires
write_tested-a-requires c =
    write-asks c.args.words.now c.args.positions.now c.args.increments.now c.args.gains.now c.args.affinities.now c.args.indices.now c.args.offsets.now
    c.args.forces c.args.cells.now _ _ _ _ refl refl refl refl _ c.words_fault-t.ensures

pub returns : goal.returns
returns c =
    write-said c.args.words.now c.args.positions.now c.args.increments.now c.args.gains.now c.args.affinities.now c.args.indices.now c.args.offsets.now
    c.args.forces c.args.cells.now _ _ _ _ refl refl refl refl _ c.words_fault-t.ensures _ _ _ c.write_tested-a.ensures
