-- `divergence::divergence` meets its contract: by `divergence-asks`, `divergence-told`.
use Rattle.divergence.proofs.Laws.{divergence-asks, divergence-told}
use Rattle.divergence.proofs.divergence.Goals as goal

pub after_tests-a-requires : goal.after_tests-a-requires
after_tests-a-requires c =
    divergence-asks _ c.args.positions.now c.args.increments.now c.args.gains.now c.args.affinities.now c.args.indices.now c.args.offsets.now c.args.forces.now c.args.cells.now c.args.copy.now
    _ c.min-least.ensures _ c.fault_at-f.ensures

pub returns : goal.returns
returns c =
    divergence-told _ c.args.positions.now c.args.increments.now c.args.gains.now c.args.affinities.now c.args.indices.now c.args.offsets.now c.args.forces.now c.args.cells.now c.args.copy.now
    _ c.min-least.ensures _ c.fault_at-f.ensures _ c.after_tests-a.ensures
