-- `replay_gradient::same_forces` meets its contract: each need follows from its own premises.
use mathlib.Core.Path.{sym}
use lib.Seq.{length-take-le}
use native.Mathlib.Omega.{arith}
use Rattle.replay_gradient.proofs.same_forces.Goals as goal

pub slice_bounds-same_area-end : goal.slice_bounds-same_area-end
slice_bounds-same_area-end c =
    sym (length-take-le c.args.m c.args.forces.now (omega (arith, c.requires)))
