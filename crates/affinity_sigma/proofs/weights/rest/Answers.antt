-- `sigma::weights::rest` meets its contract: u with its sign turned, as a value. Assumes nothing.
use mathlib.Core.Path.{refl}
use lib.IntN.{pos, neg_ℤ, +ℤ_idl}
use mir.Syntax.{w32}
use mir.ValLaws.{to_z-of_z}
use Rattle.elementary.specs.Exp.{reduced}
use Rattle.affinity_sigma.proofs.Blocks.{small_signed, small-minus}
use Rattle.affinity_sigma.proofs.weights.rest.Goals as goal

pub overflow_cast-k : goal.overflow_cast-k
overflow_cast-k c =
    small_signed _ c.requires

pub overflow_sub-k : goal.overflow_sub-k
overflow_sub-k c =
    rw (to_z-of_z w32 (pos c.args.u) (small_signed _ c.requires), +ℤ_idl) (small-minus _ c.requires)

pub returns : goal.returns
unfolding reduced
returns c =
    rw (
      to_z-of_z w32 (pos c.args.u) (small_signed _ c.requires),
      +ℤ_idl,
      to_z-of_z w32 (neg_ℤ (pos c.args.u))
          (small-minus _ c.requires),
    ) refl
