-- `sigma::entropies::power_of` meets its contract: both sides of the root of 2. Assumes nothing.
use Prim.Native.Nat.{◌+◌}
use lib.IntN.{pos, ◌-ℤ◌}
use mir.Syntax.{w32}
use mir.ValLaws.{to_z-of_z}
use Rattle.affinity_sigma.proofs.Shares.{power-fits, field-signed}
use native.Mathlib.Omega.{arith}
use Rattle.affinity_sigma.proofs.entropies.power_of.Goals as goal

pub field_of-x-requires : goal.field_of-x-requires
field_of-x-requires c =
    c.requires

pub unit_of-m-requires : goal.unit_of-m-requires
unit_of-m-requires c =
    c.requires

pub overflow_add-result : goal.overflow_add-result
overflow_add-result c =
    record { fits = omega (arith, c.field_of-x.ensures.1) }

pub overflow_cast-result : goal.overflow_cast-result
overflow_cast-result c =
    field-signed _ (omega (arith, c.field_of-x.ensures.1))

pub overflow_sub-result : goal.overflow_sub-result
overflow_sub-result c =
    rw (to_z-of_z w32 (pos (c.field_of-x.result + 1)) (field-signed _ (omega (arith, c.field_of-x.ensures.1))))
    (power-fits (c.field_of-x.result + 1) (omega (arith, c.field_of-x.ensures.1)))

pub returns-then-m : goal.returns-then-m
returns-then-m c =
    rw (
      to_z-of_z w32 (pos (c.field_of-x.result + 1)) (field-signed _ (omega (arith, c.field_of-x.ensures.1))),
      to_z-of_z w32
          (pos (c.field_of-x.result + 1) -ℤ pos 1023) (power-fits (c.field_of-x.result + 1) (omega (arith, c.field_of-x.ensures.1))),
      c.field_of-x.ensures.0,
      rw
          c.unit_of-m.ensures at c.if-m.true,
    )

pub overflow_cast-result-2 : goal.overflow_cast-result-2
overflow_cast-result-2 c =
    field-signed _ (omega (arith, c.field_of-x.ensures.1))

pub overflow_sub-result-2 : goal.overflow_sub-result-2
overflow_sub-result-2 c =
    rw (to_z-of_z w32 (pos c.field_of-x.result) (field-signed _ (omega (arith, c.field_of-x.ensures.1))))
    (power-fits c.field_of-x.result (omega (arith, c.field_of-x.ensures.1)))

pub returns : goal.returns
returns c =
    rw (
      to_z-of_z w32 (pos c.field_of-x.result) (field-signed _ (omega (arith, c.field_of-x.ensures.1))),
      to_z-of_z w32
          (pos c.field_of-x.result -ℤ pos 1023) (power-fits c.field_of-x.result (omega (arith, c.field_of-x.ensures.1))),
      c.field_of-x.ensures.0,
      rw
          c.unit_of-m.ensures at c.if-m.false,
    )
