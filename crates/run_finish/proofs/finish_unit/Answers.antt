-- `run_finish::finish_unit` meets its contract: by `finish-moved`, `finish-wild`.
use native.Mathlib.Nat.{le_refl}
use Rattle.run_finish.specs.Finish.{pace_of, finish_unit}
use Rattle.run_finish.proofs.Finished.{finish-moved, finish-wild}
use native.Mathlib.Omega.{arith}
use Rattle.run_finish.proofs.finish_unit.Goals as goal

pub pace-p-requires : goal.pace-p-requires
pace-p-requires c =
    (c.requires.c-most, c.requires.forces-in)

pub finish-a-requires : goal.finish-a-requires
finish-a-requires c = (
  c.requires.c-some,
  c.requires.c-most,
  c.requires.numbers.n-most,
  c.requires.forces-in,
  c.requires.positions-in,
  c.requires.increments-in,
  c.requires.gains-in,
)

pub returns-in_default : goal.returns-in_default
unfolding finish_unit pace_of
returns-in_default c =
    finish-wild _ _ _ _ _ _ _ _ (rw c.pace-p.ensures at c.finish-a.ensures) _ _ c.in_default.is

pub overflow_mul-s : goal.overflow_mul-s
overflow_mul-s c =
    omega (arith, c.requires.positions-in)

pub norm-norm-requires : goal.norm-norm-requires
norm-norm-requires c =
    (c.requires.c-some, c.requires.c-most, le_refl _, c.requires.forces-in)

pub closed-requires : goal.closed-requires
closed-requires c =
    (c.requires.done-small, c.requires.numbers.units_small)

pub returns : goal.returns
unfolding finish_unit pace_of
returns c =
    finish-moved _ _ _ _ _ _ _ _ (rw c.pace-p.ensures at c.finish-a.ensures) c.in-Ok.is
    (rw c.pace-p.ensures at c.norm-norm.ensures) c.closed.ensures
