-- `replay_forces::pulls::pulls_case` meets its contract: from what its calls promise.
use native.Mathlib.Omega.{arith}
use Rattle.replay_forces.proofs.pulls.pulls_case.Goals as goal

pub forces_of-requires : goal.forces_of-requires
forces_of-requires c = (
  c.requires.0,
  c.requires.1,
  omega (arith, c.times-m.ensures.0, c.if-m-gt400.false, c.floats_at-positions.type_inv.1.0.1),
  omega
      (arith, c.times.ensures.0, c.if-times-gt460.false),
)

pub answer_at-requires : goal.answer_at-requires
answer_at-requires c =
    c.requires.1

pub same_forces-requires : goal.same_forces-requires
same_forces-requires c = (
  omega (arith, c.requires.1),
  omega (arith, c.requires.0),
  omega (arith, c.requires.0),
  c.times-m.ensures.0,
  omega
      (arith, c.times.ensures.0, c.if-times-gt460.false),
)
