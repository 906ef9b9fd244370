-- `replay_gradient::step_case` meets its contract: from what its calls promise.
use native.Mathlib.Omega.{arith}
use Rattle.replay_gradient.proofs.step_case.Goals as goal

pub finish-answer-requires : goal.finish-answer-requires
finish-answer-requires c = (
  c.requires.1,
  c.requires.2,
  omega (arith, c.requires.0),
  omega (arith, c.times.ensures.0, c.if-times-gt210.false, c.ready_at-forces.type_inv.1.0.1),
  omega
      (arith, c.times-m.ensures.0, c.if-m-gt210.false, c.ready_at-positions.type_inv.1.0.1),
  omega (arith, c.times-m.ensures.0, c.if-m-gt210.false, c.ready_at-increments.type_inv.1.0.1),
  omega
      (arith, c.times-m.ensures.0, c.if-m-gt210.false, c.ready_at-gains.type_inv.1.0.1),
)
