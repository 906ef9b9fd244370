-- `replay::areas::times` meets its contract: by the bound on each side.
use Rattle.std.proofs.Common.{refl, arith}
use native.Mathlib.Nat.{mul-le-mul_right}
use Rattle.replay.proofs.areas.times.Goals as goal

pub overflow_mul-result : goal.overflow_mul-result
overflow_mul-result c = omega (arith, mul-le-mul_right c.args.b c.requires.0)

pub returns : goal.returns
returns c = (refl, omega (arith, mul-le-mul_right c.args.b c.requires.0))
