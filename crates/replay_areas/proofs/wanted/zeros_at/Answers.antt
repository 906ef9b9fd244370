-- `replay_areas::wanted::zeros_at` meets its contract: from what its calls promise.
use Rattle.std.proofs.Common.{ℕ, ◌+◌, ◌*◌, ◌≤◌, mul-le-mul, arith}
use Rattle.replay_areas.proofs.wanted.zeros_at.Goals as goal

odd : {c : ℕ} → c ≤ 8 → 2 * c + 1 ≤ 17
odd h = omega arith

pub overflow_mul-result-2 : goal.overflow_mul-result-2
overflow_mul-result-2 c =
    record { fits = omega (arith, mul-le-mul c.length_at-n.ensures.upper_bound (odd c.length_at-c.ensures.upper_bound)) }
