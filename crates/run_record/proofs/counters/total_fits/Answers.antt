-- `run_record::counters::total_fits` meets its contract: each need follows from its own premises.
use native.Mathlib.Nat.{lt_of_le_of_lt, mul-le-mul}
use native.Mathlib.Omega.{arith}
use Rattle.run_record.proofs.counters.total_fits.Goals as goal

pub overflow_mul-result : goal.overflow_mul-result
overflow_mul-result c =
    record { fits = lt_of_le_of_lt (mul-le-mul c.requires.0 c.requires.1) (omega arith) }

pub overflow_add-result : goal.overflow_add-result
overflow_add-result c =
    omega (arith, mul-le-mul c.requires.0 c.requires.1)
