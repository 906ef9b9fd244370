-- The most that a point may need, and the arena's cells that a word can name, are those of the definition; the sum fits a word.
use Rattle.laws.proofs.Numbers.{shl_one}
use native.Mathlib.Omega.{arith}
use Rattle.tree.proofs.ways.is_ample.Goals as goal

pub overflow_mul-result : goal.overflow_mul-result
overflow_mul-result c =
    rw (shl_one c.args.c (omega (arith, c.requires.0))) (omega (arith, c.requires.1))

pub overflow_add-result : goal.overflow_add-result
overflow_add-result c =
    rw (shl_one c.args.c (omega (arith, c.requires.0))) (omega (arith, c.requires.1))

pub returns : goal.returns
returns c =
    rw (shl_one c.args.c (omega (arith, c.requires.0)), c.nameable_of.ensures)
