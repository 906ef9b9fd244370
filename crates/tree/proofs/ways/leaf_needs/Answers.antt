-- `tree::ways::leaf_needs` meets its contract: by `few-nodes`, `shl_one`.
use Rattle.tree.proofs.Inserting.{few-nodes}
use Rattle.laws.proofs.Numbers.{shl_one}
use native.Mathlib.Omega.{arith}
use Rattle.tree.proofs.ways.leaf_needs.Goals as goal

pub returns-in_default : goal.returns-in_default
returns-in_default c =
    rw c.in_default.is

pub point-q-requires : goal.point-q-requires
point-q-requires c =
    (c.requires.0, c.requires.1 _ c.in-Some.is)

pub overflow_mul-result : goal.overflow_mul-result
overflow_mul-result c =
    rw (shl_one c.args.s.c (omega (arith, c.requires.0)))
    (omega (arith, few-nodes c.splits.result c.args.s.c c.splits.ensures.1 c.requires.0.1))

pub returns : goal.returns
returns c =
    rw (shl_one c.args.s.c (omega (arith, c.requires.0)), c.splits.ensures.0, c.point-q.ensures, c.in-Some.is)
