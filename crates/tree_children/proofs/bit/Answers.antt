-- `tree_children::bit` meets its contract: by `shl_one`.
use lib.Pow.{pow_mono}
use Rattle.laws.proofs.Numbers.{shl_one}
use Rattle.tree_children.specs.Children.{bit_of}
use borrow.Author.Rules.{rules}
use native.Mathlib.Omega.{arith}
use Rattle.tree_children.proofs.bit.Goals as goal

pub returns-then-x-z : goal.returns-then-x-z
unfolding bit_of
returns-then-x-z c =
    rw (c.if-x-z.true, shl_one c.args.d (omega arith)) (search rules, pow_mono {j = 2} (omega arith))

pub returns : goal.returns
unfolding bit_of
returns c =
    rw c.if-x-z.false (search rules)
