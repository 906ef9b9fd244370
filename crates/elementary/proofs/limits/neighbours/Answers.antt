-- `elementary::limits::neighbours` meets its contract: by `three-bounded`, `ceil-small`, `one-neighbour`, `all_others`, `nearest-ones`.
use lib.Ieee.{mul, binary64}
use Rattle.elementary.specs.Limits.{neighbours_of, three64}
use Rattle.elementary.proofs.Ceil.{three-bounded, ceil-small}
use Rattle.std.proofs.Common.{arith}
use Rattle.std.proofs.Math.Nat.{max_comm}
use Rattle.elementary.proofs.limits.neighbours.Goals as goal

pub ceil_of-k-requires : goal.ceil_of-k-requires
ceil_of-k-requires c =
    three-bounded c.args.perplexity c.args.n c.requires.2 c.requires.0 c.requires.1

pub overflow_add-k : goal.overflow_add-k
overflow_add-k c =
    rw c.ceil_of-k.ensures
    (record {
      fits = omega (
        arith,
        ceil-small (mul binary64 three64 c.args.perplexity)
            (three-bounded c.args.perplexity c.args.n c.requires.2 c.requires.0 c.requires.1),
      );
    })

pub returns : goal.returns
unfolding neighbours_of
returns c =
    rw (c.max.ensures, c.min.ensures, c.saturating_sub.ensures, c.ceil_of-k.ensures) (max_comm _ _)
