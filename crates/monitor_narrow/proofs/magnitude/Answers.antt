-- The pattern by the exponent's bits: at either side of 897 the definition's own case.
use borrow.Author.Tests.{lt-ltb, le-ltb}
use Rattle.monitor_narrow.specs.Steps.{magnitude_of}
use native.Mathlib.Omega.{arith}
use Rattle.monitor_narrow.proofs.magnitude.Goals as goal

pub returns-then-x-lt897 : goal.returns-then-x-lt897
unfolding magnitude_of
returns-then-x-lt897 c =
    rw (lt-ltb c.args.x 897 c.if-x-lt897.true, c.nearest_part.ensures.0)

pub returns : goal.returns
unfolding magnitude_of
returns c =
    rw (le-ltb c.args.x 897 (omega arith), c.nearest_part-2.ensures.0)
