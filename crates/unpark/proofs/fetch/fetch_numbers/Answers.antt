use Rattle.areas.proofs.Fetched.{fetches-start, fetches-next, fetches-done}
use Rattle.unpark.specs.Unpark.{fetched}
use native.Mathlib.Omega.{arith}
use Rattle.unpark.proofs.fetch.fetch_numbers.Goals as goal

pub loop-i-init : goal.loop-i-init
loop-i-init c =
    fetches-start

pub overflow_cast-area : goal.overflow_cast-area
overflow_cast-area c =
    rw c.word-v.ensures (omega (arith, c.requires.2 _ c.loop-i-test.true))

pub loop-i-preserved : goal.loop-i-preserved
loop-i-preserved c =
    rw c.word-v.ensures (fetches-next c.requires.0 c.loop-i-test.true c.loop-i.invariant)

pub returns : goal.returns
unfolding fetched
returns c =
    fetches-done c.loop-i-test.false c.loop-i.invariant
