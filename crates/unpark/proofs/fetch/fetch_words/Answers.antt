use Rattle.areas.proofs.Fetched.{fetches-start, fetches-next, fetches-done}
use Rattle.unpark.specs.Unpark.{fetched}
use Rattle.unpark.proofs.fetch.fetch_words.Goals as goal

pub loop-i-init : goal.loop-i-init
loop-i-init c =
    fetches-start

pub loop-i-preserved : goal.loop-i-preserved
loop-i-preserved c =
    rw c.word.ensures (fetches-next c.requires.0 c.loop-i-test.true c.loop-i.invariant)

pub returns : goal.returns
unfolding fetched
returns c =
    fetches-done c.loop-i-test.false c.loop-i.invariant
