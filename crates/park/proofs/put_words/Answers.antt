use Rattle.little.proofs.Bytes.{length-bytes}
use Rattle.park.proofs.Laws.{words-next}
use Rattle.park.specs.Park.{parked_into}
use Rattle.laws.proofs.Laid.{lays-start, lays-done}
use native.Mathlib.Omega.{arith}
use Rattle.park.proofs.put_words.Goals as goal

pub loop-w-init : goal.loop-w-init
loop-w-init c =
    lays-start 8 _

pub parked_word-v-requires : goal.parked_word-v-requires
parked_word-v-requires c =
    c.requires.0

pub overflow_mul-w : goal.overflow_mul-w
overflow_mul-w c =
    omega (arith, c.loop-w-test.true, c.requires.1, c.well_formed.1.1.1.1.1.1.1.1.0)

pub put_word-requires : goal.put_word-requires
put_word-requires c =
    omega (arith, c.loop-w-test.true, c.requires.1, c.loop-w.invariant.size)

pub loop-w-preserved : goal.loop-w-preserved
loop-w-preserved c =
    words-next c.loop-w.invariant c.loop-w-test.true c.requires.1 (length-bytes 8 _) c.put_word.auto.bytes
    (rw c.parked_word-v.ensures at c.put_word.ensures)

pub shape_of-target : goal.shape_of-target
shape_of-target c =
    c.loop-w.invariant.size

pub returns : goal.returns
unfolding parked_into
returns c =
    lays-done 8 _ c.loop-w.invariant c.loop-w-test.false
