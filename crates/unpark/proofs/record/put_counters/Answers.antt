-- `unpark::record::put_counters` meets its contract: by `head-long`, `parked-head`.
use lib.ListN.{length-set}
use Rattle.parked_file.proofs.Stands.{head-long, parked-head}
use native.Mathlib.Omega.{arith}
use Rattle.unpark.proofs.record.put_counters.Goals as goal

pub word-requires : goal.word-requires
word-requires c =
    (omega (arith, head-long _ (parked-head _ c.requires.1)))

pub word-requires-2 : goal.word-requires-2
word-requires-2 c =
    (omega (arith, head-long _ (parked-head _ c.requires.1)))

pub bounds-words-10 : goal.bounds-words-10
bounds-words-10 c =
    simp length-set (omega (arith, c.requires.0))

pub bounds-words-11 : goal.bounds-words-11
bounds-words-11 c =
    simp length-set (omega (arith, c.requires.0))

pub units_read-requires : goal.units_read-requires
units_read-requires c =
    c.requires.1

pub bounds-words-12 : goal.bounds-words-12
bounds-words-12 c =
    simp length-set (omega (arith, c.requires.0))

pub bounds-words-13 : goal.bounds-words-13
bounds-words-13 c =
    simp length-set (omega (arith, c.requires.0))

pub returns : goal.returns
returns c =
    rw (c.word.ensures, c.word-2.ensures, c.units_read.ensures)
