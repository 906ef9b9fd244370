-- `unpark::record::put_settings` meets its contract: from what its calls promise.
use lib.ListN.{length-set}
use native.Mathlib.Omega.{arith}
use Rattle.unpark.proofs.record.put_settings.Goals as goal

pub bounds-words-1 : goal.bounds-words-1
bounds-words-1 c =
    simp length-set (omega (arith, c.requires.0))

pub bounds-words-2 : goal.bounds-words-2
bounds-words-2 c =
    simp length-set (omega (arith, c.requires.0))

pub bounds-words-3 : goal.bounds-words-3
bounds-words-3 c =
    simp length-set (omega (arith, c.requires.0))

pub bounds-words-4 : goal.bounds-words-4
bounds-words-4 c =
    simp length-set (omega (arith, c.requires.0))

pub bounds-words-5 : goal.bounds-words-5
bounds-words-5 c =
    simp length-set (omega (arith, c.requires.0))

pub bounds-words-6 : goal.bounds-words-6
bounds-words-6 c =
    simp length-set (omega (arith, c.requires.0))

pub bounds-words-7 : goal.bounds-words-7
bounds-words-7 c =
    simp length-set (omega (arith, c.requires.0))

pub bounds-words-8 : goal.bounds-words-8
bounds-words-8 c =
    simp length-set (omega (arith, c.requires.0))

pub returns : goal.returns
returns c =
    rw (
      c.word.ensures,
      c.word-2.ensures,
      c.word-3.ensures,
      c.word-4.ensures,
      c.word-5.ensures,
      c.word-6.ensures,
      c.word-7.ensures,
      c.word-8.ensures,
      c.word-9.ensures,
    )
