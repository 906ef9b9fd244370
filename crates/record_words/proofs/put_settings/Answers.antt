-- `record_words::put_settings` meets its contract: from what its calls promise.
use lib.ListN.{length-set}
use Rattle.record_words.specs.RecordWords.{settings_put}
use native.Mathlib.Omega.{arith}
use Rattle.record_words.proofs.put_settings.Goals as goal

pub bounds-words-1 : goal.bounds-words-1
bounds-words-1 c =
    simp length-set (omega (arith, c.requires))

pub bounds-words-2 : goal.bounds-words-2
bounds-words-2 c =
    simp length-set (omega (arith, c.requires))

pub bounds-words-3 : goal.bounds-words-3
bounds-words-3 c =
    simp length-set (omega (arith, c.requires))

pub bounds-words-4 : goal.bounds-words-4
bounds-words-4 c =
    simp length-set (omega (arith, c.requires))

pub bounds-words-5 : goal.bounds-words-5
bounds-words-5 c =
    simp length-set (omega (arith, c.requires))

pub bounds-words-6 : goal.bounds-words-6
bounds-words-6 c =
    simp length-set (omega (arith, c.requires))

pub bounds-words-7 : goal.bounds-words-7
bounds-words-7 c =
    simp length-set (omega (arith, c.requires))

pub bounds-words-8 : goal.bounds-words-8
bounds-words-8 c =
    simp length-set (omega (arith, c.requires))

pub returns : goal.returns
unfolding settings_put
returns c =
    rw (c.method_word.ensures, c.bits_of.ensures, c.bits_of-2.ensures, c.bits_of-3.ensures, c.bits_of-4.ensures)
