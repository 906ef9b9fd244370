-- `record_words::put_progress` meets its contract: from what its calls promise.
use lib.ListN.{length-set}
use Rattle.record_words.specs.RecordWords.{progress_put}
use native.Mathlib.Omega.{arith}
use Rattle.record_words.proofs.put_progress.Goals as goal

pub bounds-words-10 : goal.bounds-words-10
bounds-words-10 c =
    simp length-set (omega (arith, c.requires))

pub bounds-words-11 : goal.bounds-words-11
bounds-words-11 c =
    simp length-set (omega (arith, c.requires))

pub bounds-words-12 : goal.bounds-words-12
bounds-words-12 c =
    simp length-set (omega (arith, c.requires))

pub bounds-words-13 : goal.bounds-words-13
bounds-words-13 c =
    simp length-set (omega (arith, c.requires))

pub returns : goal.returns
unfolding progress_put
returns c =
    rw c.standing_word.ensures
