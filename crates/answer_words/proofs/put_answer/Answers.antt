-- `answer_words::put_answer` meets its contract: from what its calls promise.
use lib.ListN.{length-set}
use Rattle.answer_words.specs.AnswerWords.{answer_put}
use native.Mathlib.Omega.{arith}
use Rattle.answer_words.proofs.put_answer.Goals as goal

pub bounds-words-1 : goal.bounds-words-1
bounds-words-1 c =
    simp length-set (omega (arith, c.requires))

pub bounds-words-2 : goal.bounds-words-2
bounds-words-2 c =
    simp length-set (omega (arith, c.requires))

pub bounds-words-3 : goal.bounds-words-3
bounds-words-3 c =
    simp length-set (omega (arith, c.requires))

pub bounds-words-4 : goal.bounds-words-4
bounds-words-4 c =
    simp length-set (omega (arith, c.requires))

pub returns : goal.returns
unfolding answer_put
returns c =
    rw (c.kind_word.ensures, c.number.ensures, c.units_word.ensures, c.fault_words-f.ensures.0, c.fault_words-f.ensures.1)
