-- The answer's words and number are those of what is wrong with the words: each callee promises its part.
use Rattle.desk_work.proofs.put_unread.Goals as goal

pub returns : goal.returns
returns c =
    (rw (c.number_of.ensures, c.unread_fault-f.ensures), rw (c.put_answer.ensures, c.unread_fault-f.ensures))
