-- `answer_words::units_word` meets its contract: each need follows from its own premises.
use Rattle.descent.specs.Descent.{units_of}
use Rattle.answer_words.proofs.units_word.Goals as goal

pub returns-in-Running : goal.returns-in-Running
unfolding units_of
returns-in-Running c =
    rw c.in-Running.is

pub returns-in-Stopped : goal.returns-in-Stopped
unfolding units_of
returns-in-Stopped c =
    rw c.in-Stopped.is

pub returns-in-Finished : goal.returns-in-Finished
unfolding units_of
returns-in-Finished c =
    rw c.in-Finished.is

pub returns-in-Full : goal.returns-in-Full
unfolding units_of
returns-in-Full c =
    rw c.in-Full.is

pub returns-in-Wild : goal.returns-in-Wild
unfolding units_of
returns-in-Wild c =
    rw c.in-Wild.is

pub returns-in-Bad : goal.returns-in-Bad
unfolding units_of
returns-in-Bad c =
    rw c.in-Bad.is
