-- `desk_blind::put_sight` meets its contract: each need follows from its own premises.
use Rattle.blind.specs.Blind.{sight_number}
use Rattle.desk_blind.specs.HostBlind.{sight_words}
use Rattle.desk_blind.proofs.put_sight.Goals as goal

pub returns-in-Err : goal.returns-in-Err
unfolding sight_number sight_words
returns-in-Err c =
    (rw c.in-Err.is c.number.ensures, rw c.in-Err.is)

pub returns-in-Ok : goal.returns-in-Ok
unfolding sight_number sight_words
returns-in-Ok c =
    (rw c.in-Ok.is, rw c.in-Ok.is)
