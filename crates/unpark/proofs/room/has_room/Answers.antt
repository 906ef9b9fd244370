-- `unpark::room::has_room` meets its contract: by `read-settings-good`, `head-good`, `head-long`, `parked-head`.
use Rattle.unpark.proofs.Settled.{read-settings-good}
use Rattle.parked_file.proofs.Stands.{head-good, head-long, parked-head}
use borrow.Author.Tests.{le-leb, lt-leb}
use Rattle.unpark.proofs.room.has_room.Goals as goal

pub returns-then-run-lt14 : goal.returns-then-run-lt14
returns-then-run-lt14 c =
    rw (lt-leb 14 _ c.if-run-lt14.true)

pub settings_read-s-requires : goal.settings_read-s-requires
settings_read-s-requires c =
    head-long _ (parked-head _ c.requires)

pub areas_fit-requires : goal.areas_fit-requires
areas_fit-requires c =
    rw c.settings_read-s.ensures (read-settings-good _ (head-good _ (parked-head _ c.requires)))

pub returns : goal.returns
returns c =
    rw (c.areas_fit.ensures, c.settings_read-s.ensures, le-leb 14 _ c.if-run-lt14.false)
