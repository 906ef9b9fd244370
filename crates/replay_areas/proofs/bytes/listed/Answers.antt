-- `replay_areas::bytes::listed` meets its contract: each case of the definition.
use Rattle.std.proofs.Common.{le-ltb, lt-ltb}
use Rattle.replay_areas.specs.Said.{listed_byte}
use Rattle.replay_areas.proofs.bytes.listed.Goals as goal
use Rattle.replay_areas.proofs.bytes.listed.Goals.{else-i-m-via-then-i-m+else-i-lt1408, else-i-m-via-else-i-m}

pub returns-then-i-lt1408 : goal.returns-then-i-lt1408
unfolding listed_byte
returns-then-i-lt1408 c = rw (lt-ltb _ _ c.if-i-m.true, lt-ltb _ _ c.if-i-lt1408.true)

pub returns-else-i-m : goal.returns-else-i-m
unfolding listed_byte
returns-else-i-m c =
    elim c.else-i-m.branch [
      | else-i-m-via-then-i-m+else-i-lt1408 w ↦ rw (lt-ltb _ _ w.if-i-m.true, le-ltb _ _ w.if-i-lt1408.false)
      | else-i-m-via-else-i-m w ↦ rw (le-ltb _ _ w.if-i-m.false)
    ]
