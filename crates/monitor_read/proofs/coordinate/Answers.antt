-- The four bytes of a coordinate, by the reader of little-endian numbers.
use Rattle.monitor_read.specs.MonitorRead.{coordinate_at}
use Rattle.monitor_read.proofs.coordinate.Goals as goal

pub returns : goal.returns
unfolding coordinate_at
returns c =
    c.half_word.ensures.0
