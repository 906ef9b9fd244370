-- A record's sixteen bytes: the three numbers' bytes in their places, by computing.
use Rattle.monitor.specs.Monitor.{monitor_record}
use Rattle.little.proofs.Bytes.{bytes_four}
use Rattle.monitor.proofs.record_bytes.Goals as goal

pub returns : goal.returns
unfolding monitor_record
returns c =
    rw (c.to_le_bytes-p.ensures, c.to_le_bytes-a.ensures, c.to_le_bytes-b.ensures, bytes_four c.args.picture, bytes_four c.args.x, bytes_four c.args.y)
