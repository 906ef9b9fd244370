-- `bench_printout::put_map` meets its contract: by `puts_then`.
use Rattle.bench_printout.specs.Printed.{map_text}
use Rattle.text.proofs.Puts.{puts_then}
use Rattle.bench_printout.proofs.put_map.Goals as goal

pub returns : goal.returns
unfolding map_text
returns c =
    puts_then (puts_then (puts_then (puts_then c.put-a.ensures c.put-b.ensures) c.put_decimal-c.ensures.puts) c.put-d.ensures)
    c.put_frames.ensures
