-- `bench_lines::put_record` meets its contract: by `puts_then`.
use Rattle.bench_lines.specs.BenchLines.{record_text}
use Rattle.text.proofs.Puts.{puts_then}
use Rattle.bench_lines.proofs.put_record.Goals as goal

pub returns : goal.returns
unfolding record_text
returns c =
    puts_then (puts_then (puts_then (puts_then (c.put-a.ensures) c.put_decimal-b.ensures.puts) c.put-c.ensures) c.put_decimal-d.ensures.puts)
    c.put.ensures
