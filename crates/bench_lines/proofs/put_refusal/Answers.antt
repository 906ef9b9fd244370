-- `bench_lines::put_refusal` meets its contract: by `puts_then`.
use Rattle.bench_lines.specs.BenchLines.{refusal_text}
use Rattle.text.proofs.Puts.{puts_then}
use Rattle.bench_lines.proofs.put_refusal.Goals as goal

pub returns : goal.returns
unfolding refusal_text
returns c =
    puts_then (puts_then (c.put-a.ensures) c.put_decimal-b.ensures.puts) c.put.ensures
