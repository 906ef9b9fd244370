-- `replay::put_counts` meets its contract: by `puts_then`.
use Rattle.replay.specs.Line.{counts_text}
use Rattle.text.proofs.Puts.{puts_then}
use Rattle.std.proofs.Common.{arith}
use Rattle.replay.proofs.put_counts.Goals as goal

pub returns : goal.returns
unfolding counts_text
returns c =
    record {
      puts = puts_then (puts_then (puts_then (puts_then c.put-a.ensures c.put_decimal-b.ensures.puts) c.put-c.ensures) c.put_decimal-d.ensures.puts)
          c.put.ensures;
      upper_bound = omega
          (arith, c.put-a.ensures.place, c.put_decimal-b.ensures.upper_bound, c.put-c.ensures.place, c.put_decimal-d.ensures.upper_bound, c.put.ensures.place);
    }
