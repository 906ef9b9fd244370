-- `bench_lines::put_label` meets its contract: by `puts_then`.
use Rattle.bench_lines.specs.BenchLines.{label_text}
use Rattle.text.proofs.Puts.{puts_then}
use native.Mathlib.Omega.{arith}
use Rattle.bench_lines.proofs.put_label.Goals as goal

pub returns : goal.returns
unfolding label_text
returns c =
    record {
      puts = puts_then (puts_then
          (puts_then (puts_then (puts_then c.put_decimal-p.ensures.puts c.put-q.ensures) c.put_decimal-s.ensures.puts) c.put-t.ensures)
          c.put_decimal-u.ensures.puts) c.put.ensures;
      upper_bound = omega (
        arith,
        c.put_decimal-p.ensures.upper_bound,
        c.put-q.ensures.place,
        c.put_decimal-s.ensures.upper_bound,
        c.put-t.ensures.place,
        c.put_decimal-u.ensures.upper_bound,
        c.put.ensures.place,
      );
    }
