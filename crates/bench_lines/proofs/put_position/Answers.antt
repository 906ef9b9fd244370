-- `bench_lines::put_position` meets its contract: by `puts_then`.
use Rattle.bench_lines.specs.BenchLines.{position_text}
use Rattle.text.proofs.Puts.{puts_then}
use native.Mathlib.Omega.{arith}
use Rattle.bench_lines.proofs.put_position.Goals as goal

pub returns : goal.returns
unfolding position_text
returns c =
    record {
      puts = puts_then (puts_then (puts_then ((rw c.bits_of.ensures at c.put_hex-p.ensures.puts)) c.put-q.ensures)
          (rw c.bits_of-2.ensures at c.put_hex-s.ensures.puts)) c.put.ensures;
      upper_bound = omega
          (arith, c.put_hex-p.ensures.upper_bound, c.put-q.ensures.place, c.put_hex-s.ensures.upper_bound, c.put.ensures.place);
    }
