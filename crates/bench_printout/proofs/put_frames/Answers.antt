use Rattle.bench_printout.proofs.Lines.{lines_start, lines_next, lines-done}
use Rattle.text.proofs.Puts.{puts_then}
use native.Mathlib.Omega.{arith}
use Rattle.bench_printout.proofs.put_frames.Goals as goal

pub loop-i-init : goal.loop-i-init
loop-i-init c =
    lines_start (omega (arith, c.requires))

pub put_label-a-requires : goal.put_label-a-requires
put_label-a-requires c =
    omega (arith, c.loop-i.invariant.small, c.loop-i.invariant.size, c.loop-i-test.true, c.count-n.ensures.upper_bound, c.requires)

pub put_position-at-requires : goal.put_position-at-requires
put_position-at-requires c =
    omega (
      arith,
      c.put_label-a.ensures.upper_bound,
      c.put_label-a.auto.out,
      c.loop-i.invariant.small,
      c.loop-i.invariant.size,
      c.loop-i-test.true,
      c.count-n.ensures.upper_bound,
      c.requires,
    )

pub loop-i-preserved : goal.loop-i-preserved
loop-i-preserved c =
    lines_next c.loop-i-test.true c.loop-i.invariant (puts_then (rw c.frame_at-f.ensures at c.put_label-a.ensures.puts) c.put_position-at.ensures.puts)
    (omega (arith, c.put_label-a.ensures.upper_bound, c.put_position-at.ensures.upper_bound))

pub returns : goal.returns
returns c =
    rw c.count-n.ensures.value at (lines-done c.loop-i-test.false c.loop-i.invariant)
