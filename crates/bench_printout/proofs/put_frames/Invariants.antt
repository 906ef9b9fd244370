-- `bench_printout::put_frames` meets its contract: the loop keeps `Lines`; by `lines_start`, `lines_next`, `lines-done`, `puts_then`.
use Rattle.bench_printout.proofs.Lines.{Lines}
use Rattle.bench_printout.specs.Printed.{frame_text}
use Rattle.bench_printout.proofs.put_frames.Given as goal

abbrev pub invariant-loop-i : goal.invariant-loop-i
invariant-loop-i l = Lines (frame_text l.file l.positions) l.n l.from l.initial.out l.i l.at l.out
