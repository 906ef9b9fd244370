-- `frames::read_frames` meets its contract: the loop keeps `Seeks`; by `bad-one`, `all-good`, `seek-start`, `seek-next`.
use Rattle.laws.proofs.First.{Seeks}
use Rattle.frames.specs.Frames.{bad_at, whole_records}
use Rattle.frames.proofs.read_frames.Given as goal

abbrev pub invariant-loop-i : goal.invariant-loop-i
invariant-loop-i l = Seeks (bad_at l.file) (whole_records l.file) l.i
