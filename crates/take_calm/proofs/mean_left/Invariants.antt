-- `take_calm::mean_left` meets its contract: the loop keeps `SumsLeft` and `Abreast`; by `abreast-start`, `abreast-room`, `abreast-pass`, `abreast-next`,
-- `sums-left-start`, `sums-left-pass` and others.
use Rattle.take_gone.specs.Gone.{Abreast}
use Rattle.take_calm.proofs.Over.{SumsLeft}
use Rattle.laws.specs.Area.{at}
use Prim.Native.Nat.{◌+◌, ◌*◌}
use Rattle.take_calm.proofs.mean_left.Given as goal

abbrev pub invariant-loop-j : goal.invariant-loop-j
invariant-loop-j l = SumsLeft (λ i. at l.positions (i * l.c + l.d)) l.gone l.n l.j l.s × Abreast l.gone l.g l.j
