-- `take_calm::is_calm_by` meets its contract: the loop keeps `TestsLeft` and `Abreast`; by `abreast-start`, `abreast-room`, `abreast-pass`, `abreast-next`,
-- `tests-left-start`, `tests-left-pass` and others.
use Rattle.take_gone.specs.Gone.{Abreast}
use Rattle.take_calm.proofs.Over.{TestsLeft}
use Rattle.take_rows.specs.Rows.{centred_left}
use Rattle.take_gone.specs.Gone.{survivors}
use Rattle.elementary.specs.Limits.{calm}
use Rattle.laws.specs.Loops.{every}
use Rattle.take_calm.proofs.is_calm_by.Given as goal

abbrev pub invariant-loop-j : goal.invariant-loop-j
invariant-loop-j l = TestsLeft (λ i. every (λ d. calm (centred_left (survivors l.gone l.n) l.c l.positions i d)) l.c) l.gone l.n l.j × Abreast l.gone l.g l.j
