-- `take_calm::means_left` meets its contract: the loop keeps `Loops`; by `loop-start`, `loop-next`, `loop-done`.
use Rattle.take_calm.specs.CalmLeft.{mean_at}
use Rattle.take_gone.specs.Gone.{survivors}
use Rattle.laws.proofs.Loops.{Loops}
use Rattle.take_calm.proofs.means_left.Given as goal

abbrev pub invariant-loop-d : goal.invariant-loop-d
invariant-loop-d l = Loops (mean_at (survivors l.gone l.n) l.c l.positions) l.c l.initial.means l.d l.means
