-- `sigma::divide` meets its contract: j places are divided. Assumes nothing.
use mathlib.Core.Path.{◌≡◌}
use Prim.Native.Nat.{◌-◌}
use lib.ListN.{length}
use Rattle.laws.proofs.Loops.{Loops}
use Rattle.affinity_sigma.specs.Sigma.{divide_step}
use Rattle.affinity_sigma.proofs.divide.Given as goal

abbrev pub invariant-loop-j : goal.invariant-loop-j
invariant-loop-j l = (length l.shares ≡ length l.initial.shares) × Loops (divide_step l.sum) l.n l.initial.shares l.j l.shares
