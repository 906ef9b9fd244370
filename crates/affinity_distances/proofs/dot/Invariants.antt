-- `near::distances::dot` meets its contract: k products are added. Assumes nothing.
use Prim.Native.Nat.{◌-◌}
use Rattle.laws.proofs.Loops.{Loops}
use Rattle.affinity_distances.specs.Distances.{dot_step}
use Rattle.affinity_distances.proofs.dot.Given as goal

abbrev pub invariant-loop-k : goal.invariant-loop-k
invariant-loop-k l = Loops (dot_step l.table l.a l.b) l.f l.initial.sum l.k l.sum
