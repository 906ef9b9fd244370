-- `near::distances::dot_four` meets its contract: k products are added to each of the four sums. Assumes nothing.
use Prim.Native.Nat.{◌-◌}
use Rattle.laws.proofs.Loops.{Loops}
use Rattle.affinity_distances.specs.Distances.{dot_step}
use Rattle.affinity_distances.proofs.dot_four.Given as goal

abbrev pub invariant-loop-k : goal.invariant-loop-k
invariant-loop-k l = Loops (dot_step l.table l.o l.a) l.f l.initial.first l.k l.first ×
    Loops (dot_step l.table l.o l.b) l.f l.initial.second l.k l.second × Loops (dot_step l.table l.o l.c) l.f l.initial.third l.k l.third × Loops
    (dot_step l.table l.o l.d) l.f l.initial.fourth l.k l.fourth
