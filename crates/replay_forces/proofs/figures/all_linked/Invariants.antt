-- `replay_forces::figures::all_linked` meets its contract: the loop keeps `Linked`; by `each_next`.
use Prim.Native.Nat.{ℕ, ◌<◌, ◌≤◌}
use Rattle.gradient.specs.Forces.{Linked}
use Rattle.replay_forces.proofs.figures.all_linked.Given as goal

abbrev pub invariant-loop-i : goal.invariant-loop-i
invariant-loop-i l = (l.i ≤ l.n) × ((j : ℕ) → j < l.i → Linked l.n l.lists.weights.now l.lists.indices.now l.lists.offsets.now j)
