-- `replay_affinity::choices::read_distances` meets its contract: the loop keeps `Plains`; by `above-plain`, `plain-next`.
use Rattle.affinity_near.specs.Near.{Plains}
use Rattle.std.proofs.Common.{◌≡◌, ◌-◌, ◌≤◌, length}
use Rattle.replay_affinity.proofs.choices.read_distances.Given as goal

abbrev pub invariant-loop-i : goal.invariant-loop-i
invariant-loop-i l = (length l.to ≡ length l.initial.to) × (l.i ≤ l.m) × Plains l.to l.i
