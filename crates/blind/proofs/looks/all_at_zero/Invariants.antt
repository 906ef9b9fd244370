-- `blind::looks::all_at_zero` meets its contract: the loop keeps what has been done equal to its part of the whole; by `every-none`, `every-next`, `every-no`, `every-done`.
use mathlib.Core.Path.{◌≡◌}
use mathlib.Core.Bool.{true}
use Prim.Native.Nat.{◌≤◌}
use lib.Ieee.{eq}
use Rattle.laws.specs.Loops.{every}
use Rattle.laws.specs.Area.{at, zero64}
use Rattle.blind.proofs.looks.all_at_zero.Given as goal

abbrev pub invariant-loop-j : goal.invariant-loop-j
invariant-loop-j l = (l.j ≤ l.m) × (every (λ i. eq (at l.distances i) zero64) l.j ≡ true)
