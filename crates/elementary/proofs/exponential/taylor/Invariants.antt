-- `elementary::exponential::taylor` meets its contract: the loop keeps what has been done equal to its part of the whole; by `series-step`, `series-end`.
use Rattle.elementary.specs.Exp.{series}
use Rattle.std.proofs.Common.{◌≡◌, ◌≤◌}
use Rattle.elementary.proofs.exponential.taylor.Given as goal

abbrev pub invariant-loop-m : goal.invariant-loop-m
invariant-loop-m l = (l.m ≤ 13) × (series l.r l.m l.t ≡ series l.r 13 l.initial.t)
