-- A place is written in each turn, by the turn and the end of a counting loop.
use mathlib.Core.Path.{◌≡◌}
use lib.ListN.{length}
use Rattle.gradient_pairs.specs.Exact.{num_laid}
use Rattle.laws.proofs.Loops.{Loops}
use Rattle.gradient_pairs.proofs.exact.Map.lay_nums.Given as goal

abbrev pub invariant-loop-k : goal.invariant-loop-k
invariant-loop-k l = (length l.nums ≡ length l.initial.nums) × Loops (num_laid l.self.positions.now l.self.c l.i l.j) l.m l.initial.nums l.k l.nums
