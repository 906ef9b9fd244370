-- `tree::ways::splits` meets its contract: the loop keeps `Splits`; by `splits-few`, `splits-go`, `splits_last`, `splits-end`, `splits-le`.
use Rattle.tree.proofs.Grow.{Splits}
use Rattle.tree.proofs.ways.splits.Given as goal

abbrev pub invariant-loop-d : goal.invariant-loop-d
invariant-loop-d l = Splits l.c l.q l.p l.depth l.initial.z l.initial.h l.z l.h l.n l.d
