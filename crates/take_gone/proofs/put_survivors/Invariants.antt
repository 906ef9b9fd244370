-- `take_gone::put_survivors` meets its contract: the loop keeps `Surviving` and `Abreast`; by `abreast-start`, `abreast-room`, `abreast-pass`, `abreast-next`,
-- `surviving-start`, `surviving-room` and others.
use Rattle.take_gone.specs.Gone.{Abreast}
use Rattle.take_gone.proofs.Left.{Surviving}
use Rattle.take_gone.proofs.put_survivors.Given as goal

abbrev pub invariant-loop-j : goal.invariant-loop-j
invariant-loop-j l = Surviving l.gone l.n l.initial.old l.q l.j l.old × Abreast l.gone l.g l.j
