use Rattle.std.proofs.Common.{ap, arith, rules}
use Rattle.laws.proofs.Loops.{loop-next, loop-done}
use Rattle.scatter.specs.Scatter.{Spread}
use Rattle.scatter.proofs.random_init.Goals as goal

pub loop-k-preserved : goal.loop-k-preserved
loop-k-preserved c =
    (search rules, rw (c.coordinate.ensures, c.mix.ensures) (loop-next c.loop-k.invariant.1 (omega arith)))

pub returns : goal.returns
returns c =
    ap (λ (x : Spread). x.positions) (loop-done c.loop-k.invariant.1 (omega arith))
