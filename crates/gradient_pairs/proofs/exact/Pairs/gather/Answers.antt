use Rattle.gradient_pairs.specs.Exact.{pulls_of}
use Rattle.laws.proofs.Loops.{loop-on, loop-done}
use Rattle.std.specs.Prelude.{◌≡◌, ◌+◌}
use native.Mathlib.Omega.{arith}
use Rattle.gradient_pairs.proofs.exact.Pairs.gather.Goals as goal

pub loop-j-preserved : goal.loop-j-preserved
loop-j-preserved c =
    let m : c.loop-j.j + c.min-m.result ≡ c.loop-j.j + 16 = omega arith in
    rw (c.gather_some-x.ensures, ← m) (loop-on _ c.loop-j.invariant (omega arith))

pub returns : goal.returns
unfolding pulls_of
returns c =
    loop-done c.loop-j.invariant (omega arith)

-- after the last part
pub returns-2 : goal.returns-2
unfolding pulls_of
returns-2 c =
    rw c.gather_some-x.ensures (loop-done (loop-on c.min-m.result c.loop-j.invariant (omega arith)) (omega arith))
