use Rattle.divergence_sums.specs.Sums.{kl_row}
use Rattle.laws.proofs.Loops.{loop-start, loop-on, loop-done}
use Rattle.std.specs.Prelude.{◌≡◌, ◌+◌}
use native.Mathlib.Omega.{arith}
use Rattle.divergence_sums.proofs.kl_divergence_row.Goals as goal

pub loop-j-init : goal.loop-j-init
loop-j-init c =
    loop-start _ _ _

pub loop-j-preserved : goal.loop-j-preserved
loop-j-preserved c =
    let m : c.loop-j.j + c.min-m.result ≡ c.loop-j.j + 16 = omega arith in
    rw (c.kl_together-s.ensures, ← m) (loop-on _ c.loop-j.invariant (omega arith))

pub returns : goal.returns
unfolding kl_row
returns c =
    loop-done c.loop-j.invariant (omega arith)

-- after the last part
pub returns-2 : goal.returns-2
unfolding kl_row
returns-2 c =
    rw c.kl_together-s.ensures (loop-done (loop-on c.min-m.result c.loop-j.invariant (omega arith)) (omega arith))
