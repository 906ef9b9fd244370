use mathlib.Core.Path.{refl, sym}
use Rattle.laws.proofs.Every.{every-none}
use Rattle.affinity_sigma.proofs.Blocks.{every-joined, every-whole}
use native.Mathlib.Omega.{arith}
use Rattle.affinity_sigma.proofs.entropies.all_shares.Goals as goal

pub loop-t-init : goal.loop-t-init
loop-t-init c =
    (sym (every-none _), omega arith)

pub loop-t-preserved : goal.loop-t-preserved
loop-t-preserved c =
    (every-joined _ _ refl c.loop-t.invariant.0 refl, omega (arith, c.loop-t-test.true))

pub returns : goal.returns
returns c =
    every-whole _ _ _ c.loop-t.invariant.0 c.loop-t.invariant.1 c.loop-t-test.false
