use mathlib.Core.Path.{sym, subst}
use Prim.Native.Nat.{◌+◌}
use lib.ListN.{set}
use Rattle.laws.proofs.Parts.{Copies, copies-start, copies-next, copies-done}
use Rattle.areas.proofs.copy_front.Goals as goal

pub loop-t-init : goal.loop-t-init
loop-t-init g c =
    copies-start

pub loop-t-preserved : goal.loop-t-preserved
loop-t-preserved g c =
    let read = c.index-from-a in
    subst (λ x. Copies c.args.from.now c.args.to.now c.args.a c.args.k (c.loop-t.t + 1) (set c.loop-t.to c.loop-t.t x)) (sym read.is)
    (copies-next read.result c.requires.1 c.requires.0 c.loop-t-test.true c.loop-t.invariant)

pub returns : goal.returns
returns g c =
    copies-done c.loop-t-test.false c.loop-t.invariant
