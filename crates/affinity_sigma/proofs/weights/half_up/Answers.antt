-- `sigma::weights::half_up` meets its contract: the whole part of w by its neighbour beside 2^52. Assumes nothing.
use mathlib.Core.Path.{ap}
use Prim.Native.Nat.{ℕ, ◌+◌, ◌/◌}
use lib.IntN.{pos}
use mir.Syntax.{w32}
use mir.ValLaws.{to_z-of_z}
use Rattle.affinity_sigma.proofs.Whole.{rounded, whole-cast, whole-in-w32}
use native.Mathlib.Omega.{arith}
use Rattle.affinity_sigma.proofs.weights.half_up.Goals as goal

pub float_to_int-n : goal.float_to_int-n
float_to_int-n c =
    let r = rounded c.args.w c.requires in
    rw r.is (whole-cast r.whole r.small).0

pub overflow_cast-n : goal.overflow_cast-n
overflow_cast-n c =
    let r = rounded c.args.w c.requires in
    rw (r.is, (whole-cast r.whole r.small).1, to_z-of_z w32 (pos r.whole) (whole-in-w32 r.whole r.small))
    (tt, record { fits = omega (arith, r.small) })

pub returns-then-a-w : goal.returns-then-a-w
returns-then-a-w c =
    let r = rounded c.args.w c.requires in
    rw (r.is, (whole-cast r.whole r.small).1, to_z-of_z w32 (pos r.whole) (whole-in-w32 r.whole r.small))
    (ap (λ (i : ℕ). i / 2) (r.above (rw r.is at c.if-a-w.true)))

pub overflow_add-result : goal.overflow_add-result
overflow_add-result c =
    let r = rounded c.args.w c.requires in
    rw (r.is, (whole-cast r.whole r.small).1, to_z-of_z w32 (pos r.whole) (whole-in-w32 r.whole r.small))
    (record { fits = omega (arith, r.small) })

pub returns : goal.returns
returns c =
    let r = rounded c.args.w c.requires in
    rw (r.is, (whole-cast r.whole r.small).1, to_z-of_z w32 (pos r.whole) (whole-in-w32 r.whole r.small))
    (ap (λ (i : ℕ). (i + 1) / 2) (r.under (rw r.is at c.if-a-w.false)))
