use mathlib.Core.Path.{refl, ap, ◌∙◌}
use mathlib.Core.List.{List}
use Prim.Native.Nat.{◌-◌}
use lib.ListN.{set, length-set}
use lib.Ieee.{Float}
use Rattle.laws.specs.Area.{zero64}
use Rattle.laws.proofs.Loops.{loop-next, loop-done}
use Rattle.laws.proofs.Numbers.{row_in}
use Rattle.affinity_distances.proofs.Fours.{loop-from}
use native.Mathlib.Omega.{arith}
use Rattle.affinity_distances.proofs.distance_row.Goals as goal

pub loop-j-init : goal.loop-j-init
loop-j-init c =
    (refl, λ y r. r)

pub distance-requires : goal.distance-requires
distance-requires c =
    record {
      f_in_bounds = (
        row_in _ _ _ _ c.requires.i_lt_n.0 c.requires.i_lt_n.1,
        row_in _ _ _ _ c.loop-j-test.true c.requires.i_lt_n.1,
        omega
            (arith, c.requires.i_lt_n),
        omega (arith, c.requires.i_lt_n),
      );
      i_value = (c.requires.squared _ c.requires.i_lt_n.0, c.requires.squared _ c.loop-j-test.true);
    }

pub bounds-row-j : goal.bounds-row-j
bounds-row-j c =
    omega (arith, c.requires.i_lt_n, c.loop-j.invariant.0, c.distance_fours-j.auto.row)

pub loop-j-preserved : goal.loop-j-preserved
loop-j-preserved c =
    (simp length-set c.loop-j.invariant.0, λ y r. rw c.distance.ensures (loop-next (c.loop-j.invariant.1 y r) c.loop-j-test.true))

pub bounds-row-i : goal.bounds-row-i
bounds-row-i c =
    omega (arith, c.requires.i_lt_n, c.loop-j.invariant.0, c.distance_fours-j.auto.row)

pub shape_of-row : goal.shape_of-row
shape_of-row c =
    simp length-set (c.loop-j.invariant.0 ∙ c.distance_fours-j.auto.row)

pub returns : goal.returns
returns c =
    ap (λ (p : List Float). set p c.args.i zero64)
    (loop-done (c.loop-j.invariant.1 _ (loop-from _ _ _ _ c.distance_fours-j.ensures.1 _ c.distance_fours-j.ensures.0)) c.loop-j-test.false)
