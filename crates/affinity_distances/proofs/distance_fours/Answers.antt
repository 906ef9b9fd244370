use mathlib.Core.Path.{refl, ◌∙◌}
use Prim.Native.Nat.{◌-◌}
use Rattle.laws.specs.Loops.{loop}
use Rattle.laws.proofs.Numbers.{row_in}
use Rattle.affinity_distances.proofs.Fours.{rows_in, loop-many}
use native.Mathlib.Omega.{arith}
use Rattle.affinity_distances.proofs.distance_fours.Goals as goal

pub loop-j-init : goal.loop-j-init
unfolding loop
loop-j-init c =
    (omega arith, refl, refl)

pub distance_four-requires : goal.distance_four-requires
distance_four-requires c =
    record {
      f_in_bounds = (
        row_in _ _ _ _ c.requires.i_lt_n.0 c.requires.i_lt_n.1,
        rows_in _ c.args.n _ _ (omega arith) c.requires.i_lt_n.1,
        omega
            (arith, c.requires.i_lt_n),
        omega (arith, c.requires.i_lt_n),
        omega (arith, c.requires.i_lt_n, c.loop-j.invariant.1),
      );
      i_value = (c.requires.squared _ c.requires.i_lt_n.0, λ t h. c.requires.squared t (omega arith));
    }

pub loop-j-preserved : goal.loop-j-preserved
loop-j-preserved c =
    (omega arith, c.distance_four.auto.row ∙ c.loop-j.invariant.1, c.distance_four.ensures ∙ loop-many _ _ _ _ c.loop-j.invariant.2 4)

pub shape_of-row : goal.shape_of-row
shape_of-row c =
    c.loop-j.invariant.1

pub returns : goal.returns
returns c =
    (c.loop-j.invariant.0, c.loop-j.invariant.2)
