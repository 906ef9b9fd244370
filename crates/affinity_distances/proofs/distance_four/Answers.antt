-- `near::distances::distance_four` meets its contract: four distances are written, each in its place. Assumes nothing.
use mathlib.Core.Path.{◌∙◌}
use lib.ListN.{length-set}
use Prim.Native.Nat.{◌+◌}
use native.Mathlib.Omega.{arith}
use Rattle.affinity_distances.proofs.Fours.{apart-is, four-written}
use Rattle.affinity_distances.proofs.distance_four.Goals as goal

pub bounds-row-j-2 : goal.bounds-row-j-2
bounds-row-j-2 c =
    simp length-set (omega (arith, c.requires.f_in_bounds.4))

pub bounds-row-j-3 : goal.bounds-row-j-3
bounds-row-j-3 c =
    simp length-set (omega (arith, c.requires.f_in_bounds.4))

pub bounds-row-j-4 : goal.bounds-row-j-4
bounds-row-j-4 c =
    simp length-set (omega (arith, c.requires.f_in_bounds.4))

pub returns : goal.returns
returns c =
    four-written _ _ _ _ _ _ _ _ _ (c.distance_by.ensures ∙ apart-is _ _ _ c.args.j _ _ _ c.requires.i_value.0 (c.requires.i_value.1 c.args.j (omega arith)) c.dot_four-z.ensures.0)
    (c.distance_by-2.ensures ∙ apart-is _ _ _ (c.args.j + 1) _ _ _ c.requires.i_value.0 (c.requires.i_value.1 (c.args.j + 1) (omega arith)) c.dot_four-z.ensures.1)
    (c.distance_by-3.ensures ∙ apart-is _ _ _ (c.args.j + 2) _ _ _ c.requires.i_value.0 (c.requires.i_value.1 (c.args.j + 2) (omega arith)) c.dot_four-z.ensures.2)
    (c.distance_by-4.ensures ∙ apart-is _ _ _ (c.args.j + 3) _ _ _ c.requires.i_value.0 (c.requires.i_value.1 (c.args.j + 3) (omega arith)) c.dot_four-z.ensures.3)
