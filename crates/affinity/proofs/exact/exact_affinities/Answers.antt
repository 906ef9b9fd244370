-- `affinity::exact::exact_affinities` meets its contract: by `scratch-all`, `exact-after`, `squares-known`.
-- `affinity::exact::exact_affinities` meets its contract: squares, shares by rows, and both shares of each pair together. Assumes nothing.
use lib.ListN.{drop, length, replicate}
use Rattle.affinity.proofs.Shares.{scratch-all}
use mathlib.Core.Path.{subst, ap, ◌∙◌}
use Prim.Native.Nat.{◌*◌, ◌≤◌}
use Rattle.affinity.proofs.Symmetric.{exact-after}
use Rattle.affinity_joins.specs.Joins.{symmetrized}
use Rattle.affinity_near.proofs.Apart.{squares-known}
use Rattle.laws.specs.Area.{zero64}
use lib.Ieee.{Float}
use mathlib.Core.List.{List, ◌++◌}
use Rattle.affinity.proofs.exact.exact_affinities.Goals as goal

pub square_frames-requires : goal.square_frames-requires
square_frames-requires c =
    (c.requires.1, c.requires.3)

pub conditional_probabilities-requires : goal.conditional_probabilities-requires
conditional_probabilities-requires c =
    record {
      n_le_most_frames = (c.requires.0, c.requires.1, rw c.square_frames.auto.squares c.requires.3, c.requires.2, c.requires.4);
      squared = rw
          c.square_frames.ensures
          (squares-known c.args.table.now c.args.n c.args.f c.args.squares.now c.requires.3);
    }

pub symmetrize_probabilities-requires : goal.symmetrize_probabilities-requires
symmetrize_probabilities-requires c =
    (c.requires.0, rw c.conditional_probabilities.auto.affinities c.requires.2)

pub shape_of-affinities : goal.shape_of-affinities
shape_of-affinities c =
    c.symmetrize_probabilities.auto.affinities ∙ c.conditional_probabilities.auto.affinities

pub shape_of-squares : goal.shape_of-squares
shape_of-squares c =
    c.square_frames.auto.squares

pub shape_of-row : goal.shape_of-row
shape_of-row c =
    c.fill.auto.area ∙ c.conditional_probabilities.auto.row

pub returns : goal.returns
returns c =
    record {
      affinities_after = c.symmetrize_probabilities.ensures ∙ ap (symmetrized _) c.conditional_probabilities.ensures.affinities_after ∙ exact-after _ _ _ _ _
          (subst (λ (l : List Float). c.args.n * c.args.n ≤ length l) c.conditional_probabilities.ensures.affinities_after
          (rw c.conditional_probabilities.auto.affinities c.requires.2));
      squares_after = c.square_frames.ensures;
      row_after = c.fill.ensures ∙ ap (λ (l : List Float). replicate c.args.n zero64 ++ l)
          (ap (drop c.args.n) c.conditional_probabilities.ensures.row_after ∙ (scratch-all c.args.table.now c.args.n
          c.args.f c.args.row.now c.requires.4).tail);
    }
