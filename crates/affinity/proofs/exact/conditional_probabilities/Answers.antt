use Rattle.laws.proofs.Loops.{loop-start, loop-next, loop-done}
use mathlib.Core.Path.{refl, ◌∙◌}
use Rattle.laws.proofs.Numbers.{row_in}
use Rattle.laws.proofs.Laid.{lays-start, lays-next, lays-done}
use Rattle.affinity.proofs.exact.conditional_probabilities.Goals as goal

pub loop-i-init : goal.loop-i-init
loop-i-init c =
    (refl, loop-start _ _ _, lays-start _ _)

pub conditional_row-requires : goal.conditional_row-requires
conditional_row-requires c =
    record {
      i_lt_n = (
        c.loop-i-test.true,
        c.requires.n_le_most_frames.0,
        c.requires.n_le_most_frames.1,
        c.requires.n_le_most_frames.2,
        rw c.loop-i.invariant.2.size
            (row_in _ _ _ _ c.loop-i-test.true c.requires.n_le_most_frames.3),
        rw c.loop-i.invariant.0 c.requires.n_le_most_frames.4,
      );
      squared = c.requires.squared;
    }

pub loop-i-preserved : goal.loop-i-preserved
loop-i-preserved c = (
  c.conditional_row.auto.row ∙ c.loop-i.invariant.0,
  rw c.conditional_row.ensures.row_after
      (loop-next c.loop-i.invariant.1 c.loop-i-test.true),
  lays-next _ _ c.loop-i.invariant.2 c.loop-i-test.true c.requires.n_le_most_frames.3
      c.conditional_row.auto.affinities c.conditional_row.ensures.affinities_after,
)

pub shape_of-affinities : goal.shape_of-affinities
shape_of-affinities c =
    c.loop-i.invariant.2.size

pub shape_of-row : goal.shape_of-row
shape_of-row c =
    c.loop-i.invariant.0

pub returns : goal.returns
returns c =
    record { affinities_after = lays-done _ _ c.loop-i.invariant.2 c.loop-i-test.false; row_after = loop-done c.loop-i.invariant.1 c.loop-i-test.false }
