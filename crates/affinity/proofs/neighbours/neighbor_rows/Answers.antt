use Rattle.laws.proofs.Loops.{loop-start, loop-next, loop-done}
use mathlib.Core.Path.{refl, ◌∙◌}
use Prim.Native.Nat.{◌-◌, ◌+◌, ◌*◌}
use borrow.Rule.Slice.PartMut.{mid_len}
use Rattle.affinity.proofs.Named.{lays-row}
use Rattle.affinity_near.specs.Near.{Pair}
use Rattle.laws.proofs.Numbers.{row_in}
use Rattle.laws.proofs.Laid.{lays-start, lays-done}
use native.Mathlib.Omega.{arith}
use Rattle.affinity.proofs.neighbours.neighbor_rows.Goals as goal

pub loop-i-init : goal.loop-i-init
loop-i-init c =
    (lays-start _ _, lays-start _ _, refl, loop-start _ _ _, refl, loop-start _ _ _)

pub overflow_mul-a : goal.overflow_mul-a
overflow_mul-a c =
    omega (arith, (row_in c.loop-i.i c.args.n c.args.k _ c.loop-i-test.true c.requires.k_in_bounds.0))

pub overflow_add-e : goal.overflow_add-e
overflow_add-e c =
    omega (arith, (row_in c.loop-i.i c.args.n c.args.k _ c.loop-i-test.true c.requires.k_in_bounds.0))

pub offset_bounds-weights-a : goal.offset_bounds-weights-a
offset_bounds-weights-a c =
    omega (arith, (row_in c.loop-i.i c.args.n c.args.k _ c.loop-i-test.true c.requires.k_in_bounds.0))

pub slice_bounds-neighbor_row-count : goal.slice_bounds-neighbor_row-count
slice_bounds-neighbor_row-count c =
    omega arith

pub offset_bounds-indices-a : goal.offset_bounds-indices-a
offset_bounds-indices-a c =
    omega (arith, (row_in c.loop-i.i c.args.n c.args.k _ c.loop-i-test.true c.requires.k_in_bounds.0))

pub slice_bounds-neighbor_row-count-in-loop-i : goal.slice_bounds-neighbor_row-count-in-loop-i
slice_bounds-neighbor_row-count-in-loop-i c =
    omega arith

pub neighbor_row-requires : goal.neighbor_row-requires
neighbor_row-requires c =
    record {
      i_lt_n = (c.loop-i-test.true, c.requires.n_le_most_frames.0, c.requires.n_le_most_frames.1, c.requires.n_le_most_frames.2, c.requires.n_le_most_frames.3, c.requires.n_le_most_frames.4);
      k_in_bounds = (
        rw (mid_len (c.loop-i.i * c.args.k) (c.loop-i.i * c.args.k + c.args.k) c.loop-i.weights
            (rw c.loop-i.invariant.0.size (row_in c.loop-i.i c.args.n c.args.k _ c.loop-i-test.true c.requires.k_in_bounds.0)))
            (omega arith),
        rw (mid_len (c.loop-i.i * c.args.k) (c.loop-i.i * c.args.k + c.args.k) c.loop-i.indices
            (rw c.loop-i.invariant.1.size (row_in c.loop-i.i c.args.n c.args.k _ c.loop-i-test.true c.requires.k_in_bounds.1)))
            (omega arith),
        rw c.loop-i.invariant.2 c.requires.k_in_bounds.2,
        rw c.loop-i.invariant.4 c.requires.k_in_bounds.3,
      );
      squared = c.requires.squared;
    }

pub loop-i-smaller : goal.loop-i-smaller
loop-i-smaller c =
    omega (arith, c.loop-i-test.true)

pub loop-i-preserved : goal.loop-i-preserved
loop-i-preserved c = (
  lays-row (λ (x : Pair). x.value) _ _ _ _ _ c.requires.n_le_most_frames.2
      (c.loop-i.i * c.args.k + c.args.k - c.loop-i.i * c.args.k) (omega arith) c.loop-i-test.true c.requires.k_in_bounds.0
      c.neighbor_row.auto.weights c.neighbor_row.ensures.weights_after c.loop-i.invariant.0,
  lays-row (λ (x : Pair). x.index) _ _ _ _ _
      c.requires.n_le_most_frames.2 (c.loop-i.i * c.args.k + c.args.k - c.loop-i.i * c.args.k) (omega arith) c.loop-i-test.true
      c.requires.k_in_bounds.1 c.neighbor_row.auto.indices c.neighbor_row.ensures.indices_after c.loop-i.invariant.1,
  c.neighbor_row.auto.row_values ∙ c.loop-i.invariant.2,
  rw c.neighbor_row.ensures.row_values_after
      (loop-next c.loop-i.invariant.3 c.loop-i-test.true),
  c.neighbor_row.auto.row_indices ∙ c.loop-i.invariant.4,
  rw
      c.neighbor_row.ensures.row_indices_after (loop-next c.loop-i.invariant.5 c.loop-i-test.true),
)

pub shape_of-weights : goal.shape_of-weights
shape_of-weights c =
    c.loop-i.invariant.0.size

pub shape_of-indices : goal.shape_of-indices
shape_of-indices c =
    c.loop-i.invariant.1.size

pub shape_of-row_values : goal.shape_of-row_values
shape_of-row_values c =
    c.loop-i.invariant.2

pub shape_of-row_indices : goal.shape_of-row_indices
shape_of-row_indices c =
    c.loop-i.invariant.4

pub returns : goal.returns
returns c =
    record {
      weights_after = lays-done _ _ c.loop-i.invariant.0 c.loop-i-test.false;
      indices_after = lays-done _ _ c.loop-i.invariant.1 c.loop-i-test.false;
      row_values_after = loop-done c.loop-i.invariant.3 c.loop-i-test.false;
      row_indices_after = loop-done c.loop-i.invariant.5 c.loop-i-test.false;
    }
