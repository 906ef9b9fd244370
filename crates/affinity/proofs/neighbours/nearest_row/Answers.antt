-- `affinity::neighbours::nearest_row` meets its contract: the distances of a frame, and the k nearest by them. Assumes nothing.
use Rattle.affinity_near.proofs.Apart.{row_plain}
use Rattle.affinity.proofs.Named.{nearest-done}
use Rattle.affinity.proofs.neighbours.nearest_row.Goals as goal

pub distance_row-requires : goal.distance_row-requires
distance_row-requires c =
    record { i_lt_n = (c.requires.i_lt_n.0, c.requires.i_lt_n.3, c.requires.i_lt_n.4, c.requires.k_in_bounds.1); squared = c.requires.squared }

pub nearest-requires : goal.nearest-requires
nearest-requires c =
    record {
      n_le_most_frames = (
        c.requires.i_lt_n.1,
        rw c.distance_row.auto.row c.requires.k_in_bounds.1,
        c.requires.k_in_bounds.0,
        c.requires.k_in_bounds.2,
        c.requires.i_lt_n.2,
      );
      plains = rw c.distance_row.ensures
          (row_plain c.args.table.now c.args.n c.args.f c.args.i c.args.row_values.now
          c.requires.k_in_bounds.1);
    }

pub shape_of-weights : goal.shape_of-weights
shape_of-weights c =
    c.nearest.auto.row_values

pub shape_of-row_values : goal.shape_of-row_values
shape_of-row_values c =
    c.distance_row.auto.row

pub shape_of-row_indices : goal.shape_of-row_indices
shape_of-row_indices c =
    c.nearest.auto.row_indices

pub returns : goal.returns
returns c =
    let c = c in
    let told = nearest-done c.args.table.now c.args.n c.args.f c.args.k c.args.i c.args.row_values.now c.args.weights.now c.args.row_indices.now c.requires.k_in_bounds.1
    c.distance_row.ensures c.nearest.ensures.row_values_after c.nearest.ensures.row_indices_after in
    record { weights_after = told.0; row_values_after = told.1.0; row_indices_after = told.1.1 }
