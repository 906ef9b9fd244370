-- `affinity::neighbours::neighbor_probabilities` meets its contract: squares, rows, and the lists that become of them. Assumes nothing.
use Rattle.affinity.proofs.Listed.{k-some, k-below, k-room, rows-prepared, lists-done}
use Rattle.affinity_near.proofs.Apart.{squares-known}
use mathlib.Core.Path.{◌∙◌}
use Rattle.affinity.proofs.neighbours.neighbor_probabilities.Goals as goal

pub neighbours-k-requires : goal.neighbours-k-requires
neighbours-k-requires c =
    (c.requires.le_n.2, c.requires.le_n.3, c.requires.le_n.1)

pub square_frames-requires : goal.square_frames-requires
square_frames-requires c =
    (c.requires.f_in_bounds.0, c.requires.f_in_bounds.4)

pub neighbor_rows-requires : goal.neighbor_rows-requires
neighbor_rows-requires c =
    record {
      n_le_most_frames = (
        c.requires.le_n.1,
        k-some c.args.n c.args.perplexity _ c.neighbours-k.ensures,
        k-below c.args.n
            c.args.perplexity _ c.neighbours-k.ensures c.requires.le_n.0,
        c.requires.f_in_bounds.0,
        rw c.square_frames.auto.squares
            c.requires.f_in_bounds.4,
      );
      k_in_bounds = (
        k-room c.args.n c.args.perplexity _ c.neighbours-k.ensures _ c.requires.f_in_bounds.1,
        k-room c.args.n
            c.args.perplexity _ c.neighbours-k.ensures _ c.requires.f_in_bounds.2,
        c.requires.f_in_bounds.5,
        c.requires.f_in_bounds.6,
      );
      squared = rw
          c.square_frames.ensures
          (squares-known c.args.table.now c.args.n c.args.f c.args.squares.now c.requires.f_in_bounds.4);
    }

pub symmetrise-requires : goal.symmetrise-requires
symmetrise-requires c =
    rows-prepared c.args.n c.args.perplexity _ c.neighbours-k.ensures c.args.table.now c.args.f
    c.args.weights.now c.args.indices.now c.args.offsets.now c.args.row_values.now
    c.args.row_indices.now c.neighbor_rows.ensures.weights_after c.neighbor_rows.ensures.indices_after c.requires.le_n.0 c.requires.le_n.1
    c.neighbor_rows.auto.weights c.neighbor_rows.auto.indices c.neighbor_rows.auto.row_values
    c.neighbor_rows.auto.row_indices c.requires.f_in_bounds.1 c.requires.f_in_bounds.2 c.requires.f_in_bounds.3 c.requires.f_in_bounds.5
    c.requires.f_in_bounds.6

pub shape_of-weights : goal.shape_of-weights
shape_of-weights c =
    c.symmetrise.auto.weights ∙ c.neighbor_rows.auto.weights

pub shape_of-indices : goal.shape_of-indices
shape_of-indices c =
    c.symmetrise.auto.indices ∙ c.neighbor_rows.auto.indices

pub shape_of-offsets : goal.shape_of-offsets
shape_of-offsets c =
    c.symmetrise.auto.offsets

pub shape_of-squares : goal.shape_of-squares
shape_of-squares c =
    c.square_frames.auto.squares

pub shape_of-row_values : goal.shape_of-row_values
shape_of-row_values c =
    c.symmetrise.auto.row_values ∙ c.neighbor_rows.auto.row_values

pub shape_of-row_indices : goal.shape_of-row_indices
shape_of-row_indices c =
    c.symmetrise.auto.row_indices ∙ c.neighbor_rows.auto.row_indices

pub returns : goal.returns
returns c =
    record {
      row_indices_after = c.symmetrise.ensures ∙ lists-done c.args.n c.args.perplexity _ c.neighbours-k.ensures c.args.table.now
          c.args.f c.args.weights.now c.args.indices.now c.args.offsets.now c.args.row_values.now
          c.args.row_indices.now c.neighbor_rows.ensures.weights_after c.neighbor_rows.ensures.indices_after c.requires.le_n.0 c.requires.f_in_bounds.5
          c.requires.f_in_bounds.6 c.neighbor_rows.ensures.row_values_after c.neighbor_rows.ensures.row_indices_after;
      squares_after = c.square_frames.ensures;
    }
