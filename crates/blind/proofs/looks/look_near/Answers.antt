-- `blind::looks::look_near` meets its contract: by `near-seen`, `near-tails`, `near-places`.
use mathlib.Core.Path.{◌∙◌}
use native.Mathlib.Nat.{le_trans, le_of_lt}
use Rattle.blind.proofs.Laws.{near-seen, near-tails, near-places}
use Rattle.blind.proofs.looks.look_near.Goals as goal

pub nearest_row-requires : goal.nearest_row-requires
nearest_row-requires c =
    record {
      i_lt_n = (c.requires.i_lt_n.0, c.requires.i_lt_n.1, c.requires.i_lt_n.2, c.requires.i_lt_n.4, c.requires.i_lt_n.5);
      k_in_bounds = (
        le_trans (le_of_lt c.requires.i_lt_n.3) c.requires.n_in_bounds.1,
        c.requires.n_in_bounds.0,
        le_trans (le_of_lt c.requires.i_lt_n.3)
            c.requires.n_in_bounds.2,
      );
      squared = c.requires.squared;
    }

pub all_at_zero-alone-requires : goal.all_at_zero-alone-requires
all_at_zero-alone-requires c =
    rw c.nearest_row.auto.weights (le_trans (le_of_lt c.requires.i_lt_n.3) c.requires.n_in_bounds.1)

pub search_sigma-sum-requires : goal.search_sigma-sum-requires
search_sigma-sum-requires c = (
  rw c.nearest_row.auto.weights (le_trans (le_of_lt c.requires.i_lt_n.3) c.requires.n_in_bounds.1),
  rw
      c.nearest_row.auto.row_values (le_trans (le_of_lt c.requires.i_lt_n.3) c.requires.n_in_bounds.0),
  le_trans
      (le_of_lt c.requires.i_lt_n.3) c.requires.i_lt_n.1,
)

pub shape_of-row_values : goal.shape_of-row_values
shape_of-row_values c =
    c.search_sigma-sum.auto.shares ∙ c.nearest_row.auto.row_values

pub shape_of-row_shares : goal.shape_of-row_shares
shape_of-row_shares c =
    c.nearest_row.auto.weights

pub shape_of-row_indices : goal.shape_of-row_indices
shape_of-row_indices c =
    c.nearest_row.auto.row_indices

pub returns : goal.returns
returns c =
    let tails = near-tails _ _ _ _ c.requires.i_lt_n.0 _ _ c.requires.i_lt_n.3 _ _ c.requires.n_in_bounds.0 c.nearest_row.ensures.row_values_after
    c.nearest_row.ensures.weights_after c.search_sigma-sum.auto.shares c.search_sigma-sum.ensures.shares_after in
    record {
      blind_value = near-seen _ _ _ _ c.requires.i_lt_n.0 _ _ c.requires.i_lt_n.3 _ _ c.requires.n_in_bounds.0 c.nearest_row.ensures.row_values_after
          c.nearest_row.ensures.weights_after c.search_sigma-sum.ensures.value c.too_small-blind.ensures c.all_at_zero-alone.ensures;
      kept_past =
          (tails.0, tails.1, near-places _ _ _ _ c.requires.i_lt_n.0 c.args.perplexity _ c.requires.i_lt_n.3 c.nearest_row.ensures.row_indices_after);
    }
