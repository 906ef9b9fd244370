-- `blind::looks::look_all` meets its contract: by `all_seen`, `all-tails`.
use Rattle.blind.proofs.Laws.{all_seen, all-tails}
use Rattle.blind.proofs.looks.look_all.Goals as goal

pub distance_row-requires : goal.distance_row-requires
distance_row-requires c =
    record { i_lt_n = (c.requires.i_lt_n.0, c.requires.i_lt_n.2, c.requires.i_lt_n.3, c.requires.n_in_bounds.0); squared = c.requires.squared }

pub all_at_zero-alone-requires : goal.all_at_zero-alone-requires
all_at_zero-alone-requires c =
    rw c.distance_row.auto.row c.requires.n_in_bounds.0

pub search_sigma-sum-requires : goal.search_sigma-sum-requires
search_sigma-sum-requires c =
    (rw c.distance_row.auto.row c.requires.n_in_bounds.0, c.requires.n_in_bounds.1, c.requires.i_lt_n.1)

pub shape_of-row_values : goal.shape_of-row_values
shape_of-row_values c =
    c.distance_row.auto.row

pub shape_of-row_shares : goal.shape_of-row_shares
shape_of-row_shares c =
    c.search_sigma-sum.auto.shares

pub returns : goal.returns
returns c =
    record {
      blind_value = all_seen _ _ _ _ c.requires.i_lt_n.0 _ _ _ c.requires.n_in_bounds.0 c.requires.n_in_bounds.1 c.distance_row.ensures
          c.search_sigma-sum.ensures.value c.too_small-blind.ensures c.all_at_zero-alone.ensures;
      kept_past = all-tails _ _ _ _ c.requires.i_lt_n.0 _ _ _ c.requires.n_in_bounds.0
          c.requires.n_in_bounds.1 c.distance_row.ensures c.search_sigma-sum.auto.shares c.search_sigma-sum.ensures.shares_after;
    }
