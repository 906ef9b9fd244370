-- `affinity::neighbours::neighbor_row` meets its contract: the k nearest, their shares, and the order by index. Assumes nothing.
use Prim.Native.Nat.{◌^◌}
use lib.Ieee.{in_float}
use lib.Dec.{le→leb}
use native.Mathlib.Nat.{le_trans, le_of_lt}
use mathlib.Core.Path.{◌∙◌}
use Rattle.affinity.proofs.Named.{row_done}
use native.Mathlib.Omega.{arith}
use Rattle.affinity.proofs.neighbours.neighbor_row.Goals as goal

pub nearest_row-requires : goal.nearest_row-requires
nearest_row-requires c =
    record {
      i_lt_n = (c.requires.i_lt_n.0, c.requires.i_lt_n.1, c.requires.i_lt_n.2, c.requires.i_lt_n.4, c.requires.i_lt_n.5);
      k_in_bounds =
          (c.requires.k_in_bounds.0, c.requires.k_in_bounds.2, le_trans (le_of_lt c.requires.i_lt_n.3) c.requires.k_in_bounds.3);
      squared = c.requires.squared;
    }

pub binary_search_sigma-requires : goal.binary_search_sigma-requires
binary_search_sigma-requires c =
    let c = c in (
      rw c.nearest_row.auto.weights c.requires.k_in_bounds.0,
      rw c.nearest_row.auto.row_values
          (le_trans (le_of_lt c.requires.i_lt_n.3) c.requires.k_in_bounds.2),
      le_trans (le_of_lt c.requires.i_lt_n.3) c.requires.i_lt_n.1,
    )

pub int_to_float-n : goal.int_to_float-n
unfolding in_float
int_to_float-n c =
    le→leb c.args.n (2 ^ 53) (omega (arith, c.requires.i_lt_n.1))

pub divide-requires : goal.divide-requires
divide-requires c =
    rw (c.binary_search_sigma.auto.shares, c.nearest_row.auto.row_values)
    (le_trans (le_of_lt c.requires.i_lt_n.3) c.requires.k_in_bounds.2)

pub by_index-requires : goal.by_index-requires
by_index-requires c =
    let c = c in (
      rw (c.divide.auto.shares, c.binary_search_sigma.auto.shares, c.nearest_row.auto.row_values)
          (le_trans (le_of_lt c.requires.i_lt_n.3) c.requires.k_in_bounds.2),
      rw c.nearest_row.auto.row_indices
          (le_trans (le_of_lt c.requires.i_lt_n.3) c.requires.k_in_bounds.3),
      rw c.nearest_row.auto.weights c.requires.k_in_bounds.0,
      c.requires.k_in_bounds.1,
    )

pub shape_of-weights : goal.shape_of-weights
shape_of-weights c =
    c.by_index.auto.weights ∙ c.nearest_row.auto.weights

pub shape_of-indices : goal.shape_of-indices
shape_of-indices c =
    c.by_index.auto.indices

pub shape_of-row_values : goal.shape_of-row_values
shape_of-row_values c =
    c.divide.auto.shares ∙ c.binary_search_sigma.auto.shares ∙ c.nearest_row.auto.row_values

pub shape_of-row_indices : goal.shape_of-row_indices
shape_of-row_indices c =
    c.nearest_row.auto.row_indices

pub returns : goal.returns
returns c =
    let c = c in
    let told = row_done _ _ _ _ _ _ c.requires.i_lt_n.0 c.requires.i_lt_n.3 _ _ _ _ c.requires.k_in_bounds.2 c.nearest_row.ensures.row_values_after
    c.nearest_row.auto.row_values c.nearest_row.ensures.weights_after c.nearest_row.ensures.row_indices_after c.binary_search_sigma.ensures
    c.binary_search_sigma.auto.shares c.divide.ensures c.divide.auto.shares c.by_index.ensures.weights_after c.by_index.ensures.indices_after in
    record { weights_after = told.0; indices_after = told.1.0; row_values_after = told.1.1.0; row_indices_after = told.1.1.1 }
