-- `replay_affinity::joins::join_right` meets its contract: from what its calls promise.
use Rattle.std.proofs.Common.{arith}
use Rattle.replay_affinity.proofs.joins.join_right.Goals as goal

pub rows_right-requires : goal.rows_right-requires
rows_right-requires c =
    omega (arith, c.requires.k_in_bounds.1)

pub symmetrise-requires : goal.symmetrise-requires
symmetrise-requires c =
    record {
      frames = (omega (arith, c.requires.a_bound.1), c.requires.a_bound.2);
      weights = c.requires.k_in_bounds.0;
      indices = c.requires.k_in_bounds.1;
      offsets = c.requires.k_in_bounds.2;
      row_values = c.requires.k_in_bounds.3;
      row_indices = c.requires.k_in_bounds.4;
      rows = c.rows_right.ensures c.if-not-rows_right.false;
    }

pub same_offsets-requires : goal.same_offsets-requires
same_offsets-requires c =
    (omega (arith, c.symmetrise.auto.offsets, c.requires.k_in_bounds.2), omega (arith, c.requires.a_bound.1), omega (arith, c.requires.a_bound.0))

pub same_links-requires : goal.same_links-requires
same_links-requires c = (
  omega (arith, c.requires.a_bound.0, c.requires.a_bound.1),
  c.requires.a_bound.3,
  omega (arith, c.symmetrise.auto.weights, c.requires.a_bound.4),
  omega
      (arith, c.symmetrise.auto.indices, c.requires.a_bound.5),
)
