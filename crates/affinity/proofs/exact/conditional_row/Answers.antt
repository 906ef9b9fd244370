-- `affinity::exact::conditional_row` meets its contract: the distances of frame i, then its shares in the part of the affinities that is lent. Assumes nothing.
use Prim.Native.Nat.{◌+◌, ◌-◌, ◌*◌}
use Rattle.affinity.proofs.Shares.{conditionals-put}
use native.Mathlib.Omega.{arith}
use Rattle.affinity.proofs.exact.conditional_row.Goals as goal

pub returns : goal.returns
returns c =
    record {
      affinities_after = conditionals-put _ _ _ _ c.requires.i_lt_n.0 _ _ _ _ _
          (c.args.i * c.args.n + c.args.n - c.args.i * c.args.n) (omega arith) c.requires.i_lt_n.5
          c.requires.i_lt_n.4 c.distance_row.ensures c.binary_search_sigma.auto.shares c.binary_search_sigma.ensures;
      row_after = c.distance_row.ensures;
    }
