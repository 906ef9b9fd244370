-- `divergence_sums::kl_list` meets its contract: from what its calls promise.
use Rattle.divergence_sums.specs.Sums.{kl_list}
use native.Mathlib.Omega.{arith}
use Rattle.divergence_sums.proofs.kl_list.Goals as goal

pub kl_links-requires : goal.kl_links-requires
kl_links-requires c =
    record {
      i_lt_n = (
        c.requires.i_lt_n.0,
        c.requires.i_lt_n.1,
        omega (arith, c.requires.linked.rises, c.requires.linked.weights),
        omega
            (arith, c.requires.linked.rises, c.requires.linked.indices),
      );
      below = λ k l. c.requires.linked.frames k (omega (arith, l, c.requires.linked.rises));
    }

pub returns : goal.returns
unfolding kl_list
returns c =
    rw c.kl_links.ensures
