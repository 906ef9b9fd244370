-- `divergence_sums::kl_link` meets its contract: by `row_in`.
use Rattle.laws.proofs.Numbers.{row_in}
use Rattle.divergence_sums.specs.Sums.{kl_link}
use Rattle.divergence_sums.proofs.kl_link.Goals as goal

pub apart-requires : goal.apart-requires
apart-requires c = (
  row_in _ c.args.map.n c.args.map.c _ c.requires.0 c.requires.1,
  row_in _ c.args.map.n c.args.map.c _ c.requires.4 c.requires.1,
)

pub returns : goal.returns
unfolding kl_link
returns c =
    rw (c.kl_term.ensures, c.apart.ensures)
