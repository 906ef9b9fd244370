-- `divergence_sums::kl_together` meets its contract: by `written-size`, `in_parts`.
use mathlib.Core.Path.{◌∙◌}
use Prim.Native.Nat.{◌+◌}
use Rattle.laws.proofs.Written.{written-size}
use Rattle.divergence_sums.specs.Sums.{kl_share}
use Rattle.divergence_sums.proofs.Parts.{in_parts}
use Rattle.divergence_sums.proofs.kl_together.Goals as goal

pub kl_pairs-requires : goal.kl_pairs-requires
kl_pairs-requires c = (
  c.requires.0,
  c.requires.1,
  c.requires.4,
  rw
      (c.lay_shares.ensures, written-size (λ k. kl_share c.args.pairs.map.positions.now c.args.pairs.total c.args.pairs.map.c c.args.i (c.args.j + k)) c.args.m)
      c.requires.2,
)

pub returns : goal.returns
returns c =
    c.kl_pairs.ensures ∙ rw c.lay_shares.ensures
    (in_parts c.args.pairs.map.positions.now c.args.pairs.affinities.now c.args.pairs.exaggeration c.args.pairs.total c.args.pairs.map.n c.args.pairs.map.c c.args.i c.args.j
    c.args.m _ c.args.sum c.requires.2)
