-- `sigma::weights::weigh_block` meets its contract: the four passes, or single weights. Assumes nothing.
use mathlib.Core.Path.{refl, sym, ◌∙◌}
use lib.ListN.{replicate}
use Rattle.laws.specs.Area.{zero64}
use Rattle.affinity_sigma.proofs.Blocks.{block-few, block-weighed}
use Rattle.affinity_sigma.proofs.weights.weigh_block.Goals as goal

pub returns-then-not-all_in_reach : goal.returns-then-not-all_in_reach
returns-then-not-all_in_reach c =
    c.weigh_singly.ensures

pub all_halvings-requires : goal.all_halvings-requires
all_halvings-requires c =
    sym c.all_in_reach.ensures ∙ c.if-not-all_in_reach.false

pub all_series-requires : goal.all_series-requires
all_series-requires c =
    block-few c.args.distances.now c.args.j c.args.c c.args.sigma (replicate 32 zero64) _ (replicate 32 0) _
    c.requires.2 refl refl c.exponents.ensures c.all_halvings.ensures (sym c.all_in_reach.ensures ∙ c.if-not-all_in_reach.false)

pub lay_halved-requires : goal.lay_halved-requires
lay_halved-requires c = (
  c.requires.0,
  c.requires.1,
  c.requires.2,
  block-few c.args.distances.now c.args.j c.args.c
      c.args.sigma (replicate 32 zero64) _ (replicate 32 0) _ c.requires.2 refl refl c.exponents.ensures c.all_halvings.ensures
      (sym c.all_in_reach.ensures ∙ c.if-not-all_in_reach.false),
)

pub returns : goal.returns
returns c =
    c.lay_halved.ensures ∙ block-weighed c.args.distances.now c.args.j c.args.c c.args.sigma
    (replicate 32 zero64) _ (replicate 32 0) _ c.requires.2 refl refl c.exponents.ensures c.all_halvings.ensures
    (sym c.all_in_reach.ensures ∙ c.if-not-all_in_reach.false) (replicate 32 zero64) _ refl c.all_series.ensures _
