-- `prepare::route` meets its contract: by `routed-tree`, `routed-exact`, `above-zero`.
use Rattle.prepare.proofs.Laws.{routed-tree, routed-exact}
use Rattle.run_record.proofs.Laws.{above-zero}
use mathlib.Core.Path.{sym, ◌∙◌}
use Rattle.prepare.proofs.route.Goals as goal

pub neighbor_probabilities-requires : goal.neighbor_probabilities-requires
neighbor_probabilities-requires c =
    record {
      le_n = (
        c.requires.settings-good.n-some,
        c.requires.settings-good.n-most,
        above-zero _ c.requires.settings-good.perplexity-positive,
        c.requires.settings-good.perplexity-below,
      );
      f_in_bounds = (
        c.requires.table-in,
        c.requires.weights-in (sym c.is_tree.ensures ∙ c.if-is_tree.true),
        c.requires.indices-in
            (sym c.is_tree.ensures ∙ c.if-is_tree.true),
        c.requires.offsets-in (sym c.is_tree.ensures ∙ c.if-is_tree.true),
        c.requires.squares-in,
        c.requires.values-in,
        c.requires.places-in,
      );
    }

pub returns-then-is_tree : goal.returns-then-is_tree
returns-then-is_tree c =
    record {
      row_indices_after = c.neighbor_probabilities.ensures.row_indices_after ∙ routed-tree _ _ _ (sym c.is_tree.ensures ∙ c.if-is_tree.true);
      squares_after = c.neighbor_probabilities.ensures.squares_after;
    }

pub exact_affinities-requires : goal.exact_affinities-requires
exact_affinities-requires c = (
  c.requires.settings-good.n-most,
  c.requires.table-in,
  c.requires.square-in (sym c.is_tree.ensures ∙ c.if-is_tree.false),
  c.requires.squares-in,
  c.requires.values-in,
)

pub fill-requires : goal.fill-requires
fill-requires c =
    c.requires.places-in

pub returns : goal.returns
returns c =
    record {
      row_indices_after = routed-exact _ _ _ (sym c.is_tree.ensures ∙ c.if-is_tree.false) c.exact_affinities.ensures.affinities_after c.exact_affinities.ensures.row_after
          c.fill.ensures;
      squares_after = c.exact_affinities.ensures.squares_after;
    }
