-- `divergence::figure` meets its contract: from what its calls promise.
use mathlib.Core.Path.{sym, ◌∙◌}
use Rattle.divergence.specs.Divergence.{figure_of}
use Rattle.divergence.proofs.figure.Goals as goal

pub normaliser-z-requires : goal.normaliser-z-requires
normaliser-z-requires c =
    (c.requires.total-room.settings-good.c-most, c.requires.total-room.forces-long)

pub barnes_hut_kl-requires : goal.barnes_hut_kl-requires
barnes_hut_kl-requires c =
    record { c_in_bounds = c.requires.copy-long; all_linked = c.requires.lists-within (sym c.is_tree.ensures ∙ c.if-is_tree.true) }

pub returns-then-is_tree : goal.returns-then-is_tree
unfolding figure_of
returns-then-is_tree c =
    rw (sym c.is_tree.ensures ∙ c.if-is_tree.true, c.barnes_hut_kl.ensures, c.normaliser-z.ensures, c.last_exaggeration-e.ensures)

pub total-t-requires : goal.total-t-requires
total-t-requires c =
    c.requires.total-room

pub kl_divergence-requires : goal.kl_divergence-requires
kl_divergence-requires c =
    (c.requires.copy-long, c.requires.exact-long (sym c.is_tree.ensures ∙ c.if-is_tree.false))

pub returns : goal.returns
unfolding figure_of
returns c =
    rw (sym c.is_tree.ensures ∙ c.if-is_tree.false, c.kl_divergence.ensures, c.total-t.ensures, c.last_exaggeration-e.ensures)
