-- `take_left::is_crowded` meets its contract: by `exact-not-crowded`, `few-not-crowded`, `crowded-counted`.
use Rattle.take_left.proofs.Judged.{exact-not-crowded, few-not-crowded, crowded-counted}
use mathlib.Core.Path.{refl, sym, ◌∙◌}
use Rattle.laws.specs.Area.{num}
use native.Mathlib.Omega.{arith}
use Rattle.take_left.proofs.is_crowded.Goals as goal

pub returns-then-not-is_tree : goal.returns-then-not-is_tree
returns-then-not-is_tree c =
    exact-not-crowded _ _ _ _ (sym c.is_tree.ensures ∙ c.if-not-is_tree.true)

pub sizes_of-most-requires : goal.sizes_of-most-requires
sizes_of-most-requires c =
    c.requires.thinned-good

pub offset_bounds-offsets-n : goal.offset_bounds-offsets-n
offset_bounds-offsets-n c =
    omega (arith, (c.requires.counted-lie (sym c.is_tree.ensures ∙ c.if-not-is_tree.false)).offsets-long)

pub bounds-offsets-n : goal.bounds-offsets-n
bounds-offsets-n c =
    omega (arith, (c.requires.counted-lie (sym c.is_tree.ensures ∙ c.if-not-is_tree.false)).offsets-long)

pub returns-then-offsets-n : goal.returns-then-offsets-n
returns-then-offsets-n c =
    few-not-crowded c.requires (sym c.is_tree.ensures ∙ c.if-not-is_tree.false) c.sizes_of-most.result c.sizes_of-most.ensures
    (num c.args.offsets.now c.args.s.n) refl c.if-offsets-n.true

pub links_left-requires : goal.links_left-requires
links_left-requires c = (
  c.requires.samples-most,
  c.requires.gone-rises,
  c.requires.counted-lie (sym c.is_tree.ensures ∙ c.if-not-is_tree.false),
  c.requires.counted-name (sym c.is_tree.ensures ∙ c.if-not-is_tree.false),
)

pub returns : goal.returns
returns c =
    crowded-counted c.requires (sym c.is_tree.ensures ∙ c.if-not-is_tree.false) c.sizes_of-most.result c.sizes_of-most.ensures
    c.links_left.result c.links_left.ensures
