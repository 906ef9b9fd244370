-- `take_out::pack_affinities` meets its contract: from what its calls promise.
use Rattle.take_out.specs.TakeOut.{affinities_after, indices_after, offsets_after}
use mathlib.Core.Path.{refl, sym, ◌∙◌}
use Rattle.take_out.proofs.pack_affinities.Goals as goal

pub pack_lists-requires : goal.pack_lists-requires
pack_lists-requires c = (
  c.requires.links-most-frames,
  c.requires.links-climb,
  c.requires.links-kept,
  c.requires.links-lie
      (sym c.is_tree.ensures ∙ c.if-is_tree.true),
)

pub shape_of-affinities-then-is_tree : goal.shape_of-affinities-then-is_tree
shape_of-affinities-then-is_tree c =
    c.pack_lists.auto.weights

pub shape_of-indices-then-is_tree : goal.shape_of-indices-then-is_tree
shape_of-indices-then-is_tree c =
    c.pack_lists.auto.indices

pub shape_of-offsets-then-is_tree : goal.shape_of-offsets-then-is_tree
shape_of-offsets-then-is_tree c =
    c.pack_lists.auto.offsets

pub returns-then-is_tree : goal.returns-then-is_tree
unfolding affinities_after indices_after offsets_after
returns-then-is_tree c =
    let e = sym c.is_tree.ensures ∙ c.if-is_tree.true in
    (rw e c.pack_lists.ensures.0, rw e c.pack_lists.ensures.1, rw e c.pack_lists.ensures.2)

pub pack_square-requires : goal.pack_square-requires
pack_square-requires c =
    (c.requires.links-most-frames, c.requires.links-square (sym c.is_tree.ensures ∙ c.if-is_tree.false), c.requires.links-kept)

pub shape_of-affinities : goal.shape_of-affinities
shape_of-affinities c =
    c.pack_square.auto.area

pub returns : goal.returns
unfolding affinities_after indices_after offsets_after
returns c =
    let e = sym c.is_tree.ensures ∙ c.if-is_tree.false in
    (rw e c.pack_square.ensures, rw e refl, rw e refl)
