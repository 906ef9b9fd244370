use mathlib.Core.Path.{◌∙◌}
use lib.ListN.{length-set}
use Rattle.affinity_lists.proofs.Linked.{links-small}
use Rattle.affinity_lists.proofs.Frames.{frames-start, frames_small, frames-room, frames-next, frames-done}
use native.Mathlib.Omega.{arith}
use Rattle.affinity_lists.proofs.symmetrise.Goals as goal

pub total-links-requires : goal.total-links-requires
total-links-requires c = (
  c.requires.frames.0,
  c.requires.indices,
  c.requires.rows,
)

pub overflow_cast-offsets : goal.overflow_cast-offsets
overflow_cast-offsets c =
    omega (
      arith,
      c.total-links.ensures,
      links-small _ _ _ c.requires.rows
          c.requires.frames.0 c.requires.frames.1,
    )

pub offset_bounds-offsets-n : goal.offset_bounds-offsets-n
offset_bounds-offsets-n c =
    omega (arith, c.requires.offsets)

pub bounds-offsets-n : goal.bounds-offsets-n
bounds-offsets-n c =
    omega (arith, c.requires.offsets)

pub top_cursors-requires : goal.top_cursors-requires
top_cursors-requires c = (
  c.requires.frames.0,
  c.requires.frames.1,
  omega (arith, c.requires.indices),
  c.requires.row_indices,
  c.requires.rows,
)

pub loop-i-init : goal.loop-i-init
loop-i-init c =
    frames-start c.requires
    c.total-links.ensures c.top_cursors.auto.row_indices c.top_cursors.ensures

pub fill_list-q-requires : goal.fill_list-q-requires
fill_list-q-requires c =
    frames-room
    c.requires
    c.loop-i.invariant c.loop-i-test.true

pub overflow_cast-offsets-in-loop-i : goal.overflow_cast-offsets-in-loop-i
overflow_cast-offsets-in-loop-i c =
    omega (
      arith,
      c.fill_list-q.ensures.value,
      frames_small c.requires c.loop-i.invariant,
    )

pub offset_bounds-offsets-i : goal.offset_bounds-offsets-i
offset_bounds-offsets-i c =
    omega (
      arith,
      c.loop-i.invariant.lists.within,
      c.requires.frames,
    )

pub bounds-offsets-i : goal.bounds-offsets-i
bounds-offsets-i c =
    omega (
      arith,
      c.loop-i.invariant.lists.within,
      c.loop-i.invariant.lists.size_o,
      c.loop-i.invariant.lists.room_o,
    )

pub loop-i-preserved : goal.loop-i-preserved
loop-i-preserved c =
    frames-next c.requires c.loop-i.invariant c.loop-i-test.true c.fill_list-q.ensures.value c.fill_list-q.ensures.weights_after
    c.fill_list-q.ensures.indices_after c.fill_list-q.auto.row_indices c.fill_list-q.ensures.lowered

pub fill-requires : goal.fill-requires
fill-requires c =
    omega (arith, c.requires.row_values)

pub fill-requires-2 : goal.fill-requires-2
fill-requires-2 c =
    omega (arith, c.loop-i.invariant.room)

pub shape_of-weights : goal.shape_of-weights
shape_of-weights c =
    c.loop-i.invariant.lists.size_w

pub shape_of-indices : goal.shape_of-indices
shape_of-indices c =
    c.loop-i.invariant.lists.size_i

pub shape_of-offsets : goal.shape_of-offsets
shape_of-offsets c =
    c.loop-i.invariant.lists.size_o ∙ length-set c.args.offsets.now _ _

pub shape_of-row_values : goal.shape_of-row_values
shape_of-row_values c =
    c.fill.auto.area

pub shape_of-row_indices : goal.shape_of-row_indices
shape_of-row_indices c =
    c.fill-2.auto.area ∙
    c.loop-i.invariant.names.size ∙
    c.top_cursors.auto.row_indices

pub returns : goal.returns
returns c =
    frames-done c.requires _ (omega (arith, c.loop-i-test.false)) c.top_cursors.ensures c.loop-i.invariant c.fill.ensures c.fill-2.ensures
