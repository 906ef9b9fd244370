-- `unpark::unpark` meets its contract: by `room-is`, `out-bad`, `out-short`, `out-read`.
use Rattle.unpark.proofs.Outcomes.{said, room-is, out-bad, out-short, out-read}
use borrow.Author.Tests.{not-true, not-false}
use mathlib.Core.Bool.{true}
use mathlib.Core.Path.{sym, ◌∙◌}
use Rattle.parked.specs.Parked.{stored_of}
use Rattle.unpark.proofs.unpark.Goals as goal

pub returns-then-not-v : goal.returns-then-not-v
returns-then-not-v c =
    out-bad _ ((stored_of c.args.words.now c.args.positions.now c.args.increments.now c.args.gains.now
    c.args.affinities.now c.args.indices.now c.args.offsets.now)) c.args.forces.now _ _ c.judge-v.ensures
    (not-true _ c.if-not-v.true)

pub has_room-requires : goal.has_room-requires
has_room-requires c =
    said _ _ c.judge-v.ensures true (not-false _ c.if-not-v.false)

pub returns-then-not-has_room : goal.returns-then-not-has_room
returns-then-not-has_room c =
    out-short _ ((stored_of c.args.words.now c.args.positions.now c.args.increments.now c.args.gains.now
    c.args.affinities.now c.args.indices.now c.args.offsets.now)) c.args.forces.now _ _ c.judge-v.ensures
    (not-false _ c.if-not-v.false)
    (room-is _ ((stored_of c.args.words.now c.args.positions.now c.args.increments.now c.args.gains.now
    c.args.affinities.now c.args.indices.now c.args.offsets.now)) _ _ ∙ sym c.has_room.ensures ∙ c.if-not-has_room.true)

pub read_in-requires : goal.read_in-requires
read_in-requires c = (
  said _ _ c.judge-v.ensures true (not-false _ c.if-not-v.false),
  (room-is _ ((stored_of c.args.words.now c.args.positions.now c.args.increments.now c.args.gains.now
      c.args.affinities.now c.args.indices.now c.args.offsets.now)) _ _ ∙ sym c.has_room.ensures ∙ c.if-not-has_room.false),
)

pub shape_of-words : goal.shape_of-words
shape_of-words c =
    c.read_in.auto.words

pub shape_of-positions : goal.shape_of-positions
shape_of-positions c =
    c.read_in.auto.positions

pub shape_of-increments : goal.shape_of-increments
shape_of-increments c =
    c.read_in.auto.increments

pub shape_of-gains : goal.shape_of-gains
shape_of-gains c =
    c.read_in.auto.gains

pub shape_of-affinities : goal.shape_of-affinities
shape_of-affinities c =
    c.read_in.auto.affinities

pub shape_of-indices : goal.shape_of-indices
shape_of-indices c =
    c.read_in.auto.indices

pub shape_of-offsets : goal.shape_of-offsets
shape_of-offsets c =
    c.read_in.auto.offsets

pub shape_of-forces : goal.shape_of-forces
shape_of-forces c =
    c.read_in.auto.forces

pub returns : goal.returns
returns c =
    out-read _ ((stored_of c.args.words.now c.args.positions.now c.args.increments.now c.args.gains.now
    c.args.affinities.now c.args.indices.now c.args.offsets.now)) c.args.forces.now _ _ c.judge-v.ensures
    _ _ (not-false _ c.if-not-v.false)
    ((room-is _ ((stored_of c.args.words.now c.args.positions.now c.args.increments.now c.args.gains.now
    c.args.affinities.now c.args.indices.now c.args.offsets.now)) _ _ ∙ sym c.has_room.ensures ∙ c.if-not-has_room.false)) c.read_in.ensures.offsets_after c.read_in.ensures.forces_after
