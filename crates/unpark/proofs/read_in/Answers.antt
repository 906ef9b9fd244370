-- `unpark::read_in` meets its contract: by `run-words-long`, `areas-long`, `stored_is`, `cells-room`, `lists-room`, `read-settings-good` and others.
use Rattle.unpark.proofs.Outcomes.{run-words-long, areas-long, stored_is}
use Rattle.unpark.proofs.Spans.{cells-room, lists-room}
use Rattle.unpark.proofs.Settled.{read-settings-good}
use Rattle.parked_file.proofs.Stands.{head-good, head-long, parked-head}
use Rattle.run_record.specs.Record.{sizes_of}
use mathlib.Core.Path.{refl}
use Rattle.parked.specs.Parked.{stored_of}
use Rattle.unpark.proofs.read_in.Goals as goal

pub layout_read-l-requires : goal.layout_read-l-requires
layout_read-l-requires c =
    parked-head _ c.requires.0

pub settings_read-s-requires : goal.settings_read-s-requires
settings_read-s-requires c =
    head-long _ (parked-head _ c.requires.0)

pub sizes_of-z-requires : goal.sizes_of-z-requires
sizes_of-z-requires c =
    rw c.settings_read-s.ensures (read-settings-good _ (head-good _ (parked-head _ c.requires.0)))

pub put_record-requires : goal.put_record-requires
put_record-requires c = (
  run-words-long _ ((stored_of c.args.words.now c.args.positions.now c.args.increments.now
      c.args.gains.now c.args.affinities.now c.args.indices.now c.args.offsets.now)) _ _ c.requires.1,
  c.requires.0,
)

pub fetch_state-requires : goal.fetch_state-requires
fetch_state-requires c =
    rw c.layout_read-l.ensures (
      c.requires.0,
      refl,
      (cells-room _ c.requires.0
          ((areas-long _ ((stored_of c.args.words.now c.args.positions.now c.args.increments.now c.args.gains.now
          c.args.affinities.now c.args.indices.now c.args.offsets.now)) _ _ c.requires.1))).0,
      (cells-room _ c.requires.0
          ((areas-long _ ((stored_of c.args.words.now c.args.positions.now c.args.increments.now c.args.gains.now
          c.args.affinities.now c.args.indices.now c.args.offsets.now)) _ _ c.requires.1))).1,
      (cells-room _ c.requires.0
          ((areas-long _ ((stored_of c.args.words.now c.args.positions.now c.args.increments.now c.args.gains.now
          c.args.affinities.now c.args.indices.now c.args.offsets.now)) _ _ c.requires.1))).2,
    )

pub fetch_lists-requires : goal.fetch_lists-requires
fetch_lists-requires c =
    rw c.layout_read-l.ensures (
      c.requires.0,
      refl,
      lists-room _ c.requires.0
          ((areas-long _ ((stored_of c.args.words.now c.args.positions.now c.args.increments.now c.args.gains.now
          c.args.affinities.now c.args.indices.now c.args.offsets.now)) _ _ c.requires.1)),
    )

pub fill-requires : goal.fill-requires
unfolding sizes_of
fill-requires c =
    rw (c.sizes_of-z.ensures, c.settings_read-s.ensures)
    (areas-long _ ((stored_of c.args.words.now c.args.positions.now c.args.increments.now c.args.gains.now
    c.args.affinities.now c.args.indices.now c.args.offsets.now)) _ _ c.requires.1).forces-long

pub shape_of-words : goal.shape_of-words
shape_of-words c =
    c.put_record.auto.words

pub shape_of-positions : goal.shape_of-positions
shape_of-positions c =
    c.fetch_state.auto.positions

pub shape_of-increments : goal.shape_of-increments
shape_of-increments c =
    c.fetch_state.auto.increments

pub shape_of-gains : goal.shape_of-gains
shape_of-gains c =
    c.fetch_state.auto.gains

pub shape_of-affinities : goal.shape_of-affinities
shape_of-affinities c =
    c.fetch_lists.auto.affinities

pub shape_of-indices : goal.shape_of-indices
shape_of-indices c =
    c.fetch_lists.auto.indices

pub shape_of-offsets : goal.shape_of-offsets
shape_of-offsets c =
    c.fetch_lists.auto.offsets

pub shape_of-forces : goal.shape_of-forces
shape_of-forces c =
    c.fill.auto.area

pub returns : goal.returns
returns c =
    record {
      offsets_after = stored_is _ ((stored_of c.args.words.now c.args.positions.now c.args.increments.now c.args.gains.now
          c.args.affinities.now c.args.indices.now c.args.offsets.now)) _ _ c.layout_read-l.ensures
          c.put_record.ensures c.fetch_state.ensures.positions_after c.fetch_state.ensures.increments_after c.fetch_state.ensures.gains_after c.fetch_lists.ensures.affinities_after
          c.fetch_lists.ensures.indices_after c.fetch_lists.ensures.offsets_after;
      forces_after = rw (c.sizes_of-z.ensures, c.settings_read-s.ensures) at c.fill.ensures;
    }
