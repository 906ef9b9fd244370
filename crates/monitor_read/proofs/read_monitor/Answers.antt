-- The call: the first bad record or a stray tail, then the areas, then all four filled; one law for each outcome.
use mathlib.Core.Path.{sym, ◌∙◌}
use Rattle.monitor.proofs.Laws.{frames-lie}
use Rattle.monitor_read.proofs.Laws.{broken-found, stray-tail, all_fit, reading-bad, reading-short, reading-done}
use native.Mathlib.Omega.{arith}
use Rattle.monitor_read.proofs.read_monitor.Goals as goal
use Rattle.monitor_read.proofs.read_monitor.Goals.{then-k-n-via-then-k-n, then-k-n-via-else-k-n+then-file-ne0}

pub returns-then-k-n : goal.returns-then-k-n
returns-then-k-n c =
    reading-bad c.args.file.now _ c.first_broken-k.ensures c.args.pictures.now c.args.sides.now
    c.args.fields.now c.args.positions.now
    (elim c.then-k-n.branch [
      | then-k-n-via-then-k-n w ↦ broken-found c.args.file.now _ c.first_broken-k.ensures w.if-k-n.true
      | then-k-n-via-else-k-n+then-file-ne0 w ↦ stray-tail c.args.file.now _ c.first_broken-k.ensures w.if-k-n.false w.if-file-ne0.true
    ])

pub returns-then-not-frames_room : goal.returns-then-not-frames_room
returns-then-not-frames_room c =
    reading-short c.args.file.now c.args.pictures.now c.args.sides.now c.args.fields.now
    c.args.positions.now (all_fit c.args.file.now _ c.first_broken-k.ensures c.if-k-n.false c.if-file-ne0.false)
    (sym c.frames_room.ensures ∙ c.if-not-frames_room.true)

pub fetch_pictures-requires : goal.fetch_pictures-requires
fetch_pictures-requires c =
    ((frames-lie _ _ _ _ _ (sym c.frames_room.ensures ∙ c.if-not-frames_room.false)).pictures-long, omega arith)

pub fetch_bytes-requires : goal.fetch_bytes-requires
fetch_bytes-requires c =
    ((frames-lie _ _ _ _ _ (sym c.frames_room.ensures ∙ c.if-not-frames_room.false)).sides-long, omega arith, omega arith)

pub fetch_bytes-requires-2 : goal.fetch_bytes-requires-2
fetch_bytes-requires-2 c =
    ((frames-lie _ _ _ _ _ (sym c.frames_room.ensures ∙ c.if-not-frames_room.false)).fields-long, omega arith, omega arith)

pub fetch_positions-requires : goal.fetch_positions-requires
fetch_positions-requires c =
    ((frames-lie _ _ _ _ _ (sym c.frames_room.ensures ∙ c.if-not-frames_room.false)).positions-long, omega arith)

pub returns : goal.returns
returns c =
    reading-done c.args.file.now c.args.pictures.now c.args.sides.now c.args.fields.now
    c.args.positions.now (all_fit c.args.file.now _ c.first_broken-k.ensures c.if-k-n.false c.if-file-ne0.false) _ _ _ _
    (sym c.frames_room.ensures ∙ c.if-not-frames_room.false) c.fetch_pictures.ensures c.fetch_bytes.ensures c.fetch_bytes-2.ensures
    c.fetch_positions.ensures
