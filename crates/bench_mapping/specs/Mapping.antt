-- The bench's map, from the bytes of a frame file to an answer and positions. Definitions only.
use Rattle.std.specs.Prelude.{List, cond, ℕ, ◌*◌, ◌/◌, ◌%◌, ltb, length, set, take, replicate, Float, Result, Ok, Err}
use Rattle.laws.specs.Domain.{most_word}
use Rattle.laws.specs.Loops.{loop}
use Rattle.laws.specs.Area.{at, bits, zero64, one64}
use Rattle.frames.specs.declared.BadRecord.{BadRecord}
use Rattle.frames.specs.Frames.{record_bytes, frames_of, frame_of, bad_place, frames_number, or_zero}
use Rattle.run_record.specs.declared.Method.TheVariants.{BarnesHut}
use Rattle.run_record.specs.declared.Settings.{Settings}
use Rattle.run_record.specs.declared.Run.{Run}
use Rattle.tree_node.specs.declared.Cell.{Cell}
use Rattle.tree_node.specs.Arena.{void}
use Rattle.run_entry.specs.State.{state}
use Rattle.run_budget.specs.declared.Answer.{Answer}
use Rattle.run_budget.specs.Budget.{Worked}
use Rattle.descent.specs.Descent.{work, work_number}
use Rattle.refusal.specs.declared.Refusal.{Refusal}
use Rattle.refusal.specs.Refusal.{refusal_number, refusal_of}
use Rattle.prepare.specs.Prepare.{Lent, lent, prepared, memory_of}
use Rattle.bench_mapping.specs.declared.MapFault.{MapFault}
use Rattle.bench_mapping.specs.declared.MapFault.TheVariants.{Long, Record, Refused}
use Rattle.bench_mapping.specs.declared.Mapped.{Mapped}

-- the most frames that the bench takes, and their bytes
abbrev pub bench_frames : ℕ
bench_frames = 64

abbrev pub bench_bytes : ℕ
bench_bytes = bench_frames * record_bytes

-- ---- settings

-- Barnes-Hut, perplexity 1, rate 5, one iteration, angle 0, no early stop
unfoldable pub bench_settings : ℕ → Settings
bench_settings n = record { n = n; f = 6; c = 2; perplexity = one64; rate = bits 0x4014000000000000; iterations = 1; minimum = zero64; angle = zero64; method = BarnesHut }

-- ---- areas of zeros

abbrev pub zeros : ℕ → List Float
zeros n = replicate n zero64

abbrev pub noughts : ℕ → List ℕ
noughts n = replicate n 0

-- ---- table and start

-- value k of the table is feature k % 6 of frame k / 6
abbrev pub feature_step : List ℕ → ℕ → List Float → List Float
feature_step file k t = set t k (at (frame_of file (k / 6)).features (k % 6))

-- the first m values
unfoldable pub bench_table : List ℕ → ℕ → List Float
bench_table file m = loop (feature_step file) m 0 (zeros 384)

-- value k of the start is position k % 2 of frame k / 2
abbrev pub start_step : List ℕ → ℕ → List Float → List Float
start_step file k t = set t k (at (frame_of file (k / 2)).starts (k % 2))

unfoldable pub bench_start : List ℕ → ℕ → List Float
bench_start file m = loop (start_step file) m 0 (zeros 128)

-- ---- the areas that the run has

-- room for 64 frames
abbrev pub bench_areas : Lent
bench_areas = lent (zeros 128) (zeros 128) (zeros 128) (zeros 512) (noughts 512) (noughts 65) (zeros 320) (zeros 64) (noughts 64)

-- 256 cells into which nothing has been laid
abbrev pub bench_cells : List Cell
bench_cells = replicate 256 void

-- ---- the answer

abbrev pub mapped_as : Result Answer MapFault → List Float → Mapped
mapped_as t p = record { told = t; positions = p }

abbrev pub worked_as : Worked → Mapped
worked_as w = mapped_as (Ok w.answer) w.left.memory.positions

-- a run that preparation made is worked, one that it refused is not
abbrev pub goes_on : Result Run ℕ → Lent → Mapped
goes_on (Err k) l = mapped_as (Err (Refused (refusal_of k))) l.positions
goes_on (Ok r) l = worked_as (work most_word (state r (memory_of l bench_cells)))

-- preparation, then one work call
unfoldable pub descended : Settings → List Float → List Float → Mapped
descended s table start =
    let o = prepared s table start 256 bench_areas in
    goes_on o.answer o.areas

-- n good frames
unfoldable pub mapped : List ℕ → ℕ → Mapped
mapped file n = descended (bench_settings n) (take (n * 6) (bench_table file (n * 6))) (take (n * 2) (bench_start file (n * 2)))

abbrev pub records_of : List ℕ → Result ℕ BadRecord → Mapped
records_of file (Err b) = mapped_as (Err (Record b.place)) (zeros 128)
records_of file (Ok n) = mapped file n

-- of a longer file no record is tested
unfoldable pub map_of : List ℕ → Mapped
map_of file = cond (ltb bench_bytes (length file)) (mapped_as (Err Long) (zeros 128)) (records_of file (frames_of file))

-- the scope paper's number of an answer; 0 where it is no refusal
abbrev pub map_fault_number : MapFault → ℕ
map_fault_number Long = 7
map_fault_number (Record p) = or_zero (frames_number (Err (bad_place p)))
map_fault_number (Refused e) = refusal_number e

unfoldable pub map_number : Result Answer MapFault → ℕ
map_number (Err e) = map_fault_number e
map_number (Ok a) = work_number a
