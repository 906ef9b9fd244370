-- What the bench prints of a frame file, byte for byte. Definitions only.
use Rattle.std.specs.Prelude.{List, [], ◌∷◌, ◌++◌, ℕ, ◌+◌, ◌*◌, min, Float, Result, Ok, Err}
use Rattle.laws.specs.Area.{at}
use Rattle.laws.specs.Joined.{joined}
use Rattle.text.specs.Text.{space, line_end, decimal_of}
use Rattle.frames.specs.Frames.{whole_records, frame_of}
use Rattle.run_budget.specs.declared.Answer.{Answer}
use Rattle.run_budget.specs.declared.Answer.TheVariants.{Running, Stopped, Finished, Full, Wild, Bad}
use Rattle.descent.specs.Descent.{work_number}
use Rattle.bench_lines.specs.BenchLines.{label_text, position_text, refusal_text, record_text}
use Rattle.bench_mapping.specs.declared.MapFault.{MapFault}
use Rattle.bench_mapping.specs.declared.MapFault.TheVariants.{Long, Record, Refused}
use Rattle.bench_mapping.specs.Mapping.{bench_frames, map_of, map_fault_number}

-- ---- words, by their ASCII codes

-- "running", "stopped", "finished"
abbrev pub running_word : List ℕ
running_word = 114 ∷ 117 ∷ 110 ∷ 110 ∷ 105 ∷ 110 ∷ 103 ∷ []

abbrev pub stopped_word : List ℕ
stopped_word = 115 ∷ 116 ∷ 111 ∷ 112 ∷ 112 ∷ 101 ∷ 100 ∷ []

abbrev pub finished_word : List ℕ
finished_word = 102 ∷ 105 ∷ 110 ∷ 105 ∷ 115 ∷ 104 ∷ 101 ∷ 100 ∷ []

-- ---- a map

-- the line of frame i
abbrev pub frame_text : List ℕ → List Float → ℕ → List ℕ
frame_text file p i = label_text (frame_of file i) ++ position_text (at p (2 * i)) (at p (2 * i + 1))

-- the file's whole records, 64 at most; a file with a map has no more (`all_shown`)
abbrev pub frames_shown : List ℕ → ℕ
frames_shown file = min (whole_records file) bench_frames

-- how the run stands, with its units, and a line for each frame
unfoldable pub map_text : List ℕ → ℕ → List ℕ → List Float → List ℕ
map_text word units file p = word ++ space ++ decimal_of units ++ line_end ++ joined (frame_text file p) (frames_shown file)

-- ---- the whole

unfoldable pub answer_text : Answer → List ℕ → List Float → List ℕ
answer_text (Running k) file p = map_text running_word k file p
answer_text (Stopped k) file p = map_text stopped_word k file p
answer_text (Finished k) file p = map_text finished_word k file p
answer_text (Full k) file p = refusal_text (work_number (Full k))
answer_text (Wild k) file p = refusal_text (work_number (Wild k))
answer_text (Bad f) file p = refusal_text (work_number (Bad f))

unfoldable pub fault_text : MapFault → List ℕ
fault_text Long = refusal_text (map_fault_number Long)
fault_text (Record q) = record_text (map_fault_number (Record q)) q
fault_text (Refused k) = refusal_text (map_fault_number (Refused k))

unfoldable pub told_text : Result Answer MapFault → List ℕ → List Float → List ℕ
told_text (Err e) file p = fault_text e
told_text (Ok a) file p = answer_text a file p

unfoldable pub printed : List ℕ → List ℕ
printed file = told_text (map_of file).told file (map_of file).positions
