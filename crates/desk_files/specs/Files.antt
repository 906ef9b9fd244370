-- The frame file, with plain words. Definitions only.
use Rattle.std.specs.Prelude.{List, cond, ℕ, eqb, ltb, length, set, Result, Ok, Err}
use Rattle.frames.specs.declared.BadRecord.{BadRecord}
use Rattle.frames.specs.Frames.{frames_of, frame_of, frames_number, or_zero}
use Rattle.record_words.specs.RecordWords.{Worded, worded}
use Rattle.frame_words.specs.FrameWords.{frame_put}

abbrev pub frames_worded : Result ℕ BadRecord → List ℕ → Worded
frames_worded (Ok n) w = worded (or_zero (frames_number (Ok n))) (set w 0 n)
frames_worded (Err b) w = worded (or_zero (frames_number (Err b))) (set w 0 b.place)

-- the count of the records, or 16 and the place of the first bad one; 12 where the area has no word
unfoldable pub host_frames : List ℕ → List ℕ → Worded
host_frames file w = cond (eqb (length w) 0) (worded 12 w) (frames_worded (frames_of file) w)

-- 12 where the area has fewer than 11 words
unfoldable pub host_frame : List ℕ → ℕ → List ℕ → Worded
host_frame file i w = cond (ltb (length w) 11) (worded 12 w) (worded 0 (frame_put (frame_of file i) w))
