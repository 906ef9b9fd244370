-- The frame file as the scope paper alone had it, before request 2026-03: pictures up to 54,000 that rise strictly, and three spare bytes. Definitions only.
use Rattle.std.specs.Prelude.{List, Bool, not, ◌&&◌, ◌||◌, ℕ, ◌+◌, ◌-◌, ◌*◌, eqb, ltb, leb, Result}
use Rattle.laws.specs.Area.{num}
use Rattle.frames.specs.declared.Frame.{Frame}
use Rattle.frames.specs.declared.BadRecord.{BadRecord}
use Rattle.frames.specs.Frames.{record_bytes, picture_at, side_at, side_fine, values_fine, features_at, starts_at, frames_by}

abbrev pub base_good_alone : List ℕ → ℕ → Bool
base_good_alone f a =
    leb 1 (picture_at f a)
    && leb (picture_at f a) 54000
    && side_fine (side_at f a)
    && eqb (num f (a + 5)) 0
    && eqb (num f (a + 6)) 0
    && eqb (num f (a + 7)) 0
    && values_fine f a

abbrev pub base_in_order : List ℕ → ℕ → Bool
base_in_order f i = eqb i 0 || ltb (picture_at f ((i - 1) * record_bytes)) (picture_at f (i * record_bytes))

abbrev pub base_bad_at : List ℕ → ℕ → Bool
base_bad_at f i = not (base_good_alone f (i * record_bytes) && base_in_order f i)

-- what that reader said of a file
abbrev pub base_frames_of : List ℕ → Result ℕ BadRecord
base_frames_of f = frames_by (base_bad_at f) f

-- what it read in record i, as a whole frame
abbrev pub base_frame_of : List ℕ → ℕ → Frame
base_frame_of f i = record {
  picture = picture_at f (i * record_bytes);
  side = side_at f (i * record_bytes);
  field = 0;
  features = features_at f
      (i * record_bytes);
  starts = starts_at f (i * record_bytes);
}
