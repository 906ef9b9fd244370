-- Reading the file for the picture monitor: which records are bad, the order of the tests, and what is read. Definitions only.
-- P are the areas for the pictures of the frames, S for their sides, B for their fields, X for the bits of their coordinates, two for each frame.
use Rattle.std.specs.Prelude.{List, ◌++◌, Bool, cond, not, ◌&&◌, ℕ, ◌+◌, ◌*◌, ◌/◌, ◌%◌, eqb, ltb, length, drop}
use Rattle.laws.specs.Area.{num}
use Rattle.laws.specs.Loops.{first}
use Rattle.laws.specs.Joined.{each}
use Rattle.little.specs.Little.{little_of}
use Rattle.frames.specs.Frames.{spare_fine}
use Rattle.monitor_narrow.specs.Narrow.{widen_of, finite_single}
use Rattle.monitor.specs.Monitor.{monitor_bytes, frame_fine, follows_at, frames_room}
use Rattle.std.specs.Prelude.{Result, Ok, Err}
use Rattle.refusal.specs.declared.Unreadable.{Unreadable}
use Rattle.refusal.specs.Refusal.{unreadable_number, number_told}
use Rattle.refusal.specs.declared.Unreadable.TheVariants.{Bad, Short}

-- ---- a record

-- byte d of record i: side 4, field 5
abbrev pub byte_at : List ℕ → ℕ → ℕ → ℕ
byte_at f d i = num f (i * monitor_bytes + d)

-- the picture of record i
abbrev pub monitor_picture : List ℕ → ℕ → ℕ
monitor_picture f i = little_of f (i * monitor_bytes) 4

-- the single-precision bits of coordinate j of the file: coordinates 2i and 2i + 1 stand in record i, from its bytes 8 and 12 on
unfoldable pub coordinate_at : List ℕ → ℕ → ℕ
coordinate_at f j = little_of f (j / 2 * monitor_bytes + (8 + 4 * (j % 2))) 4

unfoldable pub coordinates_fine : List ℕ → ℕ → Bool
coordinates_fine f i = finite_single (coordinate_at f (2 * i)) && finite_single (coordinate_at f (2 * i + 1))

-- 16: a rule of the frame reader is broken (picture, side, field, spare bytes, order), or a coordinate is not finite
unfoldable pub broken_at : List ℕ → ℕ → Bool
broken_at f i =
    not (frame_fine (monitor_picture f i) (byte_at f 4 i) (byte_at f 5 i)
    && spare_fine f (i * monitor_bytes)
    && coordinates_fine f i
    && follows_at (monitor_picture f) (byte_at f 5) i)

-- ---- the file

-- how many whole records there are
abbrev pub whole_monitor : List ℕ → ℕ
whole_monitor f = length f / monitor_bytes

-- the first whole record that is bad; past them where there is none
abbrev pub first_broken : List ℕ → ℕ
first_broken f = first (broken_at f) (whole_monitor f)

-- no whole record is bad, and there is no stray tail, which would be one more, bad
unfoldable pub is_monitor : List ℕ → Bool
is_monitor f = not (ltb (first_broken f) (whole_monitor f)) && eqb (length f % monitor_bytes) 0

-- what is answered, and the areas afterwards
pub record MonitorReading : Type 0 where
  pub answer : Result ℕ Unreadable
  pub pictures : List ℕ
  pub sides : List ℕ
  pub fields : List ℕ
  pub positions : List ℕ

abbrev pub monitor_reading : Result ℕ Unreadable → List ℕ → List ℕ → List ℕ → List ℕ → MonitorReading
monitor_reading a P S B X = record { answer = a; pictures = P; sides = S; fields = B; positions = X }

-- the first n places get g 0, g 1, ..; the tail is as it was
abbrev pub fronted : (ℕ → ℕ) → ℕ → List ℕ → List ℕ
fronted g n l = each g n ++ drop n l

-- coordinate j, widened
abbrev pub widened_at : List ℕ → ℕ → ℕ
widened_at f j = widen_of (coordinate_at f j)

-- 16 with the first bad record, then 12; else the fronts of the areas are filled
unfoldable pub read_monitor : List ℕ → List ℕ → List ℕ → List ℕ → List ℕ → MonitorReading
read_monitor f P S B X =
    let n = whole_monitor f in
    cond (not (is_monitor f)) (monitor_reading (Err (Bad (first_broken f))) P S B X)
    (cond (not (frames_room n (length P) (length S) (length B) (length X))) (monitor_reading (Err Short) P S B X)
    (monitor_reading (Ok n) (fronted (monitor_picture f) n P) (fronted (byte_at f 4) n S) (fronted (byte_at f 5) n B) (fronted (widened_at f) (2 * n) X)))

-- the number of a refusal; 0 where there is none
abbrev pub monitor_read_number : Result ℕ Unreadable → ℕ
monitor_read_number a = number_told unreadable_number a
