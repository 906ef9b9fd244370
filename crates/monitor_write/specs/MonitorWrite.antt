-- Writing the file for the picture monitor: what is faulty, the order of the tests, and what is written. Definitions only.
-- P are the pictures of the frames, S their sides, B their fields, X the bits of their coordinates, two for each frame.
use Rattle.std.specs.Prelude.{List, Bool, true, false, cond, not, ◌&&◌, ◌||◌, ℕ, ◌+◌, ◌*◌, ◌≤◌, leb, ltb, length}
use Rattle.laws.specs.Area.{num}
use Rattle.laws.specs.Loops.{first}
use Rattle.laws.specs.Joined.{laid}
use Rattle.std.specs.Prelude.{Option, Some, None}
use Rattle.monitor_narrow.specs.Narrow.{narrow_of}
use Rattle.monitor.specs.Monitor.{monitor_bytes, monitor_record, frame_fine, follows_at, frames_room, FramesLie}
use Rattle.std.specs.Prelude.{Result, Ok, Err}
use Rattle.refusal.specs.Refusal.{number_told}
use Rattle.monitor_write.specs.declared.Unwritable.{Unwritable}
use Rattle.monitor_write.specs.declared.Unwritable.TheVariants.{Short, Bad, Beyond}

-- ---- a frame

-- 16: picture, side, field or order
unfoldable pub wrong_at : List ℕ → List ℕ → List ℕ → ℕ → Bool
wrong_at P S B i = not (frame_fine (num P i) (num S i) (num B i) && follows_at (num P) (num B) i)

unfoldable pub is_past : Option ℕ → Bool
is_past (Some w) = false
is_past None = true

-- 26: a coordinate that is not finite or rounds past the largest single-precision value
unfoldable pub past_at : List ℕ → ℕ → Bool
past_at X i = is_past (narrow_of (num X (2 * i))) || is_past (narrow_of (num X (2 * i + 1)))

unfoldable pub faulty_at : List ℕ → List ℕ → List ℕ → List ℕ → ℕ → Bool
faulty_at P S B X i = wrong_at P S B i || past_at X i

-- the bits of a coordinate that is not past
unfoldable pub single_bits : Option ℕ → ℕ
single_bits (Some w) = w
single_bits None = 0

-- the record of frame i
unfoldable pub monitor_row : List ℕ → List ℕ → List ℕ → List ℕ → ℕ → List ℕ
monitor_row P S B X i = monitor_record (num P i) (num S i) (num B i) (single_bits (narrow_of (num X (2 * i)))) (single_bits (narrow_of (num X (2 * i + 1))))

-- ---- the call

-- what is answered, and the target afterwards
pub record MonitorWriting : Type 0 where
  pub answer : Result ℕ Unwritable
  pub target : List ℕ

abbrev pub monitor_writing : Result ℕ Unwritable → List ℕ → MonitorWriting
monitor_writing a t = record { answer = a; target = t }

-- 12: areas of these lengths hold what n frames need
unfoldable pub room_to_write : ℕ → ℕ → ℕ → ℕ → ℕ → ℕ → Bool
room_to_write n p s b x t = frames_room n p s b x && leb (n * monitor_bytes) t

-- a fault at frame k: 16 where it is one of picture, side, field or order, else 26
unfoldable pub fault_told : List ℕ → List ℕ → List ℕ → ℕ → Unwritable
fault_told P S B k = cond (wrong_at P S B k) (Bad k) (Beyond k)

-- 12, then the first faulty frame; else all n records stand at the target's front, and its tail is as it was
unfoldable pub write_monitor : ℕ → List ℕ → List ℕ → List ℕ → List ℕ → List ℕ → MonitorWriting
write_monitor n P S B X t =
    let k = first (faulty_at P S B X) n in
    cond (not (room_to_write n (length P) (length S) (length B) (length X) (length t))) (monitor_writing (Err Short) t)
    (cond (ltb k n) (monitor_writing (Err (fault_told P S B k)) t)
    (monitor_writing (Ok n) (laid (monitor_row P S B X) monitor_bytes n t)))

-- the number of a refusal; 0 where there is none
abbrev pub unwritable_number : Unwritable → ℕ
unwritable_number Short = 12
unwritable_number (Bad k) = 16
unwritable_number (Beyond k) = 26

abbrev pub monitored_number : Result ℕ Unwritable → ℕ
monitored_number a = number_told unwritable_number a

-- ---- what the test of the areas has shown

pub record WriteLies (n p s b x t : ℕ) : Type 0 where
  pub frames : FramesLie n p s b x
  pub target-long : n * monitor_bytes ≤ t
