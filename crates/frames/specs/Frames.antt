-- The frame file, as the scope paper and request 2026-03 have it: 72-byte records, no header, little-endian. Definitions only.
use Rattle.std.specs.Prelude.{List, [], ◌∷◌, Bool, cond, not, ◌&&◌, ◌||◌, ℕ, ◌+◌, ◌-◌, ◌*◌, ◌/◌, ◌%◌, eqb, ltb, leb, length, Float, Result, Ok, Err}
use Rattle.std.proofs.Math.Option.{Option, none, some}
use Rattle.laws.specs.Loops.{every, first}
use Rattle.laws.specs.Area.{num, zero64}
use Rattle.little.specs.Little.{little_of, value_at}
use Rattle.elementary.specs.Limits.{in_domain}
use Rattle.frames.specs.declared.Frame.{Frame}
use Rattle.frames.specs.declared.BadRecord.{BadRecord}

-- how long a record is
abbrev pub record_bytes : ℕ
record_bytes = 72

-- ---- the bytes of a record that starts at place a

-- bytes 0 to 3: the picture's number; byte 4: the side; byte 5: the field; bytes 6 and 7: spare
abbrev pub picture_at : List ℕ → ℕ → ℕ
picture_at f a = little_of f a 4

abbrev pub side_at : List ℕ → ℕ → ℕ
side_at f a = num f (a + 4)

abbrev pub field_at : List ℕ → ℕ → ℕ
field_at f a = num f (a + 5)

-- ---- a record that is good by itself: picture, side, field, spare bytes and values are, in this order

-- pictures count from 1
abbrev pub most_picture : ℕ
most_picture = 79999

unfoldable pub picture_fine : ℕ → Bool
picture_fine p = leb 1 p && leb p most_picture

unfoldable pub side_fine : ℕ → Bool
side_fine s = eqb s 1 || eqb s 2

-- 0 is a whole frame, 1 and 2 are the fields of a still
unfoldable pub field_fine : ℕ → Bool
field_fine b = leb b 2

-- the two spare bytes are zero
unfoldable pub spare_fine : List ℕ → ℕ → Bool
spare_fine f a = eqb (num f (a + 6)) 0 && eqb (num f (a + 7)) 0

-- six features and two start positions, from byte 8 on, are finite and at most 2^20 in magnitude
unfoldable pub values_fine : List ℕ → ℕ → Bool
values_fine f a = every (λ k. in_domain (value_at f (a + 8 + 8 * k))) 8

unfoldable pub good_alone : List ℕ → ℕ → Bool
good_alone f a = picture_fine (picture_at f a) && side_fine (side_at f a) && field_fine (field_at f a) && spare_fine f a && values_fine f a

-- ---- the file

-- picture q and field g may follow picture p and field e: the pair rises, and a whole frame never shares its picture with a field
unfoldable pub may_follow : ℕ → ℕ → ℕ → ℕ → Bool
may_follow p e q g = ltb p q || (eqb p q && not (eqb e 0) && ltb e g)

-- so may record i follow the record before it
unfoldable pub in_order : List ℕ → ℕ → Bool
in_order f i =
    eqb i 0
    || may_follow
    (picture_at f ((i - 1) * record_bytes))
    (field_at f ((i - 1) * record_bytes))
    (picture_at f (i * record_bytes))
    (field_at f (i * record_bytes))

unfoldable pub bad_at : List ℕ → ℕ → Bool
bad_at f i = not (good_alone f (i * record_bytes) && in_order f i)

-- how many whole records there are
abbrev pub whole_records : List ℕ → ℕ
whole_records f = length f / record_bytes

-- the record at place p is the first bad one
abbrev pub bad_place : ℕ → BadRecord
bad_place p = record { place = p }

-- the count of the records, or the place of the first that a test calls bad; a stray tail counts as a record, and is bad
abbrev pub frames_by : (ℕ → Bool) → List ℕ → Result ℕ BadRecord
frames_by bad f =
    cond (ltb (first bad (whole_records f)) (whole_records f)) (Err (bad_place (first bad (whole_records f))))
    (cond (eqb (length f % record_bytes) 0) (Ok (whole_records f)) (Err (bad_place (whole_records f))))

unfoldable pub frames_of : List ℕ → Result ℕ BadRecord
frames_of f = frames_by (bad_at f) f

-- the scope paper's number for what the reader says: a good file has none, a bad record is refused by 16
abbrev pub frames_number : Result ℕ BadRecord → Option ℕ
frames_number (Ok n) = none
frames_number (Err p) = some 16

-- a number as a call answers it: 0 where there is none
abbrev pub or_zero : Option ℕ → ℕ
or_zero none = 0
or_zero (some k) = k

-- ---- frame i

unfoldable pub features_at : List ℕ → ℕ → List Float
features_at f a = value_at f (a + 8) ∷ value_at f (a + 16) ∷ value_at f (a + 24) ∷ value_at f (a + 32) ∷ value_at f (a + 40) ∷ value_at f (a + 48) ∷ []

unfoldable pub starts_at : List ℕ → ℕ → List Float
starts_at f a = value_at f (a + 56) ∷ value_at f (a + 64) ∷ []

abbrev pub no_frame : Frame
no_frame = record { picture = 0; side = 0; field = 0; features = zero64 ∷ zero64 ∷ zero64 ∷ zero64 ∷ zero64 ∷ zero64 ∷ []; starts = zero64 ∷ zero64 ∷ [] }

-- what record i holds; past the whole records a frame of zeros
unfoldable pub frame_of : List ℕ → ℕ → Frame
frame_of f i = cond (ltb i (whole_records f))
    (record {
      picture = picture_at f (i * record_bytes);
      side = side_at f (i * record_bytes);
      field = field_at f (i * record_bytes);
      features = features_at f
          (i * record_bytes);
      starts = starts_at f (i * record_bytes);
    }) no_frame
