-- The file for the picture monitor, as request 2026-11 has it: records of 16 bytes, no header, little-endian. Definitions only.
use Rattle.std.specs.Prelude.{List, ◌∷◌, ◌++◌, Bool, ◌&&◌, ◌||◌, ℕ, ◌-◌, ◌*◌, ◌≤◌, eqb, leb}
use Rattle.little.specs.Little.{little_bytes}
use Rattle.frames.specs.Frames.{picture_fine, side_fine, field_fine, may_follow}

-- how long a record is
abbrev pub monitor_bytes : ℕ
monitor_bytes = 16

-- picture, side, field, two zeros, and the two coordinates by their single-precision bits
unfoldable pub monitor_record : ℕ → ℕ → ℕ → ℕ → ℕ → List ℕ
monitor_record p s b x y = little_bytes 4 p ++ (s ∷ b ∷ 0 ∷ 0 ∷ (little_bytes 4 x ++ little_bytes 4 y))

-- ---- the frame reader's rules

-- picture, side and field are fine
unfoldable pub frame_fine : ℕ → ℕ → ℕ → Bool
frame_fine p s b = picture_fine p && side_fine s && field_fine b

-- of frames with these pictures and fields, frame i may follow the one before it
unfoldable pub follows_at : (ℕ → ℕ) → (ℕ → ℕ) → ℕ → Bool
follows_at P B i = eqb i 0 || may_follow (P (i - 1)) (B (i - 1)) (P i) (B i)

-- ---- the areas of n frames: pictures, sides, fields, and two coordinates each

-- areas of these lengths hold them
unfoldable pub frames_room : ℕ → ℕ → ℕ → ℕ → ℕ → Bool
frames_room n p s b x = leb n p && leb n s && leb n b && leb (2 * n) x

-- what frames_room has shown of them
pub record FramesLie (n p s b x : ℕ) : Type 0 where
  pub pictures-long : n ≤ p
  pub sides-long : n ≤ s
  pub fields-long : n ≤ b
  pub positions-long : 2 * n ≤ x
