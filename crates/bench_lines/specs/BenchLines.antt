-- The parts of what the bench prints, byte for byte: a frame's line, and a refusal. Definitions only.
use Rattle.std.specs.Prelude.{List, [], ◌∷◌, ◌++◌, ℕ, Float}
use Rattle.std.specs.Float.{binary64}
use Rattle.std.specs.Float.Ieee.{to_bits}
use Rattle.text.specs.Text.{space, line_end, decimal_of, hex_of}
use Rattle.frames.specs.declared.Frame.{Frame}

-- ---- a frame

-- the bits of a value
abbrev pub value_text : Float → List ℕ
value_text v = hex_of (to_bits binary64 v)

-- picture, side and field, each with a space after it
unfoldable pub label_text : Frame → List ℕ
label_text f = decimal_of f.picture ++ space ++ decimal_of f.side ++ space ++ decimal_of f.field ++ space

-- the two coordinates, to the end of the line
unfoldable pub position_text : Float → Float → List ℕ
position_text x y = value_text x ++ space ++ value_text y ++ line_end

-- ---- a refusal; words by their ASCII codes

-- "refused ", " record "
abbrev pub refused_word : List ℕ
refused_word = 114 ∷ 101 ∷ 102 ∷ 117 ∷ 115 ∷ 101 ∷ 100 ∷ 32 ∷ []

abbrev pub record_word : List ℕ
record_word = 32 ∷ 114 ∷ 101 ∷ 99 ∷ 111 ∷ 114 ∷ 100 ∷ 32 ∷ []

unfoldable pub refusal_text : ℕ → List ℕ
refusal_text n = refused_word ++ decimal_of n ++ line_end

-- with the place of the bad record
unfoldable pub record_text : ℕ → ℕ → List ℕ
record_text n q = refused_word ++ decimal_of n ++ record_word ++ decimal_of q ++ line_end
