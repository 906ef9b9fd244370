-- The strip profile: the settings with which frames are mapped along one line. Definitions only.
use Rattle.std.specs.Prelude.{Bool, ◌&&◌, ℕ, eqb, leb, Float}
use Rattle.std.specs.Float.Ieee.{le}
use Rattle.laws.specs.Area.{bits}
use Rattle.run_record.specs.declared.Settings.{Settings}
use Rattle.run_record.specs.Record.{is_tree}

-- the most frames of a strip
abbrev pub most_strip : ℕ
most_strip = 1024

-- 0.5
abbrev pub half64 : Float
half64 = bits 0x3fe0000000000000

-- one component, Barnes-Hut, an angle of at most 0.5, at most 1024 frames
unfoldable pub in_profile : Settings → Bool
in_profile s = eqb s.c 1 && is_tree s.method && le s.angle half64 && leb s.n most_strip
