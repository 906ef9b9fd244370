-- The text of the scope paper's example, and of an empty file, computed by the checker.
use Rattle.std.specs.Prelude.{◌≡◌, refl, List, [], ◌∷◌, ◌++◌, ℕ, replicate}
use Rattle.std.proofs.Common.{ap, ◌∙◌}
use Rattle.std.specs.Float.Ieee.{of_bits, to_bits}
use Rattle.laws.specs.Loops.{seek}
use Rattle.laws.specs.Joined.{joined}
use Rattle.little.specs.Little.{little_of}
use Rattle.text.specs.Text.{decimals, decimal_of, hex_of}
use Rattle.frames.specs.Frames.{frame_of}
use Rattle.bench_mapping.specs.declared.Mapped.{Mapped}
use Rattle.bench_mapping.specs.Cases.{example}
use Rattle.bench_lines.specs.BenchLines.{label_text, position_text}
use Rattle.bench_printout.specs.Printed.{map_text, answer_text, told_text, printed}

-- so many bytes of zero
abbrev none : ℕ → List ℕ
none n = replicate n 0

-- 1.0
abbrev one : List ℕ
one = none 6 ++ (240 ∷ 63 ∷ [])

-- pictures 101 and 102, side 1, features all 0 and first 1, starts (0, 0) and (1, 0)
abbrev sample : List ℕ
sample = (101 ∷ 0 ∷ 0 ∷ 0 ∷ 1 ∷ none 67) ++ ((102 ∷ 0 ∷ 0 ∷ 0 ∷ 1 ∷ none 3) ++ one ++ none 40 ++ one ++ none 8)

-- "finished 6", "101 1 0 4050600000000000 0000000000000000", "102 1 0 c050600000000000 0000000000000000", each with the end of the line
abbrev first_line : List ℕ
first_line = 102 ∷ 105 ∷ 110 ∷ 105 ∷ 115 ∷ 104 ∷ 101 ∷ 100 ∷ 32 ∷ 54 ∷ 10 ∷ []

abbrev second_line : List ℕ
second_line = 49 ∷ 48 ∷ 49 ∷ 32 ∷ 49 ∷ 32 ∷ 48 ∷ 32 ∷ 52 ∷ 48 ∷ 53 ∷ 48 ∷ 54 ∷ 48 ∷ 48 ∷ 48 ∷ 48 ∷ 48 ∷ 48 ∷ 48 ∷ 48 ∷ 48 ∷ 48 ∷ 48 ∷ 32 ∷ 48 ∷ 48 ∷ 48 ∷ 48 ∷
    48 ∷ 48 ∷ 48 ∷ 48 ∷ 48 ∷ 48 ∷ 48 ∷ 48 ∷ 48 ∷ 48 ∷ 48 ∷ 48 ∷ 10 ∷ []

abbrev third_line : List ℕ
third_line = 49 ∷ 48 ∷ 50 ∷ 32 ∷ 49 ∷ 32 ∷ 48 ∷ 32 ∷ 99 ∷ 48 ∷ 53 ∷ 48 ∷ 54 ∷ 48 ∷ 48 ∷ 48 ∷ 48 ∷ 48 ∷ 48 ∷ 48 ∷ 48 ∷ 48 ∷ 48 ∷ 48 ∷ 32 ∷ 48 ∷ 48 ∷ 48 ∷ 48 ∷
    48 ∷ 48 ∷ 48 ∷ 48 ∷ 48 ∷ 48 ∷ 48 ∷ 48 ∷ 48 ∷ 48 ∷ 48 ∷ 48 ∷ 10 ∷ []

pub example-text : printed sample ≡ first_line ++ second_line ++ third_line
unfolding printed told_text answer_text map_text joined label_text position_text decimal_of decimals hex_of seek frame_of little_of of_bits to_bits
example-text = ap (λ (m : Mapped). told_text m.told sample m.positions) example ∙ refl
