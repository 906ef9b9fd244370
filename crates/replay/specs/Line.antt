-- The line that a replay program prints of its tally, byte for byte. Definitions only.
use Rattle.std.specs.Prelude.{ℕ, cond, List, [], ◌∷◌, ◌++◌, take, ◌==◌}
use Rattle.text.specs.Text.{line_end, decimal_of}
use Rattle.replay.specs.declared.Tally.{Tally}

-- ": ", " cases, ", " wrong", ", the first is case "
abbrev pub colon_word : List ℕ
colon_word = 58 ∷ 32 ∷ []

abbrev pub cases_word : List ℕ
cases_word = 32 ∷ 99 ∷ 97 ∷ 115 ∷ 101 ∷ 115 ∷ 44 ∷ 32 ∷ []

abbrev pub wrong_word : List ℕ
wrong_word = 32 ∷ 119 ∷ 114 ∷ 111 ∷ 110 ∷ 103 ∷ []

abbrev pub first_word : List ℕ
first_word = 44 ∷ 32 ∷ 116 ∷ 104 ∷ 101 ∷ 32 ∷ 102 ∷ 105 ∷ 114 ∷ 115 ∷ 116 ∷ 32 ∷ 105 ∷ 115 ∷ 32 ∷ 99 ∷ 97 ∷ 115 ∷ 101 ∷ 32 ∷ []

unfoldable pub counts_text : ℕ → ℕ → List ℕ
counts_text cases wrong = colon_word ++ decimal_of cases ++ cases_word ++ decimal_of wrong ++ wrong_word

-- where none is wrong the line ends
unfoldable pub first_text : ℕ → ℕ → List ℕ
first_text wrong first = cond (wrong == 0) line_end (first_word ++ decimal_of first ++ line_end)

-- a name has at most 64 bytes
unfoldable pub tallied_text : List ℕ → Tally → List ℕ
tallied_text name t = take 64 name ++ counts_text t.cases t.wrong ++ first_text t.wrong t.first
