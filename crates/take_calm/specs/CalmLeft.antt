-- The means of what would be left, and what refusal 15 asks of the positions then. Definitions only.
use Rattle.std.specs.Prelude.{List, Bool, ℕ, length, set, Float}
use Rattle.laws.specs.Area.{num}
use Rattle.laws.specs.Loops.{every}
use Rattle.elementary.specs.Limits.{calm}
use Rattle.take_rows.specs.Rows.{average_left, centred_left}

-- it bars no centred position of the frames in keep
unfoldable pub calm_left : List ℕ → ℕ → List Float → Bool
calm_left keep c y = every (λ i. every (λ d. calm (centred_left keep c y (num keep i) d)) c) (length keep)

-- component d's mean, written to its place
abbrev pub mean_at : List ℕ → ℕ → List Float → ℕ → List Float → List Float
mean_at keep c y d means = set means d (average_left keep c y d)
