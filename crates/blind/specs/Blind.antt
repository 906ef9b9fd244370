-- For how many frames the sigma search ends blind: its last round's row was filled, because the sum of the weights was too small. Definitions only.
-- Of the settings n, f, the method and the perplexity are looked at, and no other.
use Rattle.std.specs.Prelude.{List, Bool, cond, ℕ, eqb, length, Float, Result, Ok, Err}
use Rattle.std.specs.Float.Ieee.{eq}
use Rattle.laws.specs.Loops.{every}
use Rattle.laws.specs.Area.{at, zero64}
use Rattle.laws.specs.Sums.{sum, bit}
use Rattle.areas.specs.Filled.{filled}
use Rattle.affinity_sigma.specs.Sigma.{blind_search}
use Rattle.affinity.specs.Exact.{distances_of}
use Rattle.affinity.specs.Neighbours.{values_in, nearest_frames}
use Rattle.run_record.specs.declared.Settings.{Settings}
use Rattle.run_record.specs.Record.{is_tree, k_of}
use Rattle.blind.specs.Faults.{blind_fault}
use Rattle.blind.specs.declared.Seen.{Seen}

-- ---- one frame

-- what frame i's search goes by: the distances of its k nearest, nearest first, or those of all n frames
abbrev pub searched_distances : Settings → List Float → ℕ → List Float
searched_distances s t i = cond (is_tree s.method) (values_in (nearest_frames t s.n s.f (k_of s) i)) (distances_of t s.n s.f i)

-- how many they are
abbrev pub searched_length : Settings → ℕ
searched_length s = cond (is_tree s.method) (k_of s) s.n

-- its search ends blind: each of them gets the same share
unfoldable pub blind_at : Settings → List Float → ℕ → Bool
blind_at s t i = blind_search (searched_distances s t i) (searched_length s) s.perplexity

-- the first m distances are 0
abbrev pub all_at_zero : List Float → ℕ → Bool
all_at_zero ds m = every (λ j. eq (at ds j) zero64) m

-- every distance that its search goes by comes out as 0
unfoldable pub alone_at : Settings → List Float → ℕ → Bool
alone_at s t i = all_at_zero (searched_distances s t i) (searched_length s)

-- at how many numbers below n a test holds
abbrev pub how_many : (ℕ → Bool) → ℕ → ℕ
how_many p n = sum (λ i. bit (p i)) n

-- ---- the rows

pub record SightRows : Type 0 where
  pub squares : List Float
  pub values : List Float
  pub shares : List Float
  pub places : List ℕ

abbrev pub sight_rows : List Float → List Float → List Float → List ℕ → SightRows
sight_rows q v h x = record { squares = q; values = v; shares = h; places = x }

-- zeros in the first n places of each, and what stood past them
abbrev pub cleared_rows : ℕ → SightRows → SightRows
cleared_rows n r = sight_rows (filled zero64 n r.squares) (filled zero64 n r.values) (filled zero64 n r.shares) (filled 0 n r.places)

-- ---- the answer

pub record SightOutcome : Type 0 where
  pub answer : Result Seen ℕ
  pub rows : SightRows

abbrev pub sight_outcome : Result Seen ℕ → SightRows → SightOutcome
sight_outcome a r = record { answer = a; rows = r }

abbrev pub sight_fault : Settings → List Float → SightRows → ℕ
sight_fault s table r = blind_fault s table (length r.squares) (length r.values) (length r.shares) (length r.places)

-- how many frames are blind and how many of them alone; refused, nothing is changed
unfoldable pub sighted : Settings → List Float → SightRows → SightOutcome
sighted s table r =
    cond (eqb (sight_fault s table r) 0)
    (sight_outcome (Ok (record { blind = how_many (blind_at s table) s.n; alone = how_many (alone_at s table) s.n })) (cleared_rows s.n r))
    (sight_outcome (Err (sight_fault s table r)) r)

-- the number of an answer; 0 where it is no refusal
unfoldable pub sight_number : Result Seen ℕ → ℕ
sight_number (Err k) = k
sight_number (Ok seen) = 0
