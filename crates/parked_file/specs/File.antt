-- A file of records: which stand, and the first that does not. Definitions only.
use Rattle.std.specs.Prelude.{List, Bool, not, ◌&&◌, ℕ, ◌+◌, ◌*◌, eqb, leb, length}
use Rattle.laws.specs.Loops.{first}
use Rattle.little.specs.Little.{word_in}
use Rattle.parked.specs.Layout.{records_in}
use Rattle.parked.specs.Fine.{layout_by, record_fine}
use Rattle.parked_file.specs.declared.Verdict.{Verdict}

-- record q is there, whole, and a run can hold it after those before it
unfoldable pub record_stands : List ℕ → ℕ → Bool
record_stands f q = leb (32 * q + 32) (length f) && record_fine (word_in f) q

-- how many records the file should have, by its first three
unfoldable pub records_due : List ℕ → ℕ
records_due f = records_in (layout_by (word_in f))

-- the first record that is bad or missing, and the number of records where there is none
unfoldable pub first_bad : List ℕ → ℕ
first_bad f = first (λ q. not (record_stands f q)) (records_due f)

-- every record stands, and no byte follows: such bytes make one record more, which is bad
unfoldable pub is_parked : List ℕ → Bool
is_parked f = eqb (first_bad f) (records_due f) && eqb (length f) (32 * records_due f)

-- the first of the first three records that is bad or missing, 3 where there is none
unfoldable pub head_bad : List ℕ → ℕ
head_bad f = first (λ q. not (record_stands f q)) 3

abbrev pub verdict_of : List ℕ → Verdict
verdict_of f = record { parked = is_parked f; at = first_bad f }
