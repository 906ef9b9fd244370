-- Reading a parked run: the first bad record, the areas, and what they hold afterwards. Definitions only.
use Rattle.std.specs.Prelude.{List, [], ◌∷◌, ◌++◌, Bool, cond, not, ◌&&◌, ℕ, ◌+◌, ◌*◌, leb, length, drop, Float, Result, Ok, Err}
use Rattle.laws.specs.Area.{zero64}
use Rattle.laws.specs.Joined.{each}
use Rattle.areas.specs.Filled.{filled}
use Rattle.little.specs.Little.{word_in}
use Rattle.run_record.specs.declared.Settings.{Settings}
use Rattle.run_record.specs.Record.{per_of, sizes_of}
use Rattle.run_entry.specs.Entry.{areas_fit}
use Rattle.record_words.specs.RecordWords.{method_of, settings_of}
use Rattle.parked.specs.declared.Layout.{Layout}
use Rattle.parked.specs.Parked.{Stored, stored_of}
use Rattle.parked.specs.Fine.{layout_by}
use Rattle.parked_file.specs.File.{records_due, first_bad, is_parked}
use Rattle.refusal.specs.declared.Unreadable.{Unreadable}
use Rattle.refusal.specs.declared.Unreadable.TheVariants.{Bad, Short}
use Rattle.refusal.specs.Refusal.{unreadable_number, number_told}

-- ---- what is read, where g w is word w

-- the record: settings, state and iterations done as they are written; no unit of the next iteration is done, the total is that of the iterations, and no node is in use
unfoldable pub record_read : (ℕ → ℕ) → List ℕ
record_read g =
    g 1 ∷ g 2 ∷ g 3 ∷ g 0 ∷ g 4 ∷ g 5 ∷ g 6 ∷ g 7 ∷ g 8 ∷
    g 10 ∷ g 9 ∷ 0 ∷ g 9 * per_of (method_of (g 0)) (g 1) ∷ 0 ∷ []

unfoldable pub settings_read : (ℕ → ℕ) → Settings
settings_read g = settings_of (record_read g)

-- the m words from word b on, then what stood there
unfoldable pub fetched : (ℕ → ℕ) → ℕ → ℕ → List ℕ → List ℕ
fetched g b m v = each (λ i. g (b + i)) m ++ drop m v

-- the affinities: the matrix, or the links' weights
unfoldable pub weights_read : (ℕ → ℕ) → Layout → List ℕ → List ℕ
weights_read g l v = cond l.tree (fetched g l.weights l.links v) (fetched g l.affinities l.held v)

unfoldable pub offsets_read : (ℕ → ℕ) → Layout → List ℕ → List ℕ
offsets_read g l v = cond l.tree (fetched g l.affinities l.held v) v

unfoldable pub stored_read : (ℕ → ℕ) → Stored → Stored
stored_read g d =
    let l = layout_by g in
    stored_of (record_read g ++ drop 14 d.run)
    (fetched g 12 l.cells d.positions)
    (fetched g l.increments l.cells d.increments)
    (fetched g l.gains l.cells d.gains)
    (weights_read g l d.affinities)
    (fetched g l.indices l.links d.indices)
    (offsets_read g l d.offsets)

-- ---- the order of the tests

-- the record has fourteen words, and the areas are as a work call asks for them
unfoldable pub has_room : (ℕ → ℕ) → Stored → ℕ → ℕ → Bool
has_room g d forces nodes =
    leb 14 (length d.run)
    && areas_fit (settings_read g) (length d.positions) (length d.increments) (length d.gains) (length d.affinities) (length d.indices) (length d.offsets) forces nodes

-- what is answered, and record and areas afterwards
pub record Unparking : Type 0 where
  pub answer : Result ℕ Unreadable
  pub left : Stored
  pub forces : List Float

abbrev pub unparking : Result ℕ Unreadable → Stored → List Float → Unparking
unparking a d f = record { answer = a; left = d; forces = f }

-- 16 with the first bad record, then 12; else everything is read, and the forces are zero
unfoldable pub unpark_of : List ℕ → Stored → List Float → ℕ → Unparking
unpark_of f d F nodes =
    let g = word_in f in
    cond (not (is_parked f)) (unparking (Err (Bad (first_bad f))) d F)
    (cond (not (has_room g d (length F) nodes)) (unparking (Err Short) d F)
    (unparking (Ok (records_due f)) (stored_read g d) (filled zero64 (sizes_of (settings_read g)).forces F)))

-- the number of a refusal; 0 where there is none
abbrev pub unpark_number : Result ℕ Unreadable → ℕ
unpark_number a = number_told unreadable_number a
