-- The rules of a record as tests in their order, the first that fails, and the last record kept, each said once more in other words than the call's. Definitions only.
use Rattle.std.specs.Prelude.{◌≡◌, ◌⊎◌, List, [], ◌∷◌, Bool, true, false, ℕ, zero, suc, ◌*◌, ◌<◌, ◌≤◌}
use Rattle.frames.specs.Frames.{record_bytes, picture_at, side_at, field_at, picture_fine, side_fine, field_fine, spare_fine, values_fine, whole_records}
use Rattle.salvage.specs.Salvage.{follows_last, is_kept, record_at, records_read}

-- picture, side, field, spare bytes, value, order: the tests of record i, where l is one past the last record kept before it, 0 where none is
abbrev pub tests_of : List ℕ → ℕ → ℕ → List Bool
tests_of f l i =
    let a = i * record_bytes in
    picture_fine (picture_at f a) ∷ side_fine (side_at f a) ∷ field_fine (field_at f a) ∷ spare_fine f a ∷ values_fine f a ∷ follows_last f l i ∷ []

-- of tests counted from 1, those before test k pass, and test k fails
abbrev pub FirstFails : List Bool → ℕ → Type 0
FirstFails [] k = ⊥
FirstFails (b ∷ bs) zero = ⊥
FirstFails (b ∷ bs) (suc zero) = b ≡ false
FirstFails (b ∷ bs) (suc (suc k)) = (b ≡ true) × FirstFails bs (suc k)

-- l is one past the last record kept below i, or 0 where none is
pub record LastBefore (f : List ℕ) (i l : ℕ) : Type 0 where
  pub below : l ≤ i
  pub kept : (j : ℕ) → l ≡ suc j → is_kept f j ≡ true
  pub none-since : (j : ℕ) → l ≤ j → j < i → is_kept f j ≡ false

-- an area is too short: the second for the whole records, or places or rules to tell of all records; g, p and r are the lengths
abbrev pub AreaShort : List ℕ → ℕ → ℕ → ℕ → Type 0
AreaShort f g p r = (g < whole_records f * record_bytes) ⊎ ((p < records_read f) ⊎ (r < records_read f))

-- record i of the file stands in the output as record j
pub record KeptAs (f out : List ℕ) (i j : ℕ) : Type 0 where
  pub is_whole : i < whole_records f
  pub same_bytes : record_at out (j * record_bytes) ≡ record_at f (i * record_bytes)
