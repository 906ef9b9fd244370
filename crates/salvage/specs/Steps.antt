-- The sifting of a frame file, record by record: where it stands, and what one record does to it. Definitions only.
use Rattle.std.specs.Prelude.{List, cond, ℕ, ◌+◌, ◌*◌, ◌<◌, ◌≤◌, eqb, length, set}
use Rattle.laws.specs.Joined.{written}
use Rattle.frames.specs.Frames.{record_bytes, whole_records}
use Rattle.salvage.specs.declared.Sift.{Sift}
use Rattle.salvage.specs.Salvage.{rule_after, last_kept, kept_in, told_in, rules_told, record_at, bytes_kept, records_read, foremost}

-- the counts, and the areas so far
pub record Sifting : Type 0 where
  pub counts : Sift
  pub good : List ℕ
  pub places : List ℕ
  pub rules : List ℕ

abbrev pub sifting : Sift → List ℕ → List ℕ → List ℕ → Sifting
sifting s g p r = record { counts = s; good = g; places = p; rules = r }

-- record i is copied behind those kept before it
abbrev pub keep_step : List ℕ → ℕ → Sifting → Sifting
keep_step f i x =
    sifting (record { last = i + 1; kept = x.counts.kept + 1; told = x.counts.told })
    (written (record_at f (i * record_bytes)) (x.counts.kept * record_bytes) x.good) x.places x.rules

-- its number and its rule are told behind those told before it
abbrev pub tell_step : ℕ → ℕ → Sifting → Sifting
tell_step i k x =
    sifting (record { last = x.counts.last; kept = x.counts.kept; told = x.counts.told + 1 })
    x.good (set x.places x.counts.told i) (set x.rules x.counts.told k)

unfoldable pub sift_step : List ℕ → ℕ → Sifting → Sifting
sift_step f i x =
    let k = rule_after f x.counts.last i in
    cond (eqb k 0) (keep_step f i x) (tell_step i k x)

-- there is a record i, the last one kept lies before it, and there is room for it whatever it is
pub record SiftFits (f : List ℕ) (i : ℕ) (x : Sifting) : Type 0 where
  pub there : i * record_bytes + record_bytes ≤ length f
  pub before : x.counts.last ≤ i
  pub kept_room : x.counts.kept * record_bytes + record_bytes ≤ length x.good
  pub place_room : x.counts.told < length x.places
  pub rule_room : x.counts.told < length x.rules

-- there is room for all whole records, and to tell all records
pub record SiftRoom (f g p r : List ℕ) : Type 0 where
  pub records : whole_records f * record_bytes ≤ length g
  pub places_room : records_read f ≤ length p
  pub rules_room : records_read f ≤ length r

-- what the first n records leave
abbrev pub sifted_by : List ℕ → ℕ → List ℕ → List ℕ → List ℕ → Sifting
sifted_by f n g p r =
    sifting (record { last = last_kept f n; kept = length (kept_in f n); told = length (told_in f n) })
    (foremost (bytes_kept f n) g) (foremost (told_in f n) p) (foremost (rules_told f n) r)
