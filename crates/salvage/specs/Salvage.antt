-- A scuffed frame file: which records are kept, which rule each other one broke first, and what the lent areas hold afterwards. Definitions only.
-- f is the file; record i lies from byte 72·i on.
use Rattle.std.specs.Prelude.{List, [], ◌++◌, map, Bool, cond, not, ◌||◌, ℕ, zero, suc, ◌+◌, ◌-◌, ◌*◌, ◌%◌, eqb, ltb, length, take, drop}
use Rattle.laws.specs.Joined.{those, joined}
use Rattle.frames.specs.Frames.{record_bytes, picture_at, side_at, field_at, picture_fine, side_fine, field_fine, spare_fine, values_fine, may_follow, whole_records}
use Rattle.std.specs.Prelude.{Result, Ok, Err}
use Rattle.salvage.specs.declared.Saved.{Saved}

-- ---- the rules, as they are numbered and tested; 0 is no rule

abbrev pub picture_rule : ℕ
picture_rule = 1

abbrev pub side_rule : ℕ
side_rule = 2

abbrev pub field_rule : ℕ
field_rule = 3

abbrev pub spare_rule : ℕ
spare_rule = 4

abbrev pub value_rule : ℕ
value_rule = 5

abbrev pub order_rule : ℕ
order_rule = 6

abbrev pub tail_rule : ℕ
tail_rule = 7

-- the first rule that the record at byte a breaks by itself; 0 where it is good by itself
unfoldable pub rule_alone : List ℕ → ℕ → ℕ
rule_alone f a =
    cond (not (picture_fine (picture_at f a))) picture_rule
    (cond (not (side_fine (side_at f a))) side_rule
    (cond (not (field_fine (field_at f a))) field_rule
    (cond (not (spare_fine f a)) spare_rule
    (cond (not (values_fine f a)) value_rule 0))))

-- record i is in the reader's order after the last one kept, if any: l is one past that one's number, 0 where none is kept
unfoldable pub follows_last : List ℕ → ℕ → ℕ → Bool
follows_last f l i =
    eqb l 0
    || may_follow
    (picture_at f ((l - 1) * record_bytes))
    (field_at f ((l - 1) * record_bytes))
    (picture_at f (i * record_bytes))
    (field_at f (i * record_bytes))

-- the first rule that record i then breaks; 0 where it is kept
unfoldable pub rule_after : List ℕ → ℕ → ℕ → ℕ
rule_after f l i = cond (eqb (rule_alone f (i * record_bytes)) 0) (cond (follows_last f l i) 0 order_rule) (rule_alone f (i * record_bytes))

-- one past the last record kept of the first n; 0 where none is
unfoldable pub last_kept : List ℕ → ℕ → ℕ
last_kept f zero = 0
last_kept f (suc n) = cond (eqb (rule_after f (last_kept f n) n) 0) (suc n) (last_kept f n)

-- the first rule that record i breaks; what lies past the whole records, if it is read at all, is a stray tail
unfoldable pub rule_of : List ℕ → ℕ → ℕ
rule_of f i = cond (ltb i (whole_records f)) (rule_after f (last_kept f i) i) tail_rule

-- ---- of the first n records: the kept ones with their bytes, the told ones with their rules

unfoldable pub is_kept : List ℕ → ℕ → Bool
is_kept f i = eqb (rule_of f i) 0

abbrev pub kept_in : List ℕ → ℕ → List ℕ
kept_in f n = those (is_kept f) n

abbrev pub told_in : List ℕ → ℕ → List ℕ
told_in f n = those (λ i. not (is_kept f i)) n

abbrev pub rules_told : List ℕ → ℕ → List ℕ
rules_told f n = map (rule_of f) (told_in f n)

-- the bytes of the record at a
abbrev pub record_at : List ℕ → ℕ → List ℕ
record_at f a = take record_bytes (drop a f)

-- of record i, where it is kept
abbrev pub bytes_of : List ℕ → ℕ → List ℕ
bytes_of f i = cond (is_kept f i) (record_at f (i * record_bytes)) []

abbrev pub bytes_kept : List ℕ → ℕ → List ℕ
bytes_kept f n = joined (bytes_of f) n

-- ---- the call

-- how many records are read, a stray tail counted
unfoldable pub records_read : List ℕ → ℕ
records_read f = whole_records f + cond (eqb (length f % record_bytes) 0) 0 1

-- a second area shorter than the whole records, or fewer places or rules than records; g, p and r are the lengths
unfoldable pub lacks_room : List ℕ → ℕ → ℕ → ℕ → Bool
lacks_room f g p r = ltb g (whole_records f * record_bytes) || (ltb p (records_read f) || ltb r (records_read f))

-- w at the front of an area, and what stood past it
abbrev pub foremost : List ℕ → List ℕ → List ℕ
foremost w l = w ++ drop (length w) l

-- so many kept, and so many told
abbrev pub saved : ℕ → ℕ → Result Saved ℕ
saved k t = Ok (record { kept = k; told = t })

-- what is answered, and the areas afterwards
pub record SalvageOutcome : Type 0 where
  pub answer : Result Saved ℕ
  pub good : List ℕ
  pub places : List ℕ
  pub rules : List ℕ

abbrev pub salvage_outcome : Result Saved ℕ → List ℕ → List ℕ → List ℕ → SalvageOutcome
salvage_outcome a g p r = record { answer = a; good = g; places = p; rules = r }

-- 12 comes first and changes nothing
unfoldable pub salvage_of : List ℕ → List ℕ → List ℕ → List ℕ → SalvageOutcome
salvage_of f g p r =
    let n = records_read f in
    cond (lacks_room f (length g) (length p) (length r)) (salvage_outcome (Err 12) g p r)
    (salvage_outcome (saved (length (kept_in f n)) (length (told_in f n))) (foremost (bytes_kept f n) g) (foremost (told_in f n) p) (foremost (rules_told f n) r))

-- the number of a refusal; 0 where there is none
unfoldable pub salvage_number : Result Saved ℕ → ℕ
salvage_number (Ok s) = 0
salvage_number (Err k) = k
