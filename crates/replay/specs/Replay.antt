-- A replay list is a row of little-endian words; a tally counts what was compared. Definitions only.
use Rattle.std.specs.Prelude.{◌≡◌, ℕ, ◌+◌, ◌*◌, ◌/◌, ◌%◌, ◌^◌, Bool, cond, List, length, ◌==◌, nat_lt, OnErr, Result}
use Rattle.little.specs.Little.{little_of}
use Rattle.replay.specs.declared.Tally.{Tally}

-- word i; 0 past the end
unfoldable pub word_of : List ℕ → ℕ → ℕ
word_of l i = cond (nat_lt i (length l / 8)) (little_of l (i * 8) 8) 0

abbrev pub no_tally : Tally
no_tally = record { cases = 0; wrong = 0; first = 0 }

-- one case more (the counts wrap at 2^64); the first wrong one is remembered
unfoldable pub tallied : Tally → Bool → Tally
tallied t right =
    cond right (record { cases = (t.cases + 1) % 2 ^ 64; wrong = t.wrong; first = t.first })
    (cond (t.wrong == 0) (record { cases = (t.cases + 1) % 2 ^ 64; wrong = 1; first = t.cases })
    (record { cases = (t.cases + 1) % 2 ^ 64; wrong = (t.wrong + 1) % 2 ^ 64; first = t.first }))

-- where opening failed there is no file: nothing is read from it into l
abbrev pub Unread : {F E : Type 0} → Result F E → ℕ → List ℕ → List ℕ → Type 0
Unread opened r l m = OnErr opened ((r ≡ 0) × (m ≡ l))
