-- Salvaging a frame file, with the answer as plain words. Definitions only.
-- a are the answer's words: word 0 tells the records kept and word 1 the records told; word 0 is 0 where a lent area is too short, and word 1 stays.
use Rattle.std.specs.Prelude.{List, cond, ℕ, ltb, length, set}
use Rattle.std.specs.Prelude.{Result, Ok, Err}
use Rattle.salvage.specs.declared.Saved.{Saved}
use Rattle.salvage.specs.Salvage.{SalvageOutcome, salvage_of, salvage_number}

unfoldable pub salvaged_words : Result Saved ℕ → List ℕ → List ℕ
salvaged_words (Ok s) a = set (set a 0 s.kept) 1 s.told
salvaged_words (Err k) a = set a 0 0

-- the number, and areas and answer as they are left
pub record HostSalvaged : Type 0 where
  pub number : ℕ
  pub good : List ℕ
  pub places : List ℕ
  pub rules : List ℕ
  pub answer : List ℕ

abbrev pub host_salvaged : ℕ → List ℕ → List ℕ → List ℕ → List ℕ → HostSalvaged
host_salvaged k g p r a = record { number = k; good = g; places = p; rules = r; answer = a }

abbrev pub salvage_told : SalvageOutcome → List ℕ → HostSalvaged
salvage_told o a = host_salvaged (salvage_number o.answer) o.good o.places o.rules (salvaged_words o.answer a)

-- an answer of fewer than two words: 12, and nothing can be told
unfoldable pub host_salvage : List ℕ → List ℕ → List ℕ → List ℕ → List ℕ → HostSalvaged
host_salvage f g p r a = cond (ltb (length a) 2) (host_salvaged 12 g p r a) (salvage_told (salvage_of f g p r) a)
