-- The count of blind frames, with settings and answer as plain words. Definitions only.
-- a are the answer's words: word 0 tells the blind frames and word 1 those of them that are alone. Refused, no word is changed.
use Rattle.std.specs.Prelude.{List, cond, ℕ, ltb, length, set, Float, Result, Ok, Err}
use Rattle.blind.specs.declared.Seen.{Seen}
use Rattle.blind.specs.Blind.{SightRows, SightOutcome, sight_fault, sighted, sight_number}
use Rattle.record_words.specs.RecordWords.{settings_fine, settings_of, short_number}

unfoldable pub sight_words : Result Seen ℕ → List ℕ → List ℕ
sight_words (Err k) a = a
sight_words (Ok seen) a = set (set a 0 seen.blind) 1 seen.alone

-- the number, the answer's words, the rows
pub record HostSeen : Type 0 where
  pub number : ℕ
  pub answer : List ℕ
  pub rows : SightRows

abbrev pub host_seen : ℕ → List ℕ → SightRows → HostSeen
host_seen k a r = record { number = k; answer = a; rows = r }

abbrev pub seen_in : SightOutcome → List ℕ → HostSeen
seen_in o a = host_seen (sight_number o.answer) (sight_words o.answer a) o.rows

-- words s that are no settings: 21; an answer of fewer than two words: 12, after 2 to 10; then nothing is changed; else as the count has it
unfoldable pub host_blind : List ℕ → List Float → SightRows → List ℕ → HostSeen
host_blind s table r a =
    cond (settings_fine s)
    (cond (ltb (length a) 2)
    (host_seen (short_number (sight_fault (settings_of s) table r)) a r)
    (seen_in (sighted (settings_of s) table r) a))
    (host_seen 21 a r)
