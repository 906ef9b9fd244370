-- What preparation leaves and answers, with settings and record as plain words. Definitions only.
use Rattle.std.specs.Prelude.{List, cond, ℕ, ltb, length, Float, Result, Ok, Err}
use Rattle.run_record.specs.declared.Run.{Run}
use Rattle.prepare.specs.Prepare.{Lent, lengths_of, prepare_fault, PrepareOutcome, prepared, prepare_number}
use Rattle.record_words.specs.RecordWords.{settings_fine, settings_of, run_put, short_number}

-- the answer's number, the record's words, the areas
pub record HostPrepared : Type 0 where
  pub number : ℕ
  pub run : List ℕ
  pub areas : Lent

abbrev pub host_prepared : ℕ → List ℕ → Lent → HostPrepared
host_prepared k w l = record { number = k; run = w; areas = l }

-- the record's words are written where there is a record
abbrev pub recorded : Result Run ℕ → List ℕ → List ℕ
recorded (Err k) w = w
recorded (Ok r) w = run_put r w

abbrev pub prepared_in : PrepareOutcome → List ℕ → HostPrepared
prepared_in o w = host_prepared (prepare_number o.answer) (recorded o.answer w) o.areas

-- words s that are no settings: 21; a record area w of fewer than 14 words: 12, after 1 to 11; then nothing is changed; else as preparation has it
unfoldable pub host_prepare : List ℕ → List Float → List Float → ℕ → Lent → List ℕ → HostPrepared
host_prepare s table start nodes l w =
    cond (settings_fine s)
    (cond (ltb (length w) 14)
    (host_prepared (short_number (prepare_fault (settings_of s) table start (lengths_of l nodes))) w l)
    (prepared_in (prepared (settings_of s) table start nodes l) w))
    (host_prepared 21 w l)
