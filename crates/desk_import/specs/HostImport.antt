-- A run begun from a partner's list, with settings, record and answer as plain words. Definitions only.
-- a are the answer's words: word 0 tells the links, or, refused by 19, the first record at which a rule fails, else 0.
use Rattle.std.specs.Prelude.{List, cond, ℕ, eqb, ltb, length, set, Result, Ok, Err}
use Rattle.record_words.specs.RecordWords.{settings_of, run_put, short_number}
use Rattle.partner.specs.Partner.{whole_links}
use Rattle.run_record.specs.declared.Run.{Run}
use Rattle.partner_import.specs.declared.ImportFault.{ImportFault}
use Rattle.partner_import.specs.declared.ImportFault.TheVariants.{Refused, BadRecord}
use Rattle.partner_import.specs.Import.{Loading, lent_lengths, tree_settings, import_fault, ImportOutcome, import_of, import_number}

-- what word 0 tells, where the file has so many whole records
abbrev pub import_told : ℕ → Result Run ImportFault → ℕ
import_told links (Ok r) = links
import_told links (Err (BadRecord p)) = p
import_told links (Err (Refused k)) = 0

-- the record's words are written where there is a record
abbrev pub record_imported : Result Run ImportFault → List ℕ → List ℕ
record_imported (Ok r) w = run_put r w
record_imported (Err e) w = w

-- the number, and record, areas and answer as they are left
pub record HostImported : Type 0 where
  pub number : ℕ
  pub run : List ℕ
  pub areas : Loading
  pub answer : List ℕ

abbrev pub host_imported : ℕ → List ℕ → Loading → List ℕ → HostImported
host_imported k w l a = record { number = k; run = w; areas = l; answer = a }

abbrev pub imported_in : ℕ → ImportOutcome → List ℕ → List ℕ → HostImported
imported_in links o w a = host_imported (import_number o.answer) (record_imported o.answer w) o.areas (set a 0 (import_told links o.answer))

-- an answer without a word: 12, and nothing can be told; fewer than nine words s: no settings, 21; a record area w of fewer than 14 words: 12, after 1 to 11 and before 19
unfoldable pub host_import : List ℕ → List ℕ → List ℕ → List ℕ → Loading → ℕ → List ℕ → HostImported
host_import s start file w l nodes a =
    cond (eqb (length a) 0) (host_imported 12 w l a)
    (cond (ltb (length s) 9) (host_imported 21 w l (set a 0 0))
    (cond (ltb (length w) 14) (host_imported (short_number (import_fault (tree_settings (settings_of s)) start (lent_lengths l nodes))) w l (set a 0 0))
    (imported_in (whole_links file) (import_of (settings_of s) start file nodes l) w a)))
