-- A fault and what comes with it, as plain words of 64 bits; and what is told of words that are no record. Definitions only.
use Rattle.std.specs.Prelude.{List, Bool, cond, not, ◌||◌, ℕ, eqb, ltb, length, set}
use Rattle.refusal.specs.declared.Refusal.TheVariants.{Method as NoMethod}
use Rattle.refusal.specs.Refusal.{refusal_number, refusal_of}
use Rattle.run_entry.specs.declared.Fault.{Fault}
use Rattle.run_entry.specs.declared.Fault.TheVariants.{Settings as BadSettings, Counters, Areas, Offsets, Index, Tree}
use Rattle.run_record.specs.Record.{settings_fault}
use Rattle.run_entry.specs.Entry.{fault_number}
use Rattle.record_words.specs.RecordWords.{settings_fine, settings_of, run_fine, Worded, worded}

-- 1 settings, 2 counters, 3 areas, 4 offsets, 5 listed index, 6 tree
abbrev pub fault_word : Fault → ℕ
fault_word (BadSettings r) = 1
fault_word Counters = 2
fault_word Areas = 3
fault_word (Offsets i) = 4
fault_word (Index i) = 5
fault_word (Tree i) = 6

-- what comes with it: the number that the settings would have had, the frame, the place, the node
abbrev pub fault_value : Fault → ℕ
fault_value (BadSettings r) = refusal_number r
fault_value Counters = 0
fault_value Areas = 0
fault_value (Offsets i) = i
fault_value (Index i) = i
fault_value (Tree i) = i

-- settings that get the number k are told before counters
abbrev pub settings_first : ℕ → Fault
settings_first k = cond (eqb k 0) Counters (BadSettings (refusal_of k))

-- what is told of words that are no record: too few words, as counters; a method that there is not, as settings, with the 21 that preparation would give; a
-- state that there is not, as counters, where the settings are good
abbrev pub unread_fault : List ℕ → Fault
unread_fault w = cond (ltb (length w) 14) Counters (cond (settings_fine w) (settings_first (settings_fault (settings_of w))) (BadSettings NoMethod))

-- ---- a call that is lent a record as words, and words to answer in

-- an answer of k words has none, or the words w are no record
unfoldable pub unfit : List ℕ → ℕ → Bool
unfit w k = eqb k 0 || not (run_fine w)

-- an answer without a word: 12, and nothing can be told; else the number of what is wrong with the words, 21 or 22, and what comes with it
unfoldable pub unfit_told : List ℕ → List ℕ → Worded
unfit_told w a = cond (eqb (length a) 0) (worded 12 a) (worded (fault_number (unread_fault w)) (set a 0 (fault_value (unread_fault w))))
