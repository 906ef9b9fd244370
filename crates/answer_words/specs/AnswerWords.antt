-- The work call's answer as plain words of 64 bits: kind, number, units, fault and its value; and the record's words after it. Definitions only.
use Rattle.std.specs.Prelude.{List, Ok, Err, Bool, true, false, cond, ℕ, set}
use Rattle.run_record.specs.declared.Run.{Run}
use Rattle.refusal.specs.Refusal.{number_told}
use Rattle.run_entry.specs.Entry.{Found}
use Rattle.run_budget.specs.declared.Answer.{Answer}
use Rattle.run_budget.specs.declared.Answer.TheVariants.{Running, Stopped, Finished, Full, Wild, Bad}
use Rattle.descent.specs.Descent.{work_number, units_of}
use Rattle.record_words.specs.RecordWords.{progress_put}
use Rattle.fault_words.specs.FaultWords.{fault_word, fault_value}

-- 0 running, 1 stopped, 2 finished, 3 refused
abbrev pub kind_word : Answer → ℕ
kind_word (Running d) = 0
kind_word (Stopped d) = 1
kind_word (Finished d) = 2
kind_word (Full d) = 3
kind_word (Wild d) = 3
kind_word (Bad f) = 3

abbrev pub fault_in : Answer → Found
fault_in (Running d) = Ok tt
fault_in (Stopped d) = Ok tt
fault_in (Finished d) = Ok tt
fault_in (Full d) = Ok tt
fault_in (Wild d) = Ok tt
fault_in (Bad f) = Err f

unfoldable pub answer_put : Answer → List ℕ → List ℕ
answer_put a w = set (set (set (set (set w 0 (kind_word a)) 1 (work_number a)) 2 (units_of a)) 3 (number_told fault_word (fault_in a))) 4 (number_told fault_value (fault_in a))

-- refused at the entry
abbrev pub is_bad : Answer → Bool
is_bad (Running d) = false
is_bad (Stopped d) = false
is_bad (Finished d) = false
is_bad (Full d) = false
is_bad (Wild d) = false
is_bad (Bad f) = true

-- the record's words after an answer: a call that is refused at its entry leaves them as they are, any other writes the five that a unit can change
unfoldable pub run_after : Answer → Run → List ℕ → List ℕ
run_after a r w = cond (is_bad a) w (progress_put r w)
