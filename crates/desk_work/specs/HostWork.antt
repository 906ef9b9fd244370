-- What the work call leaves and answers, with record and answer as plain words. Definitions only.
use Rattle.std.specs.Prelude.{List, cond, ℕ, ltb, length}
use Rattle.run_entry.specs.State.{Memory, state}
use Rattle.run_budget.specs.declared.Answer.TheVariants.{Bad}
use Rattle.run_budget.specs.Budget.{Worked}
use Rattle.descent.specs.Descent.{work, work_number}
use Rattle.record_words.specs.RecordWords.{run_fine, run_of}
use Rattle.fault_words.specs.FaultWords.{unread_fault}
use Rattle.answer_words.specs.AnswerWords.{run_after, answer_put}

-- the answer's number and words, the record's words, the memory
pub record HostWorked : Type 0 where
  pub number : ℕ
  pub answer : List ℕ
  pub run : List ℕ
  pub memory : Memory

abbrev pub host_worked : ℕ → List ℕ → List ℕ → Memory → HostWorked
host_worked k a w m = record { number = k; answer = a; run = w; memory = m }

abbrev pub worked_in : Worked → List ℕ → List ℕ → HostWorked
worked_in t a w = host_worked (work_number t.answer) (answer_put t.answer a) (run_after t.answer t.left.run w) t.left.memory

-- an answer area a of fewer than 5 words: 12, and nothing can be told; words w that are no record: the number of what is wrong with them, 21 or 22; else as the work call has it
unfoldable pub host_work : ℕ → List ℕ → List ℕ → Memory → HostWorked
host_work b w a m =
    cond (ltb (length a) 5) (host_worked 12 a w m)
    (cond (run_fine w) (worked_in (work b (state (run_of w) m)) a w) (host_worked (work_number (Bad (unread_fault w))) (answer_put (Bad (unread_fault w)) a) w m))
