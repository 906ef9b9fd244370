-- Writing for the picture monitor, with the answer as plain words. Definitions only.
-- a are the answer's words: word 0 tells the records written, or, refused by 16 or 26, the first faulty frame, else 0.
use Rattle.std.specs.Prelude.{List, cond, ℕ, eqb, length, set}
use Rattle.std.specs.Prelude.{Result, Ok, Err}
use Rattle.monitor_write.specs.declared.Unwritable.{Unwritable}
use Rattle.monitor_write.specs.declared.Unwritable.TheVariants.{Short, Bad, Beyond}
use Rattle.monitor_write.specs.MonitorWrite.{MonitorWriting, write_monitor, monitored_number}

-- what word 0 tells
unfoldable pub monitored_told : Result ℕ Unwritable → ℕ
monitored_told (Ok n) = n
monitored_told (Err Short) = 0
monitored_told (Err (Bad k)) = k
monitored_told (Err (Beyond k)) = k

-- the number, and target and answer as they are left
pub record HostMonitored : Type 0 where
  pub number : ℕ
  pub target : List ℕ
  pub answer : List ℕ

abbrev pub host_monitored : ℕ → List ℕ → List ℕ → HostMonitored
host_monitored k t a = record { number = k; target = t; answer = a }

abbrev pub monitored_in : MonitorWriting → List ℕ → HostMonitored
monitored_in o a = host_monitored (monitored_number o.answer) o.target (set a 0 (monitored_told o.answer))

-- an answer without a word: 12, and nothing can be told
unfoldable pub host_monitor_write : ℕ → List ℕ → List ℕ → List ℕ → List ℕ → List ℕ → List ℕ → HostMonitored
host_monitor_write n P S B X t a = cond (eqb (length a) 0) (host_monitored 12 t a) (monitored_in (write_monitor n P S B X t) a)
