-- Reading for the picture monitor, with the answer as plain words. Definitions only.
-- a are the answer's words: word 0 tells the records read, or, refused by 16, the first bad record, else 0.
use Rattle.std.specs.Prelude.{List, cond, ℕ, eqb, length, set}
use Rattle.std.specs.Prelude.{Result, Ok, Err}
use Rattle.refusal.specs.declared.Unreadable.{Unreadable}
use Rattle.refusal.specs.declared.Unreadable.TheVariants.{Bad, Short}
use Rattle.monitor_read.specs.MonitorRead.{MonitorReading, read_monitor, monitor_read_number}

-- what word 0 tells
unfoldable pub monitor_read_told : Result ℕ Unreadable → ℕ
monitor_read_told (Ok n) = n
monitor_read_told (Err (Bad k)) = k
monitor_read_told (Err Short) = 0

-- the number, and areas and answer as they are left
pub record HostMonitorReading : Type 0 where
  pub number : ℕ
  pub pictures : List ℕ
  pub sides : List ℕ
  pub fields : List ℕ
  pub positions : List ℕ
  pub answer : List ℕ

abbrev pub host_monitor_reading : ℕ → List ℕ → List ℕ → List ℕ → List ℕ → List ℕ → HostMonitorReading
host_monitor_reading k P S B X a = record { number = k; pictures = P; sides = S; fields = B; positions = X; answer = a }

abbrev pub reading_in : MonitorReading → List ℕ → HostMonitorReading
reading_in o a = host_monitor_reading (monitor_read_number o.answer) o.pictures o.sides o.fields o.positions (set a 0 (monitor_read_told o.answer))

-- an answer without a word: 12, and nothing can be told
unfoldable pub host_monitor_read : List ℕ → List ℕ → List ℕ → List ℕ → List ℕ → List ℕ → HostMonitorReading
host_monitor_read f P S B X a = cond (eqb (length a) 0) (host_monitor_reading 12 P S B X a) (reading_in (read_monitor f P S B X) a)
