-- When each answer of writing and of reading for the picture monitor is given: a condition for each, with the place that is told. Definitions only.
use Rattle.std.specs.Prelude.{◌≡◌, ◌⊎◌, List, true, false, ℕ, ◌%◌, ◌<◌, length}
use Rattle.monitor.specs.Monitor.{monitor_bytes, frames_room}
use Rattle.std.specs.Prelude.{Result, Ok, Err}
use Rattle.monitor_write.specs.declared.Unwritable.{Unwritable}
use Rattle.monitor_write.specs.declared.Unwritable.TheVariants.{Short, Bad, Beyond}
use Rattle.monitor_write.specs.MonitorWrite.{wrong_at, past_at, faulty_at, room_to_write}
use Rattle.refusal.specs.declared.Unreadable.{Unreadable}
use Rattle.refusal.specs.declared.Unreadable.TheVariants.{Bad as Broken, Short as Scant}
use Rattle.monitor_read.specs.MonitorRead.{broken_at, whole_monitor}

-- ---- writing

module _ (P S B X : List ℕ) where
  -- no frame before frame k is faulty
  abbrev pub FineBefore : ℕ → Type 0
  FineBefore k = (i : ℕ) → i < k → faulty_at P S B X i ≡ false

module _ (n : ℕ) (P S B X t : List ℕ) where
  abbrev pub HasRoom : Type 0
  HasRoom = room_to_write n (length P) (length S) (length B) (length X) (length t) ≡ true

  abbrev pub WriteReason : Result ℕ Unwritable → Type 0
  WriteReason (Ok m) = (m ≡ n) × HasRoom × FineBefore P S B X n
  WriteReason (Err Short) = room_to_write n (length P) (length S) (length B) (length X) (length t) ≡ false
  WriteReason (Err (Bad k)) = HasRoom × (k < n) × FineBefore P S B X k × (wrong_at P S B k ≡ true)
  WriteReason (Err (Beyond k)) = HasRoom × (k < n) × FineBefore P S B X k × (wrong_at P S B k ≡ false) × (past_at X k ≡ true)

-- ---- reading

module _ (f : List ℕ) where
  -- no record before record k is bad
  abbrev pub GoodBefore : ℕ → Type 0
  GoodBefore k = (i : ℕ) → i < k → broken_at f i ≡ false

  -- all whole records are good, and there is no stray tail
  abbrev pub AllGood : Type 0
  AllGood = GoodBefore (whole_monitor f) × (length f % monitor_bytes ≡ 0)

module _ (f P S B X : List ℕ) where
  abbrev pub ReadReason : Result ℕ Unreadable → Type 0
  ReadReason (Ok n) = (n ≡ whole_monitor f) × AllGood f × (frames_room (whole_monitor f) (length P) (length S) (length B) (length X) ≡ true)
  ReadReason (Err (Broken k)) = GoodBefore f k × (((k < whole_monitor f) × (broken_at f k ≡ true)) ⊎ ((k ≡ whole_monitor f) × (length f % monitor_bytes ≡ 0 → ⊥)))
  ReadReason (Err Scant) = AllGood f × (frames_room (whole_monitor f) (length P) (length S) (length B) (length X) ≡ false)
