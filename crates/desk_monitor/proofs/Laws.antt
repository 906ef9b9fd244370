-- The answers of both calls in words, case by case. Assumes nothing.
use mathlib.Core.Path.{◌≡◌, sym}
use mathlib.Core.List.{List}
use Prim.Native.Nat.{ℕ}
use lib.ListN.{length, set}
use borrow.Author.Tests.{eq-eqb, ne_eqb}
use Rattle.std.specs.Prelude.{Result}
use Rattle.monitor_write.specs.declared.Unwritable.{Unwritable}
use Rattle.monitor_write.specs.MonitorWrite.{monitor_writing, write_monitor, monitored_number}
use Rattle.refusal.specs.declared.Unreadable.{Unreadable}
use Rattle.monitor_read.specs.MonitorRead.{monitor_reading, read_monitor, monitor_read_number}
use Rattle.desk_monitor.specs.HostWrite.{monitored_told, host_monitored, host_monitor_write}
use Rattle.desk_monitor.specs.HostRead.{monitor_read_told, host_monitor_reading, host_monitor_read}

module _ (n : ℕ) (P S B X t a : List ℕ) where
  pub write-mute : length a ≡ 0 → host_monitored 12 t a ≡ host_monitor_write n P S B X t a
  unfolding host_monitor_write
  write-mute e = rw (eq-eqb (length a) 0 e)

  pub write-answered : {x : Result ℕ Unwritable} {t' : List ℕ} {v k : ℕ} → (length a ≡ 0 → ⊥) → monitor_writing x t' ≡ write_monitor n P S B X t → v ≡ monitored_told x → k ≡ monitored_number x
      → host_monitored k t' (set a 0 v) ≡ host_monitor_write n P S B X t a
  unfolding host_monitor_write
  write-answered {x} {t'} {v} {k} some o ev ek = rw (ne_eqb (length a) 0 some, sym o, ev, ek)

module _ (f P S B X a : List ℕ) where
  pub read-mute : length a ≡ 0 → host_monitor_reading 12 P S B X a ≡ host_monitor_read f P S B X a
  unfolding host_monitor_read
  read-mute e = rw (eq-eqb (length a) 0 e)

  pub read-answered : {x : Result ℕ Unreadable} {P' S' B' X' : List ℕ} {v k : ℕ} → (length a ≡ 0 → ⊥) → monitor_reading x P' S' B' X' ≡ read_monitor f P S B X → v ≡ monitor_read_told x
      → k ≡ monitor_read_number x → host_monitor_reading k P' S' B' X' (set a 0 v) ≡ host_monitor_read f P S B X a
  unfolding host_monitor_read
  read-answered {x} {P'} {S'} {B'} {X'} {v} {k} some o ev ek = rw (ne_eqb (length a) 0 some, sym o, ev, ek)
