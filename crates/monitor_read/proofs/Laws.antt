-- What the tests of a file show, and the outcomes of reading one. Assumes nothing.
use mathlib.Core.List.{List}
use mathlib.Core.Path.{◌≡◌}
use mathlib.Core.Bool.{true, false}
use Prim.Native.Nat.{ℕ, ◌*◌, ◌%◌, ◌<◌, ◌≤◌}
use lib.ListN.{length}
use borrow.Author.Tests.{lt-ltb, le-ltb, eq-eqb, ne_eqb}
use Rattle.monitor.specs.Monitor.{frames_room}
use Rattle.std.specs.Prelude.{Ok, Err}
use Rattle.refusal.specs.declared.Unreadable.TheVariants.{Bad, Short}
use Rattle.monitor_read.specs.MonitorRead.{byte_at, monitor_picture, whole_monitor, first_broken, is_monitor, monitor_reading, fronted, widened_at, read_monitor}

module _ (f : List ℕ) (k : ℕ) (found : k ≡ first_broken f) where
  pub broken-found : k < whole_monitor f → is_monitor f ≡ false
  unfolding is_monitor
  broken-found l = rw (← found, lt-ltb k (whole_monitor f) l)

  pub stray-tail : whole_monitor f ≤ k → (length f % 16 ≡ 0 → ⊥) → is_monitor f ≡ false
  unfolding is_monitor
  stray-tail l m = rw (← found, le-ltb k (whole_monitor f) l, ne_eqb (length f % 16) 0 m)

  pub all_fit : whole_monitor f ≤ k → length f % 16 ≡ 0 → is_monitor f ≡ true
  unfolding is_monitor
  all_fit l m = rw (← found, le-ltb k (whole_monitor f) l, eq-eqb (length f % 16) 0 m)

  pub reading-bad : (P S B X : List ℕ) → is_monitor f ≡ false → monitor_reading (Err (Bad k)) P S B X ≡ read_monitor f P S B X
  unfolding read_monitor
  reading-bad P S B X e = rw (e, found)

module _ (f P S B X : List ℕ) (good : is_monitor f ≡ true) where
  pub reading-short : frames_room (whole_monitor f) (length P) (length S) (length B) (length X) ≡ false → monitor_reading (Err Short) P S B X ≡ read_monitor f P S B X
  unfolding read_monitor
  reading-short e = rw (good, e)

  pub reading-done : (P' S' B' X' : List ℕ) → frames_room (whole_monitor f) (length P) (length S) (length B) (length X) ≡ true → P' ≡ fronted (monitor_picture f) (whole_monitor f) P
      → S' ≡ fronted (byte_at f 4) (whole_monitor f) S → B' ≡ fronted (byte_at f 5) (whole_monitor f) B → X' ≡ fronted (widened_at f) (2 * whole_monitor f) X
      → monitor_reading (Ok (whole_monitor f)) P' S' B' X' ≡ read_monitor f P S B X
  unfolding read_monitor
  reading-done P' S' B' X' e p s b x = rw (good, e, p, s, b, x)
