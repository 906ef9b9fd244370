-- What the tests of the areas and of the frames show, and what the loop that writes the records keeps. Assumes nothing.
use mathlib.Core.List.{List, ◌++◌, append_assoc}
use mathlib.Core.Path.{◌≡◌, refl, sym, ap, ◌∙◌}
use mathlib.Core.Bool.{true, false}
use Prim.Native.Nat.{ℕ, ◌+◌, ◌*◌, ◌/◌, ◌<◌, ◌≤◌}
use native.Mathlib.Omega.{arith}
use native.Mathlib.Decide.{dec_lt}
use lib.Dec.{leb}
use lib.ListN.{length, take, drop}
use lib.Seq.{drop-drop}
use borrow.Author.Tests.{leb-true, le-leb, lt-leb, lt-ltb, le-ltb}
use Rattle.laws.specs.Area.{num}
use Rattle.laws.specs.Loops.{first}
use Rattle.laws.specs.Joined.{written, laid}
use Rattle.laws.proofs.Bools.{and_left, and_right}
use Rattle.laws.proofs.Laid.{Lays, lays-next}
use Rattle.monitor.specs.Monitor.{frames_room}
use Rattle.monitor.proofs.Laws.{record-size, frames-lie}
use Rattle.monitor_narrow.specs.Narrow.{narrow_of}
use Rattle.std.specs.Prelude.{Option, Some, None, unwrap_or}
use Rattle.std.specs.Prelude.{Ok, Err}
use Rattle.monitor_write.specs.declared.Unwritable.{Unwritable}
use Rattle.monitor_write.specs.declared.Unwritable.TheVariants.{Short}
use Rattle.monitor_write.specs.MonitorWrite.{faulty_at, single_bits, monitor_row, monitor_writing, room_to_write, fault_told, write_monitor, WriteLies}

-- ---- the areas

pub records-fit : (n t : ℕ) → leb n (t / 16) ≡ leb (n * 16) t
records-fit n t = elim (dec_lt (t / 16) n) [
  | yes l ↦ lt-leb n (t / 16) l ∙ sym (lt-leb (n * 16) t (omega arith))
  | no m ↦ le-leb n (t / 16) (omega arith) ∙ sym (le-leb (n * 16) t (omega arith))
]

pub write-lies : (n p s b x t : ℕ) → room_to_write n p s b x t ≡ true → WriteLies n p s b x t
unfolding room_to_write
write-lies n p s b x t e = record {
  frames = frames-lie n p s b x (and_left (frames_room n p s b x) (leb (n * 16) t) e);
  target-long = leb-true (n * 16) t (and_right (frames_room n p s b x) (leb (n * 16) t) e);
}

-- ---- the loop: i records are written

pub records-next : {row : ℕ → List ℕ} {n i : ℕ} {t₀ t t' : List ℕ} → Lays 16 row n t₀ i t → i < n → n * 16 ≤ length t₀ → length (row i) ≡ 16 → length t' ≡ length t
    → t' ≡ written (row i) (i * 16) t → Lays 16 row n t₀ (i + 1) t'
records-next {row} {n} {i} {t₀} {t} {t'} r h m k s e = lays-next 16 row r h m s (e ∙ lies)
  where
    lies : written (row i) (i * 16) t ≡ take (i * 16) t ++ (row i ++ drop 16 (drop (i * 16) t))
    lies =
        append_assoc (take (i * 16) t) (row i) (drop (i * 16 + length (row i)) t)
        ∙ ap (λ (x : ℕ). take (i * 16) t ++ (row i ++ drop (i * 16 + x) t)) k
        ∙ ap (λ (x : List ℕ). take (i * 16) t ++ (row i ++ x)) (sym (drop-drop 16 (i * 16) t))

pub single-or : (a : Option ℕ) → unwrap_or a 0 ≡ single_bits a
unfolding single_bits
single-or (Some w) = refl
single-or None = refl

pub row-size : (P S B X : List ℕ) (i : ℕ) → length (monitor_row P S B X i) ≡ 16
unfolding monitor_row
row-size P S B X i = record-size (num P i) (num S i) (num B i) (single_bits (narrow_of (num X (2 * i)))) (single_bits (narrow_of (num X (2 * i + 1))))

-- ---- the outcomes

module _ (n : ℕ) (P S B X t : List ℕ) where
  pub writing-short : room_to_write n (length P) (length S) (length B) (length X) (length t) ≡ false → monitor_writing (Err Short) t ≡ write_monitor n P S B X t
  unfolding write_monitor
  writing-short e = rw e

  module _ (room : room_to_write n (length P) (length S) (length B) (length X) (length t) ≡ true) (k : ℕ) (found : k ≡ first (faulty_at P S B X) n) where
    pub writing-fault : (a : Unwritable) → k < n → a ≡ fault_told P S B k → monitor_writing (Err a) t ≡ write_monitor n P S B X t
    unfolding write_monitor
    writing-fault a l e = rw (room, ← found, lt-ltb k n l, e)

    pub writing-whole : (t' : List ℕ) → n ≤ k → t' ≡ laid (monitor_row P S B X) 16 n t → monitor_writing (Ok n) t' ≡ write_monitor n P S B X t
    unfolding write_monitor
    writing-whole t' l e = rw (room, ← found, le-ltb k n l, e)
