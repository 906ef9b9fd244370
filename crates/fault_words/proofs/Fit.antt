-- Words that are a record, and an answer with a word in it; and that something is told of words that are none. Assumes nothing.
use Rattle.std.specs.Prelude.{Err}
use mathlib.Core.Path.{◌≡◌, refl}
use mathlib.Core.List.{List}
use mathlib.Core.Bool.{Bool, true, false, cond, not}
use Prim.Native.Nat.{ℕ, ◌≤◌}
use native.Mathlib.Omega.{arith}
use lib.Dec.{eqb, ltb}
use lib.ListN.{length}
use borrow.Author.Tests.{eqb-false, not-false, le-ltb}
use Rattle.laws.proofs.Bools.{or_left, or_right}
use Rattle.run_record.specs.declared.Settings.{Settings}
use Rattle.run_record.specs.Record.{settings_fault}
use Rattle.run_entry.specs.declared.Fault.TheVariants.{Settings as BadSettings, Counters}
use Rattle.run_entry.specs.Entry.{is_fine}
use Rattle.record_words.specs.RecordWords.{settings_fine, settings_of, run_fine}
use Rattle.record_words.proofs.Laws.{run_long}
use Rattle.fault_words.specs.FaultWords.{unfit, settings_first, unread_fault}

pub fit-room : (w : List ℕ) (k : ℕ) → unfit w k ≡ false → 1 ≤ k
unfolding unfit
fit-room w k e =
    let ne = eqb-false k 0 (or_left (eqb k 0) (not (run_fine w)) e) in
    omega (arith, ne)

pub fit-long : (w : List ℕ) (k : ℕ) → unfit w k ≡ false → 14 ≤ length w
unfolding unfit
fit-long w k e = run_long w (not-false (run_fine w) (or_right (eqb k 0) (not (run_fine w)) e))

-- of fourteen words whose method there is, the settings are looked at before the state
pub unread-state : (w : List ℕ) {s : Settings} {k : ℕ} → 14 ≤ length w → settings_fine w ≡ true → s ≡ settings_of w → k ≡ settings_fault s → settings_first k ≡ unread_fault w
unread-state w l f es ek = rw (le-ltb (length w) 14 l, f, ek, es)

-- words that are no record have a fault
pub unread-bad : (w : List ℕ) → is_fine (Err (unread_fault w)) ≡ false
unread-bad w = refl
