-- Each answer of reading is given exactly where its condition holds, and a refusal changes nothing. Assumes nothing.
use mathlib.Core.Path.{◌≡◌, refl, sym, ap, ◌∙◌, subst}
use mathlib.Core.Logic.{◌⊎◌, inl, inr}
use mathlib.Core.List.{List}
use mathlib.Core.Bool.{true, false}
use Prim.Native.Nat.{ℕ, ◌*◌, ◌%◌, ◌<◌}
use native.Mathlib.Omega.{arith}
use native.Mathlib.Nat.{le_of_eq, le_antisymm}
use lib.Dec.{ltb, eqb}
use lib.ListN.{length}
use borrow.Author.Tests.{ltb-true, ltb-false, eqb-true, eqb-false}
use Rattle.laws.proofs.Bools.{by_bool}
use Rattle.laws.proofs.First.{first-le, first_holds, first-before, first-all, first-none, first-at}
use Rattle.monitor.specs.Monitor.{frames_room}
use Rattle.std.specs.Prelude.{Result, Ok, Err}
use Rattle.refusal.specs.declared.Unreadable.{Unreadable}
use Rattle.refusal.specs.declared.Unreadable.TheVariants.{Bad, Short}
use Rattle.monitor_read.specs.MonitorRead.{byte_at, monitor_picture, broken_at, whole_monitor, first_broken, is_monitor}
use Rattle.monitor_read.specs.MonitorRead.{MonitorReading, monitor_reading, fronted, widened_at, read_monitor, monitor_read_number}
use Rattle.monitor_read.proofs.Laws.{broken-found, stray-tail, all_fit, reading-bad, reading-short, reading-done}
use Rattle.monitoring.specs.MonitorReasons.{GoodBefore, AllGood, ReadReason}

-- a file of good records with no tail is one for the monitor
pub good-file : (f : List ℕ) → AllGood f → is_monitor f ≡ true
good-file f g = all_fit f (whole_monitor f) (sym (first-none (broken_at f) (whole_monitor f) g.0)) (le_of_eq refl) g.1

abbrev read_count : Result ℕ Unreadable → ℕ
read_count (Ok n) = n
read_count (Err e) = 0

module _ (f P S B X : List ℕ) where
  abbrev pub taken_reading : MonitorReading
  taken_reading = monitor_reading (Ok (whole_monitor f)) (fronted (monitor_picture f) (whole_monitor f) P) (fronted (byte_at f 4) (whole_monitor f) S)
      (fronted (byte_at f 5) (whole_monitor f) B) (fronted (widened_at f) (2 * whole_monitor f) X)

  answered : (a : Result ℕ Unreadable) (P' S' B' X' : List ℕ) → monitor_reading a P' S' B' X' ≡ read_monitor f P S B X → a ≡ (read_monitor f P S B X).answer
  answered a P' S' B' X' e = ap (λ (o : MonitorReading). o.answer) e

  pub out-filled : AllGood f → frames_room (whole_monitor f) (length P) (length S) (length B) (length X) ≡ true → taken_reading ≡ read_monitor f P S B X
  out-filled g e = reading-done f P S B X (good-file f g) (fronted (monitor_picture f) (whole_monitor f) P) (fronted (byte_at f 4) (whole_monitor f) S)
      (fronted (byte_at f 5) (whole_monitor f) B) (fronted (widened_at f) (2 * whole_monitor f) X) e refl refl refl refl

  -- what holds of each outcome holds of the call's
  by-outcome : (G : MonitorReading → Type 0)
      → ((k : ℕ) → GoodBefore f k → ((k < whole_monitor f) × (broken_at f k ≡ true)) ⊎ ((k ≡ whole_monitor f) × (length f % 16 ≡ 0 → ⊥)) → G (monitor_reading (Err (Bad k)) P S B X))
      → (AllGood f → frames_room (whole_monitor f) (length P) (length S) (length B) (length X) ≡ false → G (monitor_reading (Err Short) P S B X))
      → (AllGood f → frames_room (whole_monitor f) (length P) (length S) (length B) (length X) ≡ true → G taken_reading)
      → G (read_monitor f P S B X)
  by-outcome G bad short taken =
      let p = broken_at f in
      let n = whole_monitor f in
      let k = first_broken f in
      let goal = G (read_monitor f P S B X) in
      by_bool goal (ltb k n)
      (λ l.
      let m = ltb-true k n l in
      subst G (reading-bad f k refl P S B X (broken-found f k refl m)) (bad k (first-before p n) (inl (m, first_holds p n m))))
      (λ l.
      let m = ltb-false k n l in
      by_bool goal (eqb (length f % 16) 0)
      (λ z.
      let g : AllGood f = (first-all p n m, eqb-true (length f % 16) 0 z) in
      by_bool goal (frames_room n (length P) (length S) (length B) (length X))
      (λ e. subst G (out-filled g e) (taken g e))
      (λ e. subst G (reading-short f P S B X (good-file f g) e) (short g e)))
      (λ z. subst G (reading-bad f k refl P S B X (stray-tail f k refl m (eqb-false (length f % 16) 0 z)))
      (bad k (first-before p n) (inr (le_antisymm (first-le p n) m, eqb-false (length f % 16) 0 z)))))

  -- the condition of what is answered holds
  pub read-reason : ReadReason f P S B X (read_monitor f P S B X).answer
  read-reason = by-outcome (λ (o : MonitorReading). ReadReason f P S B X o.answer) (λ k g w. (g, w)) (λ g e. (g, e)) (λ g e. (refl, g, e))

  -- where a condition holds, that is what is answered
  pub read-reason-only : (a : Result ℕ Unreadable) → ReadReason f P S B X a → a ≡ (read_monitor f P S B X).answer
  read-reason-only (Ok n) r = ap Ok r.0 ∙ ap (λ (o : MonitorReading). o.answer) (out-filled r.1 r.2)
  read-reason-only (Err (Bad k)) (g, inl w) =
      let found : k ≡ first_broken f = sym (first-at (broken_at f) (whole_monitor f) k w.0 w.1 g) in
      answered (Err (Bad k)) P S B X (reading-bad f k found P S B X (broken-found f k found w.0))
  read-reason-only (Err (Bad k)) (g, inr w) =
      let found : k ≡ first_broken f = w.0 ∙ sym (first-none (broken_at f) (whole_monitor f) (subst (GoodBefore f) w.0 g)) in
      answered (Err (Bad k)) P S B X (reading-bad f k found P S B X (stray-tail f k found (le_of_eq (sym w.0)) w.1))
  read-reason-only (Err Short) r = answered (Err Short) P S B X (reading-short f P S B X (good-file f r.0) r.1)

  -- a refusal changes nothing
  pub read-refused : (monitor_read_number (read_monitor f P S B X).answer ≡ 0 → ⊥) → read_monitor f P S B X ≡ monitor_reading (read_monitor f P S B X).answer P S B X
  read-refused = by-outcome (λ (o : MonitorReading). (monitor_read_number o.answer ≡ 0 → ⊥) → o ≡ monitor_reading o.answer P S B X) (λ k g w z. refl) (λ g e z. refl) (λ g e z. absurd (z refl))

  -- what is read, where it is
  pub read_taken : (m : ℕ) → (read_monitor f P S B X).answer ≡ Ok m → (m ≡ whole_monitor f) × AllGood f ×
      (frames_room (whole_monitor f) (length P) (length S) (length B) (length X) ≡ true) × (read_monitor f P S B X ≡ taken_reading)
  read_taken m e = by-outcome (λ (o : MonitorReading). o.answer ≡ Ok m → (m ≡ whole_monitor f) × AllGood f ×
      (frames_room (whole_monitor f) (length P) (length S) (length B) (length X) ≡ true) × (o ≡ taken_reading))
      (λ k g w q. absurd (unlike-bad k q)) (λ g r q. absurd (unlike-short q)) (λ g r q. (same q, g, r, refl)) e
    where
      unlike-bad : (k : ℕ) → Err (Bad k) ≡ Ok m → ⊥
      unlike-bad k q = let z : ◌≡◌ {A = ℕ} 0 1 = cc in omega arith

      unlike-short : Err Short ≡ Ok m → ⊥
      unlike-short q = let z : ◌≡◌ {A = ℕ} 0 1 = cc in omega arith

      same : ◌≡◌ {A = Result ℕ Unreadable} (Ok (whole_monitor f)) (Ok m) → m ≡ whole_monitor f
      same q = sym (ap read_count q)
