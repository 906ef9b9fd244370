-- Each answer of writing is given exactly where its condition holds, and a refusal changes nothing. Assumes nothing.
use mathlib.Core.Path.{◌≡◌, refl, sym, ap, ◌∙◌, subst}
use mathlib.Core.List.{List}
use mathlib.Core.Bool.{true, false}
use Prim.Native.Nat.{ℕ, ◌<◌}
use native.Mathlib.Omega.{arith}
use native.Mathlib.Nat.{le_of_eq}
use lib.Dec.{ltb}
use lib.ListN.{length}
use borrow.Author.Tests.{ltb-true, ltb-false}
use Rattle.laws.specs.Loops.{first}
use Rattle.laws.specs.Joined.{laid}
use Rattle.laws.proofs.Bools.{by_bool, or_yes}
use Rattle.laws.proofs.First.{first_holds, first-before, first-all, first-none, first-at}
use Rattle.std.specs.Prelude.{Result, Ok, Err}
use Rattle.monitor_write.specs.declared.Unwritable.{Unwritable}
use Rattle.monitor_write.specs.declared.Unwritable.TheVariants.{Short, Bad, Beyond}
use Rattle.monitor_write.specs.MonitorWrite.{wrong_at, past_at, faulty_at, monitor_row, MonitorWriting, monitor_writing, room_to_write, fault_told, write_monitor, monitored_number}
use Rattle.monitor_write.proofs.Laws.{writing-short, writing-fault, writing-whole}
use Rattle.monitoring.specs.MonitorReasons.{HasRoom, FineBefore, WriteReason}

module _ (P S B X : List ℕ) (i : ℕ) where
  wrong-faulty : wrong_at P S B i ≡ true → faulty_at P S B X i ≡ true
  unfolding faulty_at
  wrong-faulty e = rw e

  past-faulty : past_at X i ≡ true → faulty_at P S B X i ≡ true
  unfolding faulty_at
  past-faulty e = or_yes (wrong_at P S B i) (past_at X i) e

  faulty-past : faulty_at P S B X i ≡ true → wrong_at P S B i ≡ false → past_at X i ≡ true
  unfolding faulty_at
  faulty-past e w = rw w at e

  told-wrong : wrong_at P S B i ≡ true → Bad i ≡ fault_told P S B i
  unfolding fault_told
  told-wrong e = rw e

  told-past : wrong_at P S B i ≡ false → Beyond i ≡ fault_told P S B i
  unfolding fault_told
  told-past e = rw e

abbrev written_count : Result ℕ Unwritable → ℕ
written_count (Ok n) = n
written_count (Err e) = 0

module _ (n : ℕ) (P S B X t : List ℕ) where
  answered : (a : Result ℕ Unwritable) (l : List ℕ) → monitor_writing a l ≡ write_monitor n P S B X t → a ≡ (write_monitor n P S B X t).answer
  answered a l e = ap (λ (o : MonitorWriting). o.answer) e

  -- what holds of each outcome holds of the call's
  by-outcome : (G : MonitorWriting → Type 0)
      → (room_to_write n (length P) (length S) (length B) (length X) (length t) ≡ false → G (monitor_writing (Err Short) t))
      → (HasRoom n P S B X t → (k : ℕ) → k < n → FineBefore P S B X k → wrong_at P S B k ≡ true → G (monitor_writing (Err (Bad k)) t))
      → (HasRoom n P S B X t → (k : ℕ) → k < n → FineBefore P S B X k → wrong_at P S B k ≡ false → past_at X k ≡ true → G (monitor_writing (Err (Beyond k)) t))
      → (HasRoom n P S B X t → FineBefore P S B X n → G (monitor_writing (Ok n) (laid (monitor_row P S B X) 16 n t)))
      → G (write_monitor n P S B X t)
  by-outcome G short bad beyond written =
      let p = faulty_at P S B X in
      let k = first p n in
      by_bool (G (write_monitor n P S B X t)) (room_to_write n (length P) (length S) (length B) (length X) (length t))
      (λ e. by_bool (G (write_monitor n P S B X t)) (ltb k n)
      (λ l.
      let m = ltb-true k n l in
      by_bool (G (write_monitor n P S B X t)) (wrong_at P S B k)
      (λ w. subst G (writing-fault n P S B X t e k refl (Bad k) m (told-wrong P S B X k w)) (bad e k m (first-before p n) w))
      (λ w. subst G (writing-fault n P S B X t e k refl (Beyond k) m (told-past P S B X k w)) (beyond e k m (first-before p n) w (faulty-past P S B X k (first_holds p n m) w))))
      (λ l. subst G (writing-whole n P S B X t e k refl (laid (monitor_row P S B X) 16 n t) (ltb-false k n l) refl) (written e (first-all p n (ltb-false k n l)))))
      (λ e. subst G (writing-short n P S B X t e) (short e))

  -- the condition of what is answered holds
  pub write-reason : WriteReason n P S B X t (write_monitor n P S B X t).answer
  write-reason = by-outcome (λ (o : MonitorWriting). WriteReason n P S B X t o.answer) (λ e. e) (λ e k l f w. (e, l, f, w)) (λ e k l f w p. (e, l, f, w, p)) (λ e f. (refl, e, f))

  -- where a condition holds, that is what is answered
  pub write-reason-only : (a : Result ℕ Unwritable) → WriteReason n P S B X t a → a ≡ (write_monitor n P S B X t).answer
  write-reason-only (Ok m) r = ap Ok r.0 ∙ answered (Ok n) (laid (monitor_row P S B X) 16 n t)
      (writing-whole n P S B X t r.1 n (sym (first-none (faulty_at P S B X) n r.2)) (laid (monitor_row P S B X) 16 n t) (le_of_eq refl) refl)
  write-reason-only (Err Short) r = answered (Err Short) t (writing-short n P S B X t r)
  write-reason-only (Err (Bad k)) r = answered (Err (Bad k)) t
      (writing-fault n P S B X t r.0 k (sym (first-at (faulty_at P S B X) n k r.1 (wrong-faulty P S B X k r.3) r.2)) (Bad k) r.1
      (told-wrong P S B X k r.3))
  write-reason-only (Err (Beyond k)) r = answered (Err (Beyond k)) t
      (writing-fault n P S B X t r.0 k (sym (first-at (faulty_at P S B X) n k r.1 (past-faulty P S B X k r.4) r.2)) (Beyond k) r.1
      (told-past P S B X k r.3))

  -- a refusal changes nothing
  pub write-refused : (monitored_number (write_monitor n P S B X t).answer ≡ 0 → ⊥) → (write_monitor n P S B X t).target ≡ t
  write-refused = by-outcome (λ (o : MonitorWriting). (monitored_number o.answer ≡ 0 → ⊥) → o.target ≡ t) (λ e z. refl) (λ e k l f w z. refl) (λ e k l f w p z. refl) (λ e f z. absurd (z refl))

  -- what is written, where it is
  pub write-taken : (m : ℕ) → (write_monitor n P S B X t).answer ≡ Ok m → (m ≡ n) × HasRoom n P S B X t × FineBefore P S B X n ×
      ((write_monitor n P S B X t).target ≡ laid (monitor_row P S B X) 16 n t)
  write-taken m e = by-outcome (λ (o : MonitorWriting). o.answer ≡ Ok m → (m ≡ n) × HasRoom n P S B X t × FineBefore P S B X n × (o.target ≡ laid (monitor_row P S B X) 16 n t))
      (λ r q. absurd (unlike-short q)) (λ r k l f w q. absurd (unlike-bad k q)) (λ r k l f w p q. absurd (unlike-beyond k q)) (λ r f q. (same q, r, f, refl)) e
    where
      unlike-short : Err Short ≡ Ok m → ⊥
      unlike-short q = let z : ◌≡◌ {A = ℕ} 0 1 = cc in omega arith

      unlike-bad : (k : ℕ) → Err (Bad k) ≡ Ok m → ⊥
      unlike-bad k q = let z : ◌≡◌ {A = ℕ} 0 1 = cc in omega arith

      unlike-beyond : (k : ℕ) → Err (Beyond k) ≡ Ok m → ⊥
      unlike-beyond k q = let z : ◌≡◌ {A = ℕ} 0 1 = cc in omega arith

      same : ◌≡◌ {A = Result ℕ Unwritable} (Ok n) (Ok m) → m ≡ n
      same q = sym (ap written_count q)
