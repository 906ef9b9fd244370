-- What the work call cites: what its tests have shown, and what it tells in each case. Assumes nothing.
use mathlib.Core.Path.{◌≡◌, sym, ◌∙◌}
use mathlib.Core.List.{List}
use mathlib.Core.Bool.{Bool, true, false, not}
use Prim.Native.Nat.{ℕ, ◌≤◌}
use lib.Dec.{ltb}
use lib.ListN.{length}
use borrow.Author.Tests.{ltb-true, ltb-false, not-true, not-false}
use Rattle.run_record.specs.declared.Run.{Run}
use Rattle.run_entry.specs.State.{Memory, state}
use Rattle.run_budget.specs.declared.Answer.{Answer}
use Rattle.run_budget.specs.declared.Answer.TheVariants.{Bad}
use Rattle.run_budget.specs.Budget.{worked}
use Rattle.descent.specs.Descent.{work, work_number}
use Rattle.record_words.specs.RecordWords.{run_fine, run_of}
use Rattle.fault_words.specs.FaultWords.{unread_fault}
use Rattle.answer_words.specs.AnswerWords.{run_after, answer_put}
use Rattle.record_words.proofs.Laws.{run_long}
use Rattle.desk_work.specs.HostWork.{host_worked, host_work}
use Rattle.desk_work.proofs.Laws.{short-told, unread-told, work-told}

module _ (b : ℕ) (w a : List ℕ) (m : Memory) (x1 : Bool) (e1 : x1 ≡ ltb (length a) 5) where
  -- fewer than five words
  pub short-said : x1 ≡ true → host_worked 12 a w m ≡ host_work b w a m
  short-said y = short-told b w a m (ltb-true (length a) 5 (sym e1 ∙ y))

  pub room-said : x1 ≡ false → 5 ≤ length a
  room-said y = ltb-false (length a) 5 (sym e1 ∙ y)

  module _ (no1 : x1 ≡ false) (x2 : Bool) (e2 : x2 ≡ not (run_fine w)) where
    -- words that are no record
    pub unread-said : x2 ≡ true → (k : ℕ) (a' : List ℕ) → (k ≡ work_number (Bad (unread_fault w))) × (a' ≡ answer_put (Bad (unread_fault w)) a) → host_worked k a' w m ≡ host_work b w a m
    unread-said y k a' e = unread-told b w a m (room-said no1) (not-true (run_fine w) (sym e2 ∙ y)) e.0 e.1

    read-said : x2 ≡ false → run_fine w ≡ true
    read-said y = not-false (run_fine w) (sym e2 ∙ y)

    pub long-said : x2 ≡ false → 14 ≤ length w
    long-said y = run_long w (read-said y)

    -- the work call
    pub work-said : x2 ≡ false → (r : Run) → r ≡ run_of w → (t : Answer) (q : Run) (m' : Memory) → worked t (state q m') ≡ work b (state r m) → (w' : List ℕ) → w' ≡ run_after t q w
        → (a' : List ℕ) → a' ≡ answer_put t a → (k : ℕ) → k ≡ work_number t → host_worked k a' w' m' ≡ host_work b w a m
    work-said y r er t q m' et w' ew a' ea k ek = work-told b w a m (room-said no1) (read-said y) er et ek ea ew
