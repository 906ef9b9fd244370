-- What the work call leaves is what the definition names. Assumes nothing.
use mathlib.Core.Path.{◌≡◌, ap}
use mathlib.Core.List.{List}
use mathlib.Core.Bool.{true, false}
use Prim.Native.Nat.{ℕ, ◌<◌, ◌≤◌}
use lib.ListN.{length}
use borrow.Author.Tests.{lt-ltb, le-ltb}
use Rattle.run_record.specs.declared.Run.{Run}
use Rattle.run_entry.specs.State.{Memory, state}
use Rattle.run_budget.specs.declared.Answer.{Answer}
use Rattle.run_budget.specs.declared.Answer.TheVariants.{Bad}
use Rattle.run_budget.specs.Budget.{Worked, worked}
use Rattle.descent.specs.Descent.{work, work_number}
use Rattle.record_words.specs.RecordWords.{run_fine, run_of}
use Rattle.fault_words.specs.FaultWords.{unread_fault}
use Rattle.answer_words.specs.AnswerWords.{run_after, answer_put}
use Rattle.desk_work.specs.HostWork.{host_worked, worked_in, host_work}

module _ (b : ℕ) (w a : List ℕ) (m : Memory) where
  pub short-told : length a < 5 → host_worked 12 a w m ≡ host_work b w a m
  unfolding host_work
  short-told h = rw (lt-ltb (length a) 5 h)

  pub unread-told : {k : ℕ} {a' : List ℕ} → 5 ≤ length a → run_fine w ≡ false → k ≡ work_number (Bad (unread_fault w)) → a' ≡ answer_put (Bad (unread_fault w)) a
      → host_worked k a' w m ≡ host_work b w a m
  unfolding host_work
  unread-told h e ek q = rw (le-ltb (length a) 5 h, e, ek, q)

  module _ {r q : Run} {t : Answer} {m' : Memory} (h : 5 ≤ length a) (e : run_fine w ≡ true) (s : r ≡ run_of w) (o : worked t (state q m') ≡ work b (state r m)) where
    pub work-told : {k : ℕ} {a' w' : List ℕ} → k ≡ work_number t → a' ≡ answer_put t a → w' ≡ run_after t q w → host_worked k a' w' m' ≡ host_work b w a m
    unfolding host_work
    work-told ek ea ew =
        let o' : worked t (state q m') ≡ work b (state (run_of w) m) = rw s at o in
        rw (le-ltb (length a) 5 h, e, ek, ea, ew) (ap (λ (x : Worked). worked_in x a w) o')
