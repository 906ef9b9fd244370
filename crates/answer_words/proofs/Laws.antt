-- The record after an answer, and what is read from an answer's words. Assumes nothing.
use mathlib.Core.Path.{◌≡◌, refl}
use mathlib.Core.List.{List, ◌∷◌}
use mathlib.Core.Bool.{true, false}
use Prim.Native.Nat.{ℕ, ◌≤◌}
use lib.ListN.{length}
use Rattle.laws.specs.Area.{num}
use Rattle.run_record.specs.declared.Run.{Run}
use Rattle.run_budget.specs.declared.Answer.{Answer}
use Rattle.descent.specs.Descent.{work_number, units_of}
use Rattle.record_words.specs.RecordWords.{progress_put}
use Rattle.record_words.proofs.Roundtrip.{peel}
use Rattle.answer_words.specs.AnswerWords.{kind_word, answer_put, is_bad, run_after}

-- ---- the record after an answer

module _ (a : Answer) (r : Run) (w : List ℕ) where
  pub bad-after : is_bad a ≡ true → w ≡ run_after a r w
  unfolding run_after
  bad-after e = rw e

  pub fine-after : {w' : List ℕ} → is_bad a ≡ false → w' ≡ progress_put r w → w' ≡ run_after a r w
  unfolding run_after
  fine-after e q = rw (e, q)

-- ---- an answer

five : (P : List ℕ → Type 0) → ((k n u f v : ℕ) (rest : List ℕ) → P (k ∷ n ∷ u ∷ f ∷ v ∷ rest)) → (w : List ℕ) → 5 ≤ length w → P w
five P z = peel _ 4 (λ k. peel _ 3 (λ n. peel _ 2 (λ u. peel _ 1 (λ f. peel _ 0 (λ v rest l. z k n u f v rest)))))

-- its first three words
pub answer_back : (t : Answer) (a : List ℕ) → 5 ≤ length a → (num (answer_put t a) 0 ≡ kind_word t) × (num (answer_put t a) 1 ≡ work_number t) × (num (answer_put t a) 2 ≡ units_of t)
unfolding answer_put
answer_back t = five (λ (a : List ℕ). (num (answer_put t a) 0 ≡ kind_word t) × (num (answer_put t a) 1 ≡ work_number t) × (num (answer_put t a) 2 ≡ units_of t)) (λ k n u f v rest. (refl, refl, refl))
