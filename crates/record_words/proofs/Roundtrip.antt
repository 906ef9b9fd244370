-- What is written as words is what is read from them: settings, a record, and a record of which only the five words were written that a unit can change. Assumes nothing.
use mathlib.Core.Path.{◌≡◌, refl, sym, ap}
use mathlib.Core.List.{List, [], ◌∷◌}
use mathlib.Core.Bool.{Bool, true, ◌&&◌}
use Prim.Native.Nat.{ℕ, zero, suc, ◌≤◌}
use native.Mathlib.Omega.{arith}
use native.Mathlib.Nat.{not-suc-le-zero, le_of_suc-le-suc}
use lib.Dec.{T, leb}
use lib.ListN.{length}
use lib.Ieee.{binary64, fits}
use lib.Ieee.Bits.{of_bits-to_bits, of_bits-fits}
use borrow.Author.Tests.{le-leb, leb-true}
use Rattle.laws.proofs.Bools.{and_left, and_right}
use Rattle.run_record.specs.declared.Method.{Method}
use Rattle.run_record.specs.declared.Method.TheVariants.{Exact, BarnesHut}
use Rattle.run_record.specs.declared.Standing.{Standing}
use Rattle.run_record.specs.declared.Standing.TheVariants.{Running, Stopped, Finished}
use Rattle.run_record.specs.declared.Settings.{Settings}
use Rattle.run_record.specs.declared.Run.{Run}
use Rattle.record_words.specs.RecordWords.{method_of, method_word, settings_fine, settings_of, settings_put, standing_of, standing_word, run_fine, run_of, progress_put, run_put}
use Rattle.record_words.proofs.Laws.{run_long}

-- ---- words one by one

-- what holds of every list that begins with a number holds of every list that has one
pub peel : (P : List ℕ → Type 0) (n : ℕ) → ((x : ℕ) (xs : List ℕ) → n ≤ length xs → P (x ∷ xs)) → (w : List ℕ) → suc n ≤ length w → P w
peel P n f [] h = absurd (not-suc-le-zero h)
peel P n f (x ∷ xs) h = f x xs (le_of_suc-le-suc h)

fourteen : (P : List ℕ → Type 0) → ((n f c m p r i a g s d h u o : ℕ) (rest : List ℕ) → P (n ∷ f ∷ c ∷ m ∷ p ∷ r ∷ i ∷ a ∷ g ∷ s ∷ d ∷ h ∷ u ∷ o ∷ rest)) → (w : List ℕ) → 14 ≤ length w → P w
fourteen P k =
    peel _ 13 (λ n. peel _ 12 (λ f. peel _ 11 (λ c. peel _ 10 (λ m. peel _ 9 (λ p. peel _ 8 (λ r. peel _ 7 (λ i. peel _ 6 (λ a. peel _ 5 (λ g. peel _ 4
    (λ s. peel _ 3 (λ d. peel _ 2 (λ h. peel _ 1 (λ u. peel _ 0 (λ o rest l. k n f c m p r i a g s d h u o rest))))))))))))))

-- ---- method, state, values

method-back : (m : Method) → method_of (method_word m) ≡ m
unfolding method_of
method-back Exact = refl
method-back BarnesHut = refl

method-fine : (m : Method) → leb (method_word m) 1 ≡ true
method-fine Exact = refl
method-fine BarnesHut = refl

standing-back : (s : Standing) → standing_of (standing_word s) ≡ s
unfolding standing_of
standing-back Running = refl
standing-back Stopped = refl
standing-back Finished = refl

word_back : (x : ℕ) → x ≤ 2 → standing_word (standing_of x) ≡ x
unfolding standing_of
word_back zero h = refl
word_back (suc zero) h = refl
word_back (suc (suc zero)) h = refl
word_back (suc (suc (suc x))) h = absurd (omega (arith, h))

standing-fine : (s : Standing) → leb (standing_word s) 2 ≡ true
standing-fine Running = refl
standing-fine Stopped = refl
standing-fine Finished = refl

-- the four values of settings are such as 64 bits can say, NaN among them
pub record Sayable (s : Settings) : Type 0 where
  pub perplexity : T (fits binary64 s.perplexity)
  pub rate : T (fits binary64 s.rate)
  pub angle : T (fits binary64 s.angle)
  pub minimum : T (fits binary64 s.minimum)

-- settings that were read from words are
pub read-sayable : (w : List ℕ) → Sayable (settings_of w)
unfolding settings_of
read-sayable w = record { perplexity = of_bits-fits binary64 _; rate = of_bits-fits binary64 _; angle = of_bits-fits binary64 _; minimum = of_bits-fits binary64 _ }

-- ---- a record

-- fourteen more
abbrev past : ℕ → ℕ
past k = suc (suc (suc (suc (suc (suc (suc (suc (suc (suc (suc (suc (suc (suc k)))))))))))))

past-long : (k : ℕ) → 14 ≤ past k
past-long k = omega arith

fine_of : (k : ℕ) (a b : Bool) → 14 ≤ k → a ≡ true → b ≡ true → leb 14 k && (leb 9 k && a) && b ≡ true
fine_of k a b h ea eb = rw (le-leb 14 k h, le-leb 9 k (omega (arith, h)), ea, eb)

-- the record with other settings
abbrev under : Run → Settings → Run
under r s = record { settings = s; standing = r.standing; done = r.done; phase = r.phase; units = r.units; used = r.used }

module _ (r : Run) where
  -- a record that was written is read again
  pub run-back : Sayable r.settings → (w : List ℕ) → 14 ≤ length w → run_of (run_put r w) ≡ r
  unfolding run_of run_put progress_put settings_of settings_put
  run-back v = fourteen (λ (w : List ℕ). run_of (run_put r w) ≡ r) (λ n f c m p e i a g s d h u o rest. rw (
    of_bits-to_bits binary64 r.settings.perplexity v.perplexity,
    of_bits-to_bits binary64 r.settings.rate v.rate,
    of_bits-to_bits binary64 r.settings.angle v.angle,
    of_bits-to_bits binary64 r.settings.minimum v.minimum,
    method-back r.settings.method,
    standing-back r.standing,
  ))

  pub run-back-fine : (w : List ℕ) → 14 ≤ length w → run_fine (run_put r w) ≡ true
  unfolding run_fine settings_fine run_put progress_put settings_put
  run-back-fine = fourteen (λ (w : List ℕ). run_fine (run_put r w) ≡ true) (λ n f c m p e i a g s d h u o rest. fine_of (past (length rest)) _ _
      (past-long (length rest)) (method-fine r.settings.method) (standing-fine r.standing))

  -- so is one of which only the five words were written that a unit can change, where the settings are those of the other words
  pub progress-back : (w : List ℕ) → 14 ≤ length w → r.settings ≡ settings_of w → run_of (progress_put r w) ≡ r
  unfolding run_of progress_put settings_of
  progress-back = fourteen (λ (w : List ℕ). r.settings ≡ settings_of w → run_of (progress_put r w) ≡ r) (λ n f c m p e i a g s d h u o rest q. rw (standing-back r.standing) (ap (under r) (sym q)))

  pub progress-fine : (w : List ℕ) → run_fine w ≡ true → run_fine (progress_put r w) ≡ true
  unfolding run_fine settings_fine progress_put
  progress-fine w e =
      fourteen (λ (w : List ℕ). run_fine w ≡ true → run_fine (progress_put r w) ≡ true)
      (λ n f c m p e i a g s d h u o rest q. fine_of (past (length rest)) _ _ (past-long (length rest))
      (and_right (leb 9 (past (length rest))) (leb m 1)
      (and_right (leb 14 (past (length rest))) (leb 9 (past (length rest)) && leb m 1)
      (and_left (leb 14 (past (length rest)) && (leb 9 (past (length rest)) && leb m 1)) (leb s 2) q))) (standing-fine r.standing))
      w
      (run_long w e)
      e

  -- written twice, the later counts
  pub progress-again : (q : Run) (w : List ℕ) → 14 ≤ length w → progress_put r (progress_put q w) ≡ progress_put r w
  unfolding progress_put
  progress-again q = fourteen (λ (w : List ℕ). progress_put r (progress_put q w) ≡ progress_put r w) (λ n f c m p e i a g s d h u o rest. refl)

-- a record that is written where it was read changes no word
pub progress-same : (w : List ℕ) → run_fine w ≡ true → progress_put (run_of w) w ≡ w
unfolding run_fine settings_fine progress_put run_of
progress-same w e =
    fourteen (λ (w : List ℕ). run_fine w ≡ true → progress_put (run_of w) w ≡ w)
    (λ n f c m p e i a g s d h u o rest q. rw (word_back s (leb-true s 2 (and_right (leb 14 (past (length rest)) && (leb 9 (past (length rest)) && leb m 1)) (leb s 2) q))))
    w
    (run_long w e)
    e
