-- The loop over the cases of a list has come to a word: what follows from there on is the rest of the whole. Assumes nothing.
use Rattle.std.proofs.Common.{◌≡◌, ℕ, zero, suc, ◌+◌, ◌<◌, ◌≤◌, false, Option, None, Some, refl, arith, le-ltb, lt-ltb}
use Rattle.replay.specs.Replay.{tallied}
use Rattle.replay.specs.Cases.{cases_tally}
use Rattle.replay.specs.declared.Tally.{Tally}
use Rattle.replay.specs.declared.cases.Next.{Next}

pub record CasesLead (g : ℕ → Option Next) (n : ℕ) (w : Tally) (a : ℕ) (t : Tally) : Type 0 where
  pub most : ℕ
  pub enough : n ≤ a + most
  pub same : w ≡ cases_tally g n most a t

module _ (g : ℕ → Option Next) (n a : ℕ) (t w : Tally) where
  done-at : (k : ℕ) → n ≤ a → w ≡ cases_tally g n k a t → w ≡ t
  unfolding cases_tally
  done-at zero h s = s
  done-at (suc k) h s = rw (le-ltb a n h) at s

  none-at : (k : ℕ) → n ≤ a + k → a < n → g a ≡ None → w ≡ cases_tally g n k a t → w ≡ tallied t false
  unfolding cases_tally
  none-at zero e h f s = absurd (omega arith)
  none-at (suc k) e h f s = rw (lt-ltb a n h, f) at s

  stop-at : (x : Next) (k : ℕ) → n ≤ a + k → a < n → g a ≡ Some x → x.at ≤ a → w ≡ cases_tally g n k a t → w ≡ tallied (tallied t x.right) false
  unfolding cases_tally
  stop-at x zero e h f m s = absurd (omega arith)
  stop-at x (suc k) e h f m s = rw (lt-ltb a n h, f, le-ltb a x.at m) at s

  next-at : (x : Next) (k : ℕ) → n ≤ a + k → a < n → g a ≡ Some x → a < x.at → w ≡ cases_tally g n k a t → CasesLead g n w x.at (tallied t x.right)
  unfolding cases_tally
  next-at x zero e h f m s = absurd (omega arith)
  next-at x (suc k) e h f m s = record { most = k; enough = omega arith; same = rw (lt-ltb a n h, f, lt-ltb a x.at m) at s }

module _ {g : ℕ → Option Next} {n : ℕ} where
  pub leads-start : (t : Tally) → CasesLead g n (cases_tally g n n 0 t) 0 t
  leads-start t = record { most = n; enough = omega arith; same = refl }

  module _ {w : Tally} {a : ℕ} {t : Tally} where
    pub leads-done : n ≤ a → CasesLead g n w a t → w ≡ t
    leads-done h r = done-at g n a t w r.most h r.same

    pub leads-none : a < n → g a ≡ None → CasesLead g n w a t → w ≡ tallied t false
    leads-none h f r = none-at g n a t w r.most r.enough h f r.same

    module _ {x : Next} (h : a < n) (f : g a ≡ Some x) where
      pub leads-stop : x.at ≤ a → CasesLead g n w a t → w ≡ tallied (tallied t x.right) false
      leads-stop m r = stop-at g n a t w x r.most r.enough h f m r.same

      pub leads-next : a < x.at → CasesLead g n w a t → CasesLead g n w x.at (tallied t x.right)
      leads-next m r = next-at g n a t w x r.most r.enough h f m r.same
