-- The least number at which a test holds: the loop that looks for it, and what it says. Assumes nothing.
use mathlib.Core.Path.{◌≡◌, refl, sym, subst, ◌∙◌}
use mathlib.Core.Logic.{⊎_elim}
use mathlib.Core.Bool.{Bool, true, false, ◌||◌, true≢false}
use Prim.Native.Nat.{ℕ, zero, suc, ◌+◌, ◌-◌, ◌<◌, ◌≤◌}
use native.Mathlib.Omega.{arith}
use native.Mathlib.Decide.{dec_lt}
use native.Mathlib.Nat.{sub-zero, eq-or-lt_of_le, le_refl}
use lib.Dec.{ltb}
use borrow.Author.Tests.{lt-ltb, le-ltb}
use Rattle.laws.specs.Loops.{seek, first}
use Rattle.laws.proofs.Numbers.{left, none}
use Rattle.laws.proofs.Bools.{two}

-- ---- the loop

pub record Seeks (p : ℕ → Bool) (n k : ℕ) : Type 0 where
  pub within : k ≤ n
  pub same : seek p (n - k) k ≡ seek p n 0

pub seek-start : (p : ℕ → Bool) (n : ℕ) → Seeks p n 0
seek-start p n = record { within = omega arith; same = rw sub-zero }

pub seek-next : {p : ℕ → Bool} {n k : ℕ} → Seeks p n k → k < n → p k ≡ false → Seeks p n (k + 1)
unfolding seek
seek-next {p} {n} {k} r h e = record { within = omega arith; same = rw (e, seek) at (rw (left n k h) at r.same) }

pub seek_stop : {p : ℕ → Bool} {n k : ℕ} → Seeks p n k → k < n → p k ≡ true → k ≡ first p n
unfolding seek
seek_stop {p} {n} {k} r h e = rw (e, seek) at (rw (left n k h) at r.same)

pub seek-done : {p : ℕ → Bool} {n k : ℕ} → Seeks p n k → n ≤ k → k ≡ first p n
unfolding seek
seek-done {p} {n} {k} r h = rw (none n k h) at r.same

-- ---- what it finds

-- what `seek` finds from k on: a place at which p holds, or the end, and before it p does not hold
record Found (p : ℕ → Bool) (n k r : ℕ) : Type 0 where
  from : k ≤ r
  upto : r ≤ k + n
  holds : r < k + n → p r ≡ true
  before : (t : ℕ) → k ≤ t → t < r → p t ≡ false

seeks : (p : ℕ → Bool) (n k : ℕ) → Found p n k (seek p n k)
unfolding seek
seeks p zero k = record { from = le_refl k; upto = omega arith; holds = λ h. absurd (omega arith); before = λ t a b. absurd (omega arith) }
seeks p (suc n) k = by (p k) refl (seeks p n (k + 1))
  where
    by : (b : Bool) → p k ≡ b → Found p n (k + 1) (seek p n (k + 1)) → Found p (suc n) k (elim (p k) [ true ↦ k | false ↦ seek p n (k + 1) ])
    by true e f = rw e (record { from = le_refl k; upto = omega arith; holds = λ h. e; before = λ t a b. absurd (omega arith) })
    by false e f = rw e (record {
      from = omega (arith, f.from);
      upto = omega (arith, f.upto);
      holds = λ h. f.holds (omega arith);
      before = λ t a b. ⊎_elim (λ (q : k ≡ t). subst (λ (i : ℕ). p i ≡ false) q e) (λ l. f.before t (omega arith) b) (eq-or-lt_of_le a);
    })

module _ (p : ℕ → Bool) where
  pub first-le : (n : ℕ) → first p n ≤ n
  first-le n = omega (arith, (seeks p n 0).upto)

  pub first_holds : (n : ℕ) → first p n < n → p (first p n) ≡ true
  first_holds n l = (seeks p n 0).holds (omega arith)

  pub first-before : (n t : ℕ) → t < first p n → p t ≡ false
  first-before n t l = (seeks p n 0).before t (omega arith) l

  pub first-none : (n : ℕ) → ((t : ℕ) → t < n → p t ≡ false) → first p n ≡ n
  first-none n h = elim (dec_lt (first p n) n) [ yes l ↦ absurd (true≢false (sym (first_holds n l) ∙ h (first p n) l)) | no m ↦ omega (arith, first-le n) ]

  -- none holds below n where it finds none
  pub first-all : (n : ℕ) → n ≤ first p n → (t : ℕ) → t < n → p t ≡ false
  first-all n h t l = first-before n t (omega arith)

  pub first-at : (n t : ℕ) → t < n → p t ≡ true → ((s : ℕ) → s < t → p s ≡ false) → first p n ≡ t
  first-at n t l e h =
      let r = first p n in
      elim (dec_lt r t) [
        | yes m ↦ absurd (true≢false (sym (first_holds n (omega arith)) ∙ h r m))
        | no m ↦ elim (dec_lt t r) [ yes k ↦ absurd (true≢false (sym e ∙ first-before n t k)) | no k ↦ omega arith ]
      ]

  pub first_some : (n t : ℕ) → t < n → p t ≡ true → first p n < n
  first_some n t l e = elim (dec_lt (first p n) n) [ yes m ↦ m | no m ↦ absurd (true≢false (sym e ∙ first-all n (omega arith) t l)) ]

  -- one number more
  pub first-keep : (n : ℕ) → first p n < n → first p (suc n) ≡ first p n
  first-keep n h = first-at (suc n) (first p n) (omega arith) (first_holds n h) (λ s l. first-before n s l)

  pub first-take : (n : ℕ) → n ≤ first p n → p n ≡ true → first p (suc n) ≡ n
  first-take n h e = first-at (suc n) n (omega arith) e (λ s l. first-all n h s l)

  pub first-pass : (n : ℕ) → n ≤ first p n → p n ≡ false → first p (suc n) ≡ suc n
  first-pass n h e = first-none (suc n) (λ t l. elim (dec_lt t n) [ yes m ↦ first-all n h t m | no m ↦ subst (λ (i : ℕ). p i ≡ false) (same n t l m) e ])
    where
      same : (n t : ℕ) → t < suc n → (t < n → ⊥) → n ≡ t
      same n t l m = omega arith

  pub first-suc : (n : ℕ) → ltb (first p (suc n)) (suc n) ≡ (ltb (first p n) n || p n)
  first-suc n = elim (dec_lt (first p n) n) [
    | yes l ↦ rw (first-keep n l, lt-ltb (first p n) n l) (lt-ltb (first p n) (suc n) (omega arith))
    | no m ↦ ⊎_elim
        (λ e. rw (first-take n (omega arith) e, le-ltb (first p n) n (omega arith), e) (lt-ltb n (suc n) (omega arith)))
        (λ e. rw (first-pass n (omega arith) e, le-ltb (first p n) n (omega arith), e) (le-ltb (suc n) (suc n) (le_refl (suc n))))
        (two (p n))
  ]

pub first-same : (p q : ℕ → Bool) (n : ℕ) → ((t : ℕ) → t < n → p t ≡ q t) → first p n ≡ first q n
first-same p q n h = elim (dec_lt (first q n) n) [
  | yes l ↦ first-at p n (first q n) l (h (first q n) l ∙ first_holds q n l) (λ s m. h s (omega (arith, first-le q n)) ∙ first-before q n s m)
  | no m ↦ first-none p n (λ t l. h t l ∙ first-all q n (omega arith) t l) ∙ omega (arith, first-le q n)
]
