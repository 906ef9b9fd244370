-- The same values written at the same places of two areas: they agree there, and wherever they agreed before. Assumes nothing.
use mathlib.Core.Path.{◌≡◌, refl, sym, ap, ◌∙◌}
use mathlib.Core.List.{List}
use Prim.Native.Nat.{ℕ, zero, suc, ◌+◌, ◌<◌, ◌≤◌}
use native.Mathlib.Omega.{arith}
use native.Mathlib.Decide.{ℕ_discrete}
use lib.ListN.{length, set, length-set}
use lib.Seq.{get_or-set_same, get_or-set_other, ext_get_or}
use lib.Ieee.{Float, nan}
use Rattle.laws.specs.Area.{at}
use Rattle.laws.specs.Loops.{loop}
use Rattle.overnight.specs.Across.{SameAs, Kept}

-- areas that were one are one
pub kept_whole : {a a' l l' : List Float} → Kept a a' l l' → a ≡ a' → l ≡ l'
kept_whole {a} {a'} {l} {l'} k e = ext_get_or nan l l' (k.long (ap length e)) (λ i h. k.each i (ap (λ (x : List Float). at x i) e))

pub kept_on : {a a' l l' m m' : List Float} → Kept a a' l l' → Kept l l' m m' → Kept a a' m m'
kept_on k j = record { each = λ i e. j.each i (k.each i e); long = λ e. j.long (k.long e) }

module _ (l l' : List Float) (p : ℕ) (v : Float) (h : p < length l) (h' : p < length l') where
  pub set_here : at (set l p v) p ≡ at (set l' p v) p
  set_here = get_or-set_same l p v nan h ∙ sym (get_or-set_same l' p v nan h')

  pub set-alike : SameAs l l' (set l p v) (set l' p v)
  set-alike k e = elim (ℕ_discrete k p) [
    | yes x ↦ rw x set_here
    | no x ↦ get_or-set_other l p k v nan x ∙ (e ∙ sym (get_or-set_other l' p k v nan x))
  ]

-- v e at place p e, for each e
module _ (p : ℕ → ℕ) (v : ℕ → Float) where
  abbrev pub put_at : ℕ → List Float → List Float
  put_at e l = set l (p e) (v e)

  pub puts-alike : (n k : ℕ) (l l' : List Float) → ((e : ℕ) → k ≤ e → e < k + n → p e < length l) → ((e : ℕ) → k ≤ e → e < k + n → p e < length l')
      → SameAs l l' (loop put_at n k l) (loop put_at n k l')
  unfolding loop
  puts-alike zero k l l' h h' x e = e
  puts-alike (suc n) k l l' h h' x e =
      puts-alike n (k + 1) (put_at k l) (put_at k l')
      (λ e a b. rw (length-set l (p k) (v k)) (h e (omega arith) (omega arith)))
      (λ e a b. rw (length-set l' (p k) (v k)) (h' e (omega arith) (omega arith)))
      x (set-alike l l' (p k) (v k) (h k (omega arith) (omega arith)) (h' k (omega arith) (omega arith)) x e)

  pub puts-there : (n k : ℕ) (l l' : List Float) → ((e : ℕ) → k ≤ e → e < k + n → p e < length l) → ((e : ℕ) → k ≤ e → e < k + n → p e < length l') → (e : ℕ) →
      k ≤ e → e < k + n → at (loop put_at n k l) (p e) ≡ at (loop put_at n k l') (p e)
  unfolding loop
  puts-there zero k l l' h h' e a b = absurd (omega arith)
  puts-there (suc n) k l l' h h' e a b =
      let g : (e : ℕ) → k + 1 ≤ e → e < k + 1 + n → p e < length (put_at k l) = λ e a b. rw (length-set l (p k) (v k)) (h e (omega arith) (omega arith)) in
      let g' : (e : ℕ) → k + 1 ≤ e → e < k + 1 + n → p e < length (put_at k l') = λ e a b. rw (length-set l' (p k) (v k)) (h' e (omega arith) (omega arith)) in
      elim (ℕ_discrete e k) [
        | yes x ↦ rw x (puts-alike n (k + 1) (put_at k l) (put_at k l') g g' (p k) (set_here l l' (p k) (v k) (h k (omega arith) (omega arith)) (h' k (omega arith) (omega arith))))
        | no x ↦ puts-there n (k + 1) (put_at k l) (put_at k l') g g' e (omega arith) (omega arith)
      ]

  -- a place that is none of them stays as it is
  pub puts-beside : (n k : ℕ) (l : List Float) (x : ℕ) → ((e : ℕ) → k ≤ e → e < k + n → x ≡ p e → ⊥) → at (loop put_at n k l) x ≡ at l x
  unfolding loop
  puts-beside zero k l x h = refl
  puts-beside (suc n) k l x h = puts-beside n (k + 1) (put_at k l) x (λ e a b. h e (omega arith) (omega arith)) ∙ get_or-set_other l (p k) x (v k) nan (h k (omega arith) (omega arith))
