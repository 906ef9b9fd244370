-- The first n places of an area, each changed by itself: what stands there afterwards, and that the rest is kept. Assumes nothing.
use mathlib.Core.Path.{◌≡◌, sym, ap, subst, ◌∙◌}
use mathlib.Core.List.{List}
use Prim.Native.Nat.{ℕ, ◌+◌, ◌-◌, ◌<◌, ◌≤◌}
use native.Mathlib.Omega.{arith}
use native.Mathlib.Decide.{dec_lt}
use native.Mathlib.Nat.{zero-add, not-suc-le-zero}
use lib.ListN.{length, get_or, take, drop, take-append-drop}
use lib.Seq.{drop_at, drop-drop, get_or-set_same, get_or-set_other, length-take-le}
use Rattle.laws.specs.Loops.{loop}
use Rattle.laws.proofs.Loops.{loop-keeps}
use Rattle.laws.proofs.Ahead.{Ahead, ahead-start, ahead-next}
use Rattle.laws.proofs.Places.{change, changed-size, changed-past}
use Rattle.laws.proofs.Parts.{Scratch}

module _ {A : Type 0} where
  module _ (d : A) (g : ℕ → A → A) where
    -- the first k places are changed, the others are as they were
    record Changes (l : List A) (k : ℕ) (m : List A) : Type 0 where
      ahead : Ahead d l m k
      front : (j : ℕ) → j < k → get_or m j d ≡ g j (get_or l j d)

    changes-next : {l m : List A} {k : ℕ} → k < length l → Changes l k m → Changes l (k + 1) (change d g k m)
    changes-next {l} {m} {k} h c = record {
      ahead = ahead-next (g k (get_or m k d)) c.ahead;
      front = λ j a. elim (dec_lt j k) [
        | yes b ↦ get_or-set_other m k j (g k (get_or m k d)) d (λ q. omega arith) ∙ c.front j b
        | no b ↦ subst (λ (i : ℕ). get_or (change d g k m) i d ≡ g i (get_or l i d)) (last j k a b)
            (get_or-set_same m k (g k (get_or m k d)) d (omega (arith, c.ahead.size)) ∙ ap (g k) (c.ahead.same k (omega arith)))
      ];
    }
      where
        last : (j k : ℕ) → j < k + 1 → (j < k → ⊥) → k ≡ j
        last j k a b = omega arith

    pub changed-at : (n : ℕ) (l : List A) → n ≤ length l → (j : ℕ) → j < n → get_or (loop (change d g) n 0 l) j d ≡ g j (get_or l j d)
    changed-at n l h = (subst (λ (k : ℕ). Changes l k (loop (change d g) n 0 l)) (zero-add n)
        (loop-keeps (Changes l) (change d g) n 0 l (λ k m b c. changes-next (omega arith) c)
        (record { ahead = ahead-start d l; front = λ j a. absurd (not-suc-le-zero a) }))).front

    pub changed-tail : (n : ℕ) (l : List A) → n ≤ length l → drop n (loop (change d g) n 0 l) ≡ drop n l
    changed-tail n l h =
        let e : length (take n l) ≡ n = length-take-le n l h in
        ap (λ (r : List A). drop n (loop (change d g) n 0 r)) (sym (take-append-drop n l))
        ∙ ap (drop n) (changed-past d g n (take n l) (drop n l) (omega arith))
        ∙ drop_at (loop (change d g) n 0 (take n l)) (drop n l) n (changed-size d g n (take n l) ∙ e)

  -- areas that are one from k on are one from any later place on
  pub drop-later : (l m : List A) (k n : ℕ) → k ≤ n → drop k l ≡ drop k m → drop n l ≡ drop n m
  drop-later l m k n h e = ap (λ (p : ℕ). drop p l) (split k n h) ∙ sym (drop-drop (n - k) k l) ∙ ap (drop (n - k)) e ∙ drop-drop (n - k) k m ∙ ap (λ (p : ℕ). drop p m) (sym (split k n h))
    where
      split : (k n : ℕ) → k ≤ n → n ≡ k + (n - k)
      split k n h = omega arith

  -- the first k places of scratch are written
  pub scratch-front : {n : ℕ} {l₀ l l' : List A} (k : ℕ) → k ≤ n → length l' ≡ length l → drop k l' ≡ drop k l → Scratch n l₀ l → Scratch n l₀ l'
  scratch-front {n} {l₀} {l} {l'} k h e t s = record { size = e ∙ s.size; tail = drop-later l' l k n h t ∙ s.tail }
