-- An area of which the first n places are written, each once, with values that do not depend on what stood there. Assumes nothing.
use mathlib.Core.Path.{◌≡◌, refl, ap, subst, ◌∙◌}
use mathlib.Core.List.{List}
use Prim.Native.Nat.{ℕ, ◌+◌, ◌<◌, ◌≤◌}
use native.Mathlib.Omega.{arith}
use native.Mathlib.Decide.{dec_lt}
use native.Mathlib.Nat.{zero-add, not-suc-le-zero}
use lib.ListN.{length, get_or, set, drop, length-set}
use lib.Seq.{drop-drop, drop-set-lt, get_or-set_same, get_or-set_other}
use Rattle.laws.specs.Loops.{loop}
use Rattle.laws.proofs.Loops.{loop-keeps}

module _ {A : Type 0} where
  -- areas that are one from p on are one from p + 1 on
  pub drop-next : (l m : List A) (p : ℕ) → drop p l ≡ drop p m → drop (p + 1) l ≡ drop (p + 1) m
  drop-next l m p e = rw (drop-drop 1 p l, drop-drop 1 p m) at (ap (drop 1) e)

  module _ (g : ℕ → A) where
    -- place k gets g k
    abbrev pub write : ℕ → List A → List A
    write k l = set l k (g k)

    pub written-size : (n : ℕ) (l : List A) → length (loop write n 0 l) ≡ length l
    written-size n l = loop-keeps (λ k m. length m ≡ length l) write n 0 l (λ k m h e. length-set m k (g k) ∙ e) refl

    pub written-tail : (n : ℕ) (l : List A) → drop n (loop write n 0 l) ≡ drop n l
    written-tail n l = subst (λ (q : ℕ). drop q (loop write n 0 l) ≡ drop q l) (zero-add n)
        (loop-keeps (λ k m. drop k m ≡ drop k l) write n 0 l (λ k m h e. drop-set-lt (k + 1) m k (g k) (omega arith) ∙ drop-next m l k e) refl)

    -- the first k places are written
    record Front (d : A) (l : List A) (k : ℕ) (m : List A) : Type 0 where
      size : length m ≡ length l
      holds : (j : ℕ) → j < k → get_or m j d ≡ g j

    front-next : {d : A} {l m : List A} {k : ℕ} → k < length l → Front d l k m → Front d l (k + 1) (write k m)
    front-next {d} {l} {m} {k} h f = record {
      size = length-set m k (g k) ∙ f.size;
      holds = λ j a. elim (dec_lt j k) [
        | yes b ↦ get_or-set_other m k j (g k) d (λ q. omega arith) ∙ f.holds j b
        | no b ↦ subst (λ (i : ℕ). get_or (set m k (g k)) i d ≡ g i) (last j k a b) (get_or-set_same m k (g k) d (omega (arith, f.size)))
      ];
    }
      where
        last : (j k : ℕ) → j < k + 1 → (j < k → ⊥) → k ≡ j
        last j k a b = omega arith

    pub written_at : (d : A) (n : ℕ) (l : List A) → n ≤ length l → (j : ℕ) → j < n → get_or (loop write n 0 l) j d ≡ g j
    written_at d n l h = (subst (λ (q : ℕ). Front d l q (loop write n 0 l)) (zero-add n)
        (loop-keeps (Front d l) write n 0 l (λ k m a f. front-next (omega arith) f) (record { size = refl; holds = λ j a. absurd (not-suc-le-zero a) }))).holds
