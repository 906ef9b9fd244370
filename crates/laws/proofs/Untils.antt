-- A loop left early: k turns have led to x, the test has not held yet, and what is left gives the whole. Assumes nothing.
use mathlib.Core.Path.{◌≡◌, refl, sym}
use mathlib.Core.Bool.{Bool, true, false}
use Prim.Native.Nat.{ℕ, zero, suc, ◌+◌, ◌-◌, ◌<◌, ◌≤◌}
use native.Mathlib.Omega.{arith}
use native.Mathlib.Nat.{sub-zero, zero-add, suc-add}
use Rattle.laws.specs.Loops.{until}
use Rattle.laws.proofs.Numbers.{left, none}

module _ {A : Type 0} where
  pub record Untils (p : A → Bool) (f : A → A) (n : ℕ) (y : A) (k : ℕ) (x : A) : Type 0 where
    pub within : k ≤ n
    pub same : until p f (n - k) x ≡ until p f n y

  pub until-start : (p : A → Bool) (f : A → A) (n : ℕ) (y : A) → Untils p f n y 0 y
  until-start p f n y = record { within = omega arith; same = rw sub-zero }

  pub until-next : {p : A → Bool} {f : A → A} {n k : ℕ} {x y : A} → Untils p f n y k x → k < n → p x ≡ false → Untils p f n y (k + 1) (f x)
  unfolding until
  until-next {p} {f} {n} {k} r h e = record { within = omega arith; same = rw (e, until) at (rw (left n k h) at r.same) }

  pub until_stop : {p : A → Bool} {f : A → A} {n k : ℕ} {x y : A} → Untils p f n y k x → k < n → p x ≡ true → x ≡ until p f n y
  unfolding until
  until_stop {p} {f} {n} {k} r h e = rw (e, until) at (rw (left n k h) at r.same)

  pub until-done : {p : A → Bool} {f : A → A} {n k : ℕ} {x y : A} → Untils p f n y k x → n ≤ k → x ≡ until p f n y
  unfolding until
  until-done {p} {f} {n} {k} r h = rw (none n k h) at r.same

  -- where the test holds, nothing more is done
  pub until_end : (p : A → Bool) (f : A → A) (n : ℕ) (x : A) → p x ≡ true → until p f n x ≡ x
  unfolding until
  until_end p f zero x e = refl
  until_end p f (suc n) x e = rw (e, until)

  -- m turns and then n are m + n
  pub until-add : (p : A → Bool) (f : A → A) (m n : ℕ) (x : A) → until p f (m + n) x ≡ until p f n (until p f m x)
  unfolding until
  until-add p f zero n x = rw (zero-add n)
  until-add p f (suc m) n x = rw (suc-add m n) (go (until-add p f m n (f x)) (p x) refl)
    where
      go : until p f (m + n) (f x) ≡ until p f n (until p f m (f x)) → (b : Bool) → p x ≡ b →
          elim (p x) [ true ↦ x | false ↦ until p f (m + n) (f x) ] ≡ until p f n (elim (p x) [ true ↦ x | false ↦ until p f m (f x) ])
      go h true e = rw e (sym (until_end p f n x e))
      go h false e = rw e h
