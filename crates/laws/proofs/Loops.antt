-- A counting loop: k turns have led to x, and the turns that are left give what the whole run gives. Assumes nothing.
use mathlib.Core.Path.{◌≡◌, refl, sym, ap, subst, ◌∙◌}
use Prim.Native.Nat.{ℕ, zero, suc, ◌+◌, ◌-◌, ◌<◌, ◌≤◌}
use native.Mathlib.Omega.{arith}
use native.Mathlib.Numerals.{add-one}
use native.Mathlib.Nat.{sub-zero, add-zero, zero-add, suc-add}
use Rattle.laws.specs.Loops.{loop}
use Rattle.laws.proofs.Numbers.{left, none, shift}

module _ {A : Type 0} where
  pub record Loops (f : ℕ → A → A) (n : ℕ) (y : A) (k : ℕ) (x : A) : Type 0 where
    pub within : k ≤ n
    pub same : loop f (n - k) k x ≡ loop f n 0 y

  pub loop-start : (f : ℕ → A → A) (n : ℕ) (y : A) → Loops f n y 0 y
  loop-start f n y = record { within = omega arith; same = rw sub-zero }

  pub loop-next : {f : ℕ → A → A} {n k : ℕ} {x y : A} → Loops f n y k x → k < n → Loops f n y (k + 1) (f k x)
  unfolding loop
  loop-next {f} {n} {k} r h = record { within = omega arith; same = rw (left n k h) at r.same }

  pub loop-done : {f : ℕ → A → A} {n k : ℕ} {x y : A} → Loops f n y k x → n ≤ k → x ≡ loop f n 0 y
  unfolding loop
  loop-done {f} {n} {k} r h = rw (none n k h) at r.same

  -- what each turn keeps, the whole run keeps
  pub loop-keeps : (P : ℕ → A → Type 0) (f : ℕ → A → A) (n k : ℕ) (x : A) → ((j : ℕ) (y : A) → j < k + n → P j y → P (j + 1) (f j y)) → P k x → P (k + n) (loop f n k x)
  unfolding loop
  loop-keeps P f zero k x s h = rw add-zero h
  loop-keeps P f (suc n) k x s h = subst (λ (m : ℕ). P m (loop f n (k + 1) (f k x))) (shift k n)
      (loop-keeps P f n (k + 1) (f k x) (λ j y l. s j y (subst (λ (m : ℕ). j < m) (shift k n) l)) (s k x (omega arith) h))

  -- two runs one after the other are one
  pub loop-add : (f : ℕ → A → A) (m n k : ℕ) (x : A) → loop f (m + n) k x ≡ loop f n (k + m) (loop f m k x)
  unfolding loop
  loop-add f zero n k x = rw (zero-add n, add-zero k)
  loop-add f (suc m) n k x = rw (suc-add m n) (loop-add f m n (k + 1) (f k x) ∙ rw (shift k m))

  -- the last turn of n + 1
  pub loop-last : (f : ℕ → A → A) (n : ℕ) (x : A) → loop f (suc n) 0 x ≡ f n (loop f n 0 x)
  unfolding loop
  loop-last f n x = ap (λ (m : ℕ). loop f m 0 x) (sym (add-one n)) ∙ loop-add f n 1 0 x ∙ ap (λ (m : ℕ). f m (loop f n 0 x)) (zero-add n)

  -- steps that agree below n run alike
  pub loop-same : (f g : ℕ → A → A) (n k : ℕ) (x : A) → ((j : ℕ) (y : A) → k ≤ j → j < k + n → f j y ≡ g j y) → loop f n k x ≡ loop g n k x
  unfolding loop
  loop-same f g zero k x h = refl
  loop-same f g (suc n) k x h = rw (h k x (omega arith) (omega arith)) (loop-same f g n (k + 1) (g k x) (λ j y a b. h j y (omega arith) (omega arith)))

  moved-from : (f g : ℕ → A → A) (j n k : ℕ) (x : A) → ((t : ℕ) (y : A) → t < k + n → g t y ≡ f (j + t) y) → loop g n k x ≡ loop f n (j + k) x
  unfolding loop
  moved-from f g j zero k x h = refl
  moved-from f g j (suc n) k x h =
      ap (loop g n (k + 1)) (h k x (omega arith))
      ∙ moved-from f g j n (k + 1) (f (j + k) x) (λ t y l. h t y (omega arith))
      ∙ ap (λ (i : ℕ). loop f n i (f (j + k) x)) (on j k)
    where
      on : (j k : ℕ) → j + (k + 1) ≡ j + k + 1
      on j k = omega arith

  -- turns from 0 on that are the turns from j on
  pub loop-moved : (f g : ℕ → A → A) (j n : ℕ) (x : A) → ((t : ℕ) (y : A) → t < n → g t y ≡ f (j + t) y) → loop g n 0 x ≡ loop f n j x
  loop-moved f g j n x h = moved-from f g j n 0 x (λ t y l. h t y (omega arith)) ∙ ap (λ (i : ℕ). loop f n i x) (add-zero j)

  -- m turns more of n
  pub loop-on : {f : ℕ → A → A} {n k : ℕ} {x y : A} (m : ℕ) → Loops f n y k x → k + m ≤ n → Loops f n y (k + m) (loop f m k x)
  loop-on {f} {n} {k} {x} {y} m r h = record { within = h; same = sym (loop-add f m (n - (k + m)) k x) ∙ ap (λ (i : ℕ). loop f i k x) (rest n k m h) ∙ r.same }
    where
      rest : (n k m : ℕ) → k + m ≤ n → m + (n - (k + m)) ≡ n - k
      rest n k m e = omega arith
