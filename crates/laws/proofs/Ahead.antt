-- An area that is written from the front, and is as it was from e on. Assumes nothing.
use mathlib.Core.Path.{◌≡◌, refl, ◌∙◌}
use mathlib.Core.List.{List}
use Prim.Native.Nat.{ℕ, ◌+◌, ◌≤◌}
use native.Mathlib.Omega.{arith}
use lib.ListN.{length, get_or, set, length-set}
use lib.Seq.{get_or-set_other}

module _ {A : Type 0} where
  pub record Ahead (d : A) (l₀ l : List A) (e : ℕ) : Type 0 where
    pub size : length l ≡ length l₀
    pub same : (j : ℕ) → e ≤ j → get_or l j d ≡ get_or l₀ j d

  pub ahead-start : (d : A) (l : List A) → Ahead d l l 0
  ahead-start d l = record { size = refl; same = λ j h. refl }

  pub ahead-next : {d : A} {l₀ l : List A} {e : ℕ} (x : A) → Ahead d l₀ l e → Ahead d l₀ (set l e x) (e + 1)
  ahead-next {d} {l₀} {l} {e} x a = record {
    size = length-set l e x ∙ a.size;
    same = λ j h. get_or-set_other l e j x d (λ q. past j h q) ∙ a.same j (omega arith);
  }
    where
      past : (j : ℕ) → e + 1 ≤ j → j ≡ e → ⊥
      past j h q = omega arith
