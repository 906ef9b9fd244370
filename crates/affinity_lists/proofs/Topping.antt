-- Setting the cursors of the rows at their ends, one after the other: j of them are set. Assumes nothing.
use mathlib.Core.Path.{◌≡◌, refl, subst, ◌∙◌}
use mathlib.Core.List.{List}
use Prim.Native.Nat.{ℕ, ◌+◌, ◌*◌, ◌<◌, ◌≤◌}
use native.Mathlib.Omega.{arith}
use native.Mathlib.Decide.{dec_lt}
use lib.ListN.{length, set, drop, length-set}
use lib.Seq.{get_or-set_same, get_or-set_other, drop-set-lt}
use Rattle.laws.specs.Area.{num}
use Rattle.affinity_links.specs.Links.{past, held_of}
use Rattle.affinity_lists.specs.Steps.{Topped}

pub record Topping (I R₀ : List ℕ) (n k j : ℕ) (R : List ℕ) : Type 0 where
  pub within : j ≤ n
  pub size : length R ≡ length R₀
  pub rows : (x : ℕ) → x < j → num R x ≡ held_of (past I (x * k)) k
  pub tail : drop n R ≡ drop n R₀

module _ {I R₀ : List ℕ} {n k : ℕ} where
  pub topping-start : Topping I R₀ n k 0 R₀
  topping-start = record { within = omega arith; size = refl; rows = λ x l. absurd (omega arith); tail = refl }

  pub topping-next : {j : ℕ} {R : List ℕ} (v : ℕ) → n ≤ length R₀ → j < n → v ≡ held_of (past I (j * k)) k → Topping I R₀ n k j R → Topping I R₀ n k (j + 1) (set R j v)
  topping-next {j} {R} v h l e r = record {
    within = omega arith;
    size = length-set R j v ∙ r.size;
    rows = λ x m. elim (dec_lt x j) [
      | yes b ↦ get_or-set_other R j x v 0 (λ u. omega arith) ∙ r.rows x b
      | no b ↦ subst (λ (y : ℕ). num (set R j v) y ≡ held_of (past I (y * k)) k) (last x m b) (get_or-set_same R j v 0 (omega (arith, r.size)) ∙ e)
    ];
    tail = drop-set-lt n R j v l ∙ r.tail;
  }
    where
      last : (x : ℕ) → x < j + 1 → (x < j → ⊥) → j ≡ x
      last x m b = omega arith

  pub topping-done : {j : ℕ} {R : List ℕ} → n ≤ j → Topping I R₀ n k j R → Topped I R₀ n k R
  topping-done h r = record { rows = λ x l. r.rows x (omega arith); tail = r.tail }
