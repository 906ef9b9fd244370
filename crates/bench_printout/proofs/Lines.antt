-- The loop that puts a line for each frame: i lines are put. Assumes nothing.
use mathlib.Core.Path.{◌≡◌, refl, sym, subst, ◌∙◌}
use mathlib.Core.List.{List}
use Prim.Native.Nat.{ℕ, ◌+◌, ◌*◌, ◌<◌, ◌≤◌}
use native.Mathlib.Omega.{arith}
use native.Mathlib.Nat.{le_antisymm}
use lib.ListN.{length}
use Rattle.laws.specs.Joined.{joined}
use Rattle.laws.proofs.Joined.{joined-none, joined-next}
use Rattle.text.specs.Text.{Puts}
use Rattle.text.proofs.Puts.{puts_none, puts_then, puts-size}

pub record Lines (row : ℕ → List ℕ) (n a : ℕ) (l₀ : List ℕ) (i b : ℕ) (l : List ℕ) : Type 0 where
  pub within : i ≤ n
  pub small : b ≤ a + 97 * i
  pub size : length l ≡ length l₀
  pub puts : Puts (joined row i) a l₀ b l

module _ {row : ℕ → List ℕ} {n a : ℕ} {l₀ : List ℕ} where
  pub lines_start : a ≤ length l₀ → Lines row n a l₀ 0 a l₀
  lines_start h = record { within = omega arith; small = omega arith; size = refl; puts = subst (λ (w : List ℕ). Puts w a l₀ a l₀) (sym (joined-none row)) (puts_none a l₀ h) }

  pub lines_next : {i b c : ℕ} {l m : List ℕ} → i < n → Lines row n a l₀ i b l → Puts (row i) b l c m → c ≤ b + 97 → Lines row n a l₀ (i + 1) c m
  lines_next {i} {b} {c} {l} {m} h r p s = record {
    within = omega arith;
    small = omega (arith, r.small);
    size = puts-size p ∙ r.size;
    puts = subst (λ (w : List ℕ). Puts w a l₀ c m) (sym (joined-next row i)) (puts_then r.puts p);
  }

  pub lines-done : {i b : ℕ} {l : List ℕ} → n ≤ i → Lines row n a l₀ i b l → Puts (joined row n) a l₀ b l
  lines-done {i} {b} {l} h r = subst (λ (x : ℕ). Puts (joined row x) a l₀ b l) (le_antisymm r.within h) r.puts
