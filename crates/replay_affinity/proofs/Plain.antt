-- Plain distances, one place more. Assumes nothing.
use Rattle.std.proofs.Common.{◌≡◌, ℕ, ◌+◌, ◌<◌, true, List, length, set, ap, ◌∙◌, arith, get_or-set_other, get_or-set_same}
use native.Mathlib.Decide.{ℕ_discrete}
use lib.Ieee.{Float, nan}
use Rattle.affinity_near.specs.Near.{plain, Plains}

-- one place more
pub plain-next : (l : List Float) (i : ℕ) (v : Float) → i < length l → plain v ≡ true → Plains l i → Plains (set l i v) (i + 1)
plain-next l i v h e p j lj =
    elim (ℕ_discrete j i) [
      | yes q ↦ rw q (ap plain (get_or-set_same l i v nan h) ∙ e)
      | no q ↦ ap plain (get_or-set_other l i j v nan q) ∙ p j (below j i lj q)
    ]
  where
    below : (j i : ℕ) → j < i + 1 → (j ≡ i → ⊥) → j < i
    below j i h q = omega (arith, h, q)
