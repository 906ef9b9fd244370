-- An array that is written place by place to its end. Assumes nothing.
use Rattle.std.proofs.Common.{◌≡◌, ℕ, ◌≤◌, List, ◌++◌, length, drop, sym, ap, ◌∙◌, append-nil}
use lib.Seq.{drop-length}
use Rattle.laws.specs.Joined.{each}
use Rattle.areas.proofs.Fetched.{Fetches, fetches-done}

-- nothing lies past the end
pub fetches-whole : {g : ℕ → ℕ} {m : ℕ} {v₀ : List ℕ} {i : ℕ} {v : List ℕ} → m ≤ i → Fetches g m v₀ i v → length v₀ ≡ m → v ≡ each g m
fetches-whole {g} {m} {v₀} h r e = fetches-done h r ∙ ap (λ (x : ℕ). each g m ++ drop x v₀) (sym e) ∙ ap (λ (x : List ℕ). each g m ++ x) (drop-length v₀) ∙ append-nil (each g m)
