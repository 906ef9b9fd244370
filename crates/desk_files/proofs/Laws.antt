-- What scattering answers and leaves is what the definitions name. Assumes nothing.
use mathlib.Core.Path.{◌≡◌, refl, ap, ◌∙◌}
use mathlib.Core.List.{List}
use Prim.Native.Nat.{ℕ}
use lib.Ieee.{Float}
use Rattle.std.specs.Prelude.{Result, Ok, Err}
use Rattle.refusal.specs.declared.Refusal.{Refusal}
use Rattle.refusal.specs.Refusal.{refusal_number, number_told, numbered}
use Rattle.scatter.specs.Scatter.{ScatterOutcome, scatter_outcome, scatter_number}
use Rattle.frames.specs.Frames.{or_zero}

told : (r : Result Unit Refusal) → number_told refusal_number r ≡ or_zero (scatter_number (numbered refusal_number r))
told (Ok x) = refl
told (Err e) = refl

pub scattered-is : (r : Result Unit Refusal) {p : List Float} (o : ScatterOutcome) → scatter_outcome (numbered refusal_number r) p ≡ o →
    (k : ℕ) → k ≡ number_told refusal_number r → (k ≡ or_zero o.number) × (p ≡ o.positions)
scattered-is r o e k q = (q ∙ told r ∙ ap (λ (x : ScatterOutcome). or_zero x.number) e, ap (λ (x : ScatterOutcome). x.positions) e)
