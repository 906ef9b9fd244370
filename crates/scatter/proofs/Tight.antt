-- The contract of `scatter` allows one outcome: equal outcomes have equal answers and equal positions. Assumes nothing.
use Rattle.std.proofs.Common.{◌≡◌, ◌∙◌, ℕ, List, Result, Ok, Err, sym, refl, ap}
use mathlib.Core.Option.{Option, none-ne-some, some-injective}
use lib.Ieee.{Float}
use Rattle.refusal.specs.declared.Refusal.{Refusal}
use Rattle.refusal.specs.Refusal.{refusal_number, refusal_of, numbered}
use Rattle.refusal.proofs.Numbers.{refusal-by-number}
use Rattle.scatter.specs.Scatter.{ScatterOutcome, scatter_number, scatter_outcome}

-- the number that an answer has
abbrev told : Result Unit Refusal → Option ℕ
told a = scatter_number (numbered refusal_number a)

-- an answer is told by its number
answer-of : (a b : Result Unit Refusal) → told a ≡ told b → a ≡ b
answer-of (Ok x) (Ok y) e = refl
answer-of (Ok x) (Err s) e = absurd (none-ne-some (refusal_number s) e)
answer-of (Err r) (Ok y) e = absurd (none-ne-some (refusal_number r) (sym e))
answer-of (Err r) (Err s) e =
    ap Err (sym (refusal-by-number r) ∙ ap refusal_of (some-injective (refusal_number r) (refusal_number s) e) ∙ refusal-by-number s)

pub one-scattering : (a b : Result Unit Refusal) (p q : List Float) → scatter_outcome (numbered refusal_number a) p ≡ scatter_outcome (numbered refusal_number b) q → (a ≡ b) × (p ≡ q)
one-scattering a b p q e = (answer-of a b (ap (λ (o : ScatterOutcome). o.number) e), ap (λ (o : ScatterOutcome). o.positions) e)
