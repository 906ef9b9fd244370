-- `replay::areas::value_at` meets its contract: from what its calls promise.
use Rattle.std.proofs.Common.{ℕ, ap, ◌∙◌}
use Rattle.laws.specs.Area.{bits}
use Rattle.replay.proofs.areas.value_at.Goals as goal

pub returns : goal.returns
returns c =
    c.value_of.ensures ∙ ap (λ (b : ℕ). bits b) c.word_at.ensures
