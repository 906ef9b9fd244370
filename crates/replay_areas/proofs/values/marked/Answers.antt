-- `replay_areas::values::marked` meets its contract: by `made-each`.
use Rattle.std.proofs.Common.{rules}
use Rattle.replay_areas.specs.Said.{value_mark}
use Rattle.replay_areas.proofs.Made.{made-each}
use Rattle.replay_areas.proofs.values.marked.Goals as goal

pub returns : goal.returns
returns g c = made-each _ value_mark _ (λ i x q k. search rules) _ c.from_fn.ensures.items
