-- `replay_areas::values::numbers_at` meets its contract: by `made-each`.
use Rattle.std.proofs.Common.{rules}
use Rattle.replay_areas.specs.Said.{listed_number}
use Rattle.replay_areas.proofs.Made.{made-each}
use Rattle.replay_areas.proofs.values.numbers_at.Goals as goal

pub returns : goal.returns
returns c = made-each _ (listed_number c.args.list.now c.args.a) _ (λ i x q k. search rules) _ c.from_fn.ensures.items
