-- `replay_areas::bytes::marked_target` meets its contract: by `made-each`.
use Rattle.std.proofs.Common.{rules}
use Rattle.replay_areas.specs.Said.{byte_mark}
use Rattle.replay_areas.proofs.Made.{made-each}
use Rattle.replay_areas.proofs.bytes.marked_target.Goals as goal

pub returns : goal.returns
returns c = made-each _ byte_mark _ (λ i x q k. search rules) _ c.from_fn.ensures.items
