-- `replay_areas::bytes::bytes_at` meets its contract: by `made-each`.
use Rattle.std.proofs.Common.{rules}
use Rattle.replay_areas.specs.Said.{list_byte}
use Rattle.replay_areas.proofs.Made.{made-each}
use Rattle.replay_areas.proofs.bytes.bytes_at.Goals as goal

pub returns : goal.returns
returns c = made-each _ (list_byte c.args.list.now c.args.a) _ (λ i x q k. search rules) _ c.from_fn.ensures.items
