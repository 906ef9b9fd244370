-- `replay_areas::values::words_at` meets its contract: by `made-each`.
use Rattle.std.proofs.Common.{rules}
use Rattle.replay_areas.specs.Said.{listed_word}
use Rattle.replay_areas.proofs.Made.{made-each}
use Rattle.replay_areas.proofs.values.words_at.Goals as goal

pub returns : goal.returns
returns g c = made-each _ (listed_word c.args.list.now c.args.a) _ (λ i x q k. search rules) _ c.from_fn.ensures.items
