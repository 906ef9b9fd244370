-- `replay::put_tally` meets its contract: by `puts_then`.
use Rattle.replay.specs.Line.{tallied_text}
use Rattle.text.proofs.Puts.{puts_then}
use Rattle.replay.proofs.put_tally.Goals as goal

pub returns : goal.returns
unfolding tallied_text
returns c =
    puts_then (puts_then (rw c.shown-n.ensures.name_value at c.put-a.ensures) c.put_counts-b.ensures.puts) c.put_first.ensures
