-- `replay::put_first` meets its contract: by `puts_then`.
use Rattle.std.proofs.Common.{eq-eqb, ne_eqb}
use Rattle.replay.specs.Line.{first_text}
use Rattle.text.proofs.Puts.{puts_then}
use Rattle.replay.proofs.put_first.Goals as goal

pub returns-then-wrong-eq0 : goal.returns-then-wrong-eq0
unfolding first_text
returns-then-wrong-eq0 c =
    rw (eq-eqb _ _ c.if-wrong-eq0.true) c.put.ensures

pub returns : goal.returns
unfolding first_text
returns c =
    rw (ne_eqb _ _ c.if-wrong-eq0.false) (puts_then (puts_then c.put-a.ensures c.put_decimal-b.ensures.puts) c.put-2.ensures)
