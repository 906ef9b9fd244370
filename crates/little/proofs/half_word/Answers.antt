-- `little::half_word` meets its contract: what `from_le_bytes` reads is `little_of`.
use mathlib.Core.Path.{sym, ◌∙◌}
use Rattle.little.proofs.Bytes.{four}
use native.Mathlib.Omega.{arith}
use Rattle.little.proofs.half_word.Goals as goal

pub returns : goal.returns
returns c =
    (c.from_le_bytes.ensures ∙ (omega arith) ∙ sym (four _ _), c.from_le_bytes.type_inv)
