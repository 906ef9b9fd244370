-- `little::word` meets its contract: what `from_le_bytes` reads is `little_of`.
use mathlib.Core.Path.{sym, ◌∙◌}
use Rattle.little.proofs.Bytes.{eight}
use native.Mathlib.Omega.{arith}
use Rattle.little.proofs.word.Goals as goal

pub returns : goal.returns
returns c =
    c.from_le_bytes.ensures ∙ omega arith ∙ sym (eight _ _)
