-- `little::put_word` meets its contract: what `to_le_bytes` writes is `little_bytes`.
use mathlib.Core.Path.{sym, ◌∙◌}
use native.Mathlib.Omega.{arith}
use Rattle.little.proofs.Bytes.{bytes_eight, mid-written, length-bytes}
use Rattle.little.proofs.put_word.Goals as goal

pub returns : goal.returns
returns c =
    mid-written _ _ (c.copy_from_slice.ensures.after ∙ c.to_le_bytes.ensures ∙ sym (bytes_eight c.args.v)) (omega (arith, length-bytes 8 c.args.v))
