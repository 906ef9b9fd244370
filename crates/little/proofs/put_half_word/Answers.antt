-- `little::put_half_word` meets its contract: what `to_le_bytes` writes is `little_bytes`.
use mathlib.Core.Path.{sym, ap, ◌∙◌}
use native.Mathlib.Omega.{arith}
use lib.ListN.{take}
use Rattle.little.proofs.Bytes.{bytes_eight, four_of_eight, mid-written, length-bytes}
use Rattle.little.proofs.put_half_word.Goals as goal

pub returns : goal.returns
returns c =
    mid-written _ _ (c.copy_from_slice.ensures.after ∙ ap (take 4) (c.to_le_bytes.ensures ∙ sym (bytes_eight c.args.v)) ∙ four_of_eight c.args.v) (omega (arith, length-bytes 4 c.args.v))
