-- `salvage::copy_record` meets its contract: the part of the area that is written is the record. Assumes nothing.
use mathlib.Core.Path.{sym, ◌∙◌}
use native.Mathlib.Omega.{arith}
use Rattle.little.proofs.Bytes.{mid-written}
use Rattle.salvage.proofs.Foremost.{copied-size, part-copied}
use Rattle.salvage.proofs.copy_record.Goals as goal

pub returns : goal.returns
returns c =
    mid-written c.args.good.now c.args.to
    (c.copy_from_slice.ensures.after ∙ part-copied c.args.file.now c.args.a)
    (omega (arith, copied-size c.args.file.now c.args.a c.requires.1))
