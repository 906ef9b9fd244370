-- `unpark::record::units_read` meets its contract: by `units-fit`, `head-good`, `head-long`, `parked-head`.
use Rattle.unpark.proofs.Settled.{units-fit}
use Rattle.parked_file.proofs.Stands.{head-good, head-long, parked-head}
use native.Mathlib.Omega.{arith}
use Rattle.unpark.proofs.record.units_read.Goals as goal

pub word-requires : goal.word-requires
word-requires c =
    (omega (arith, head-long _ (parked-head _ c.requires)))

pub word-n-requires : goal.word-n-requires
word-n-requires c =
    (omega (arith, head-long _ (parked-head _ c.requires)))

pub per-p-requires : goal.per-p-requires
per-p-requires c =
    rw c.word-n.ensures (head-good _ (parked-head _ c.requires)).first.n-most

pub word-requires-2 : goal.word-requires-2
word-requires-2 c =
    (omega (arith, head-long _ (parked-head _ c.requires)))

pub overflow_mul-result : goal.overflow_mul-result
overflow_mul-result c =
    rw (c.per-p.ensures, c.method_of-m.ensures, c.word.ensures, c.word-n.ensures, c.word-2.ensures)
    (omega (arith, units-fit _ ((head-good _ (parked-head _ c.requires)))))

pub returns : goal.returns
returns c =
    rw (c.per-p.ensures, c.method_of-m.ensures, c.word.ensures, c.word-n.ensures, c.word-2.ensures)
