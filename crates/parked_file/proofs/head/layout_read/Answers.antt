-- `parked_file::head::layout_read` meets its contract: by `components-most`, `links-few`, `head-good`, `head-long`.
use Rattle.parked.specs.Fine.{layout_by}
use Rattle.parked_file.proofs.Heads.{components-most, links-few}
use Rattle.parked_file.proofs.Stands.{head-good, head-long}
use native.Mathlib.Omega.{arith}
use Rattle.parked_file.proofs.head.layout_read.Goals as goal

pub word-m-requires : goal.word-m-requires
word-m-requires c =
    omega (arith, head-long _ c.requires)

pub word-n-requires : goal.word-n-requires
word-n-requires c =
    omega (arith, head-long _ c.requires)

pub word-c-requires : goal.word-c-requires
word-c-requires c =
    omega (arith, head-long _ c.requires)

pub word-links-requires : goal.word-links-requires
word-links-requires c =
    omega (arith, head-long _ c.requires)

pub layout_of-requires : goal.layout_of-requires
layout_of-requires c =
    rw (c.word-n.ensures, c.word-c.ensures, c.word-links.ensures)
    ((head-good _ c.requires).first.n-most, components-most _ ((head-good _ c.requires)), links-few _ ((head-good _ c.requires)))

pub returns : goal.returns
unfolding layout_by
returns c =
    rw (c.layout_of.ensures, c.word-m.ensures, c.word-n.ensures, c.word-c.ensures, c.word-links.ensures)
