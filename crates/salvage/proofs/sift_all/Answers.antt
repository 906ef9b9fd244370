use Rattle.salvage.proofs.Sifted.{sifted-start, sifted-can, sifted-next, sifted-done}
use Rattle.salvage.proofs.sift_all.Goals as goal

pub loop-i-init : goal.loop-i-init
loop-i-init c =
    sifted-start c.requires

pub sift_one-s-requires : goal.sift_one-s-requires
sift_one-s-requires c =
    sifted-can
    c.requires
    c.loop-i.invariant
    c.loop-i-test.true

pub loop-i-preserved : goal.loop-i-preserved
loop-i-preserved c =
    sifted-next c.requires c.loop-i.invariant c.loop-i-test.true _ c.sift_one-s.ensures

pub shape_of-good : goal.shape_of-good
shape_of-good c =
    c.loop-i.invariant.good_size

pub shape_of-places : goal.shape_of-places
shape_of-places c =
    c.loop-i.invariant.places_size

pub shape_of-rules : goal.shape_of-rules
shape_of-rules c =
    c.loop-i.invariant.rules_size

pub returns : goal.returns
returns c =
    sifted-done c.requires c.loop-i.invariant c.loop-i-test.false
