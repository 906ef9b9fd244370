use Rattle.partner_load.specs.Loaded.{indices_loaded}
use Rattle.areas.proofs.Fetched.{fetches-start, fetches-next, fetches-done}
use Rattle.partner_load.proofs.load_indices.Goals as goal

pub loop-p-init : goal.loop-p-init
loop-p-init c =
    fetches-start

pub loop-p-preserved : goal.loop-p-preserved
loop-p-preserved c =
    rw c.link_to.ensures.0 (fetches-next c.requires c.loop-p-test.true c.loop-p.invariant)

pub returns : goal.returns
unfolding indices_loaded
returns c =
    fetches-done c.loop-p-test.false c.loop-p.invariant
