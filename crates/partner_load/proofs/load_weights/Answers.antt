use Rattle.partner_load.specs.Loaded.{weights_loaded}
use Rattle.areas.proofs.Fetched.{fetches-start, fetches-next, fetches-done}
use Rattle.partner_load.proofs.load_weights.Goals as goal

pub loop-p-init : goal.loop-p-init
loop-p-init c =
    fetches-start

pub loop-p-preserved : goal.loop-p-preserved
loop-p-preserved c =
    rw c.link_weight.ensures (fetches-next c.requires c.loop-p-test.true c.loop-p.invariant)

pub returns : goal.returns
unfolding weights_loaded
returns c =
    fetches-done c.loop-p-test.false c.loop-p.invariant
