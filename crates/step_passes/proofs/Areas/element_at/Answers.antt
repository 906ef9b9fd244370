-- `step_passes::Areas::element_at` meets its contract: from what its calls promise.
use Rattle.step_passes.specs.Passes.{element_at}
use Rattle.step_passes.proofs.Areas.element_at.Goals as goal

pub returns : goal.returns
unfolding element_at
returns c =
    rw c.gradient_at-g.ensures at c.new_element.ensures
