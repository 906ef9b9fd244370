-- `run_entry::index_fine` meets its contract: from what its calls promise.
use mathlib.Core.Path.{refl}
use Rattle.run_entry.specs.Entry.{index_fine}
use Rattle.run_entry.proofs.index_fine.Goals as goal

pub returns : goal.returns
unfolding index_fine
returns c = refl
