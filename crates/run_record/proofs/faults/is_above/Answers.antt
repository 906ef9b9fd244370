-- `run_record::faults::is_above` meets its contract: each need follows from its own premises.
use Rattle.run_record.specs.Record.{above_zero}
use mathlib.Core.Path.{refl}
use Rattle.run_record.proofs.faults.is_above.Goals as goal

pub returns : goal.returns
unfolding above_zero
returns c =
    refl
