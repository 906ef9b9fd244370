-- `run_record::progress::advanced` meets its contract: each need follows from its own premises.
use Rattle.run_record.specs.Record.{advanced_of}
use mathlib.Core.Path.{refl}
use Rattle.run_record.proofs.progress.advanced.Goals as goal

pub returns : goal.returns
unfolding advanced_of
returns c =
    refl
