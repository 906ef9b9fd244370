-- `bench_mapping::settings` meets its contract: each need follows from its own premises.
use lib.Ieee.{of_bits}
use Rattle.bench_mapping.specs.Mapping.{bench_settings}
use borrow.Author.Rules.{rules}
use Rattle.bench_mapping.proofs.settings.Goals as goal

pub returns : goal.returns
unfolding of_bits bench_settings
returns c =
    search rules
