-- `bench_mapping::number` meets its contract: from what its calls promise.
use Rattle.bench_mapping.specs.Mapping.{map_number}
use Rattle.bench_mapping.proofs.number.Goals as goal

pub returns-in-Err : goal.returns-in-Err
unfolding map_number
returns-in-Err c =
    rw c.in-Err.is c.number.ensures

pub returns-in-Ok : goal.returns-in-Ok
unfolding map_number
returns-in-Ok c =
    rw c.in-Ok.is c.number-in-Ok.ensures
