-- `bench_mapping::map_frames` meets its contract: from what its calls promise.
use Rattle.bench_mapping.specs.Mapping.{mapped}
use mathlib.Core.Path.{sym}
use lib.Seq.{length-take-le}
use native.Mathlib.Omega.{arith}
use Rattle.bench_mapping.proofs.map_frames.Goals as goal

pub slice_bounds-descend-end : goal.slice_bounds-descend-end
slice_bounds-descend-end c =
    sym (length-take-le _ _ (omega (arith, c.table_of-table.ensures.value)))

pub slice_bounds-descend-end-2 : goal.slice_bounds-descend-end-2
slice_bounds-descend-end-2 c =
    sym (length-take-le _ _ (omega (arith, c.start_of-start.ensures.value)))

pub returns : goal.returns
unfolding mapped
returns c =
    rw (sym c.table_of-table.ensures.value_2, sym c.start_of-start.ensures.value_2, sym c.settings-s.ensures) c.descend.ensures
