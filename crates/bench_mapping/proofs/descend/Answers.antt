-- `descend`: preparation, then the work call, as the definitions have it. Assumes nothing.
use Rattle.bench_mapping.proofs.Laws.{refused-map, worked-is}
use Rattle.bench_mapping.proofs.descend.Goals as goal

pub returns-in-Err : goal.returns-in-Err
returns-in-Err c =
    refused-map _ _ _ _ _ c.prepare-p.ensures _ c.in-Err.is

pub returns-in-Ok : goal.returns-in-Ok
returns-in-Ok c =
    worked-is _ _ _ _ _ c.prepare-p.ensures _ _ _ _ c.in-Ok.is c.zero_cells-cells.ensures c.work_on-answer.ensures
