-- `desk_files::host_scatter` meets its contract: by `scattered-is`.
use Rattle.desk_files.proofs.Laws.{scattered-is}
use Rattle.desk_files.proofs.host_scatter.Goals as goal

pub returns : goal.returns
returns c =
    scattered-is c.scatter.result _ c.scatter.ensures _ c.number.ensures
