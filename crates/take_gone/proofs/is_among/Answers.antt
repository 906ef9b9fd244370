-- `take_gone::is_among` meets its contract: the library's search finds a place where there is one (`searched-among`). Assumes nothing.
use mathlib.Core.Path.{◌∙◌}
use Rattle.take_gone.proofs.Search.{searched-among}
use Rattle.take_gone.proofs.is_among.Goals as goal

pub returns : goal.returns
returns c =
    c.is_ok.ensures.value ∙ searched-among c.requires c.args.j c.binary_search.result c.binary_search.ensures.position
