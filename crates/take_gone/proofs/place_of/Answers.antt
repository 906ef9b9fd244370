-- `take_gone::place_of` meets its contract: the library's search finds the place (`searched-place`). Assumes nothing.
use mathlib.Core.Path.{◌∙◌}
use Rattle.take_gone.proofs.Search.{searched-place}
use Rattle.take_gone.proofs.place_of.Goals as goal

pub returns : goal.returns
returns c =
    c.unwrap_or.ensures ∙ searched-place c.requires c.args.j c.binary_search.result c.binary_search.ensures.position
