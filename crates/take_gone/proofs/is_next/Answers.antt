-- `take_gone::is_next` meets its contract: by `abreast-here`, `abreast-end`.
use lib.ListN.{length}
use mathlib.Core.Path.{◌∙◌}
use borrow.Author.Tests.{le-ltb}
use Rattle.take_gone.proofs.Next.{abreast-here, abreast-end}
use Rattle.take_gone.proofs.is_next.Goals as goal

pub returns-then-g-list : goal.returns-then-g-list
returns-then-g-list c =
    abreast-here c.requires c.if-g-list.true

pub returns-else-g-list : goal.returns-else-g-list
returns-else-g-list c =
    le-ltb c.args.g (length c.args.list.now) c.if-g-list.false ∙ abreast-end c.requires c.if-g-list.false
