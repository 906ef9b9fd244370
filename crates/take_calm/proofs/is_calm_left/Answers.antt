-- `take_calm::is_calm_left` meets its contract: by `means-written`.
use Rattle.take_calm.proofs.Over.{means-written}
use Rattle.laws.specs.Area.{zeros8}
use Rattle.take_gone.specs.Gone.{survivors}
use mathlib.Core.Path.{refl}
use Rattle.take_calm.proofs.is_calm_left.Goals as goal

pub is_calm_by-requires : goal.is_calm_by-requires
is_calm_by-requires c = (
  c.requires.0,
  c.requires.1,
  c.requires.2,
  c.requires.3,
  means-written (survivors c.args.gone.now c.args.n)
      c.args.c c.args.positions.now zeros8 _ refl c.requires.1 c.means_left.ensures,
)
