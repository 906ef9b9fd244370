-- `desk_take::put_size` meets its contract: each need follows from its own premises.
use mathlib.Core.Path.{refl}
use lib.ListN.{length-set}
use Rattle.desk_take.specs.HostTake.{size_put}
use native.Mathlib.Omega.{arith}
use Rattle.desk_take.proofs.put_size.Goals as goal

pub bounds-words-12 : goal.bounds-words-12
bounds-words-12 c =
    omega (arith, c.requires, length-set c.args.words.now 0 c.args.r.settings.n)

pub returns : goal.returns
unfolding size_put
returns c =
    refl
