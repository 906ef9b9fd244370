-- `tree::ways::met` meets its contract: from what its calls promise.
use Rattle.tree.specs.Ways.{met_of}
use native.Mathlib.Omega.{arith}
use Rattle.tree.proofs.ways.met.Goals as goal

pub overflow_cast-w : goal.overflow_cast-w
overflow_cast-w c =
    omega (arith, c.requires.used-named)

pub turn-out-requires : goal.turn-out-requires
turn-out-requires c =
    (c.requires.axes, c.requires.few)

pub point-q-requires : goal.point-q-requires
point-q-requires c =
    (c.requires.axes, rw c.turn-out.ensures c.requires.old-in)

pub returns : goal.returns
unfolding met_of
returns c =
    rw (c.point-q.ensures, c.turn-out.ensures)
