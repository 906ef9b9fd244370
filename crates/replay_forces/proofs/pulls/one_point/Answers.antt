-- `one_point`: a list that is in order may be followed. Assumes nothing.
use borrow.Author.Rules.{rules}
use Rattle.replay_forces.proofs.pulls.one_point.Goals as goal

pub forces_in-requires : goal.forces_in-requires
forces_in-requires c = (
  (search rules),
  (search rules),
  (search rules),
  (search rules),
  (search rules),
  (search rules),
  (search rules),
  c.linked.ensures
      c.if-not-linked.false,
)
