-- `replay_forces::figures::figures_case` meets its contract: from what its calls promise.
use native.Mathlib.Omega.{arith}
use Rattle.replay_forces.proofs.figures.figures_case.Goals as goal

pub all_linked-requires : goal.all_linked-requires
all_linked-requires c =
    omega (arith, c.requires.1)

pub barnes_hut_kl-figure-requires : goal.barnes_hut_kl-figure-requires
barnes_hut_kl-figure-requires c =
    record { c_in_bounds = omega (arith, c.times-m.ensures.0, c.if-m-gt400.false, c.floats_at-positions.type_inv.1.0.1); all_linked = c.all_linked.ensures c.if-not-all_linked.false }

pub answer_at-requires : goal.answer_at-requires
answer_at-requires c =
    c.requires.1
