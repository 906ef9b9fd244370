-- `divergence_sums::lay_shares` meets its contract: the loop keeps `Loops`; by `row_in`, `loop-start`, `loop-next`, `loop-done`.
use mathlib.Core.Path.{◌≡◌}
use lib.ListN.{length}
use Rattle.laws.proofs.Loops.{Loops}
use Rattle.divergence_sums.specs.Sums.{kl_share_step}
use Rattle.divergence_sums.proofs.lay_shares.Given as goal

abbrev pub invariant-loop-k : goal.invariant-loop-k
invariant-loop-k l = (length l.shares ≡ length l.initial.shares) × Loops (kl_share_step l.map.positions.now l.total l.map.c l.i l.j) l.m l.initial.shares l.k l.shares
