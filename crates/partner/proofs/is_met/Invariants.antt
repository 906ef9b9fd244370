-- `partner::is_met` meets its contract: the loop keeps `Bisects`; by `met-empty`, `met-done`, `bisects-start`, `bisects-within`, `bisects-next`.
use Rattle.laws.proofs.Bisects.{Bisects}
use Rattle.partner.specs.Partner.{link_pair, turned_pair}
use Rattle.partner.proofs.is_met.Given as goal

abbrev pub invariant-loop-left : goal.invariant-loop-left
invariant-loop-left l = Bisects (link_pair l.file) (turned_pair l.file l.i) l.a l.k l.low l.left

abbrev pub decreases-loop-left : goal.decreases-loop-left
decreases-loop-left l = l.left
