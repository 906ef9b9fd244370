-- `partner::first_unfit` meets its contract: the loop keeps `Seeks`; by `seek-start`, `seek-next`, `seek_stop`, `seek-done`.
use mathlib.Core.Bool.{not}
use Rattle.laws.proofs.First.{Seeks}
use Rattle.partner.specs.Partner.{link_fine, whole_links}
use Rattle.partner.proofs.first_unfit.Given as goal

abbrev pub invariant-loop-i : goal.invariant-loop-i
invariant-loop-i l = Seeks (λ i. not (link_fine l.n l.most l.file i)) (whole_links l.file) l.i
