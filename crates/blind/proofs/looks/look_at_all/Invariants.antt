-- `blind::looks::look_at_all` meets its contract: the loop keeps `Adds` and `Scratch`; by `adds-room`, `adds-start`, `adds-next`, `adds-done`, `bit_le`, `scratch-start` and others.
use Rattle.laws.specs.Sums.{bit}
use Rattle.laws.proofs.Sums.{Adds}
use Rattle.laws.proofs.Parts.{Scratch}
use Rattle.blind.specs.Blind.{blind_at, alone_at}
use Rattle.blind.proofs.looks.look_at_all.Given as goal

abbrev pub invariant-loop-i : goal.invariant-loop-i
invariant-loop-i l = (Adds (λ j. bit (blind_at l.s l.table j)) 1 l.s.n l.i l.blind)
    × (Adds (λ j. bit (alone_at l.s l.table j)) 1 l.s.n l.i l.alone)
    × (Scratch l.s.n l.initial.row_values l.row_values)
    × (Scratch l.s.n l.initial.row_shares l.row_shares)
    × (Scratch l.s.n l.initial.row_indices l.row_indices)
