-- `affinity_lists::symmetrise` meets its contract: the lists from i on are written, the rows below i stand, and the cursors stand at i (`Frames`). Assumes nothing.
use Rattle.affinity_lists.specs.Lists.{areas}
use Rattle.affinity_lists.proofs.Frames.{Frames}
use Rattle.affinity_lists.proofs.symmetrise.Given as goal

abbrev pub invariant-loop-i : goal.invariant-loop-i
invariant-loop-i l = Frames l.n l.k
    (areas l.initial.weights l.initial.indices l.initial.offsets l.row_values l.initial.row_indices) l.i l.q (areas l.weights l.indices l.offsets l.row_values l.row_indices)
