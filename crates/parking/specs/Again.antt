-- A run that was written and is read again: what is left of where it is read to. Definitions only.
use Rattle.std.specs.Prelude.{List, [], ◌∷◌, ◌++◌, cond, ℕ, eqb, drop}
use Rattle.laws.specs.Area.{num}
use Rattle.laws.specs.Joined.{pasted}
use Rattle.parked.specs.Parked.{Stored, stored_of, layout_in}

-- the record's words, but an exact run's angle and the nodes in use, which are 0
unfoldable pub record_again : List ℕ → List ℕ
record_again w =
    num w 0 ∷ num w 1 ∷ num w 2 ∷ num w 3 ∷ num w 4 ∷ num w 5 ∷ num w 6 ∷ cond (eqb (num w 3) 1) (num w 7) 0 ∷ num w 8 ∷
    num w 9 ∷ num w 10 ∷ num w 11 ∷ num w 12 ∷ 0 ∷ []

-- d written and read again into e: n·c positions, increments and gains; of an exact run n·n affinities; of a Barnes-Hut run n + 1 offsets, and as many indices
-- and weights as there are links; all else as it stood in e
unfoldable pub stored_again : Stored → Stored → Stored
stored_again d e =
    let l = layout_in d.run d.offsets in
    stored_of (record_again d.run ++ drop 14 e.run)
    (pasted d.positions 0 l.cells e.positions)
    (pasted d.increments 0 l.cells e.increments)
    (pasted d.gains 0 l.cells e.gains)
    (pasted d.affinities 0 (cond l.tree l.links l.held) e.affinities)
    (pasted d.indices 0 l.links e.indices)
    (pasted d.offsets 0 (cond l.tree l.held 0) e.offsets)
