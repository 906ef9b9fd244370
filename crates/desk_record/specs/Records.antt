-- What settings and records say, as plain words. Definitions only.
use Rattle.std.specs.Prelude.{List, cond, ℕ, ◌+◌, eqb, ltb, length, set}
use Rattle.laws.specs.Area.{num}
use Rattle.tree.specs.Insert.{enough_nodes}
use Rattle.run_record.specs.declared.Settings.{Settings}
use Rattle.run_record.specs.Record.{is_tree, sizes_of, settings_fault}
use Rattle.record_words.specs.RecordWords.{settings_fine, settings_of, run_fine, Worded, worded}

-- ---- how long the areas of good settings must be

-- positions (increments and gains too), forces, row values (row indices too); affinities, indices, offsets by method; and the nodes with which 14 never comes
unfoldable pub lengths_put : Settings → List ℕ → List ℕ
lengths_put s w =
    let v = set (set (set w 0 (sizes_of s).cells) 4 (sizes_of s).forces) 5 s.n in
    cond (is_tree s.method)
    (set (set (set (set v 1 (sizes_of s).links) 2 (sizes_of s).links) 3 (s.n + 1)) 6 (enough_nodes s.c s.n))
    (set (set (set (set v 1 (sizes_of s).square) 2 0) 3 0) 6 0)

-- words s that are no settings: 21; an area w of fewer than 7 words: 12; then the number that 1 to 10 would give
unfoldable pub host_sizes : List ℕ → List ℕ → Worded
host_sizes s w =
    cond (settings_fine s)
    (cond (ltb (length w) 7) (worded 12 w)
    (cond (eqb (settings_fault (settings_of s)) 0) (worded 0 (lengths_put (settings_of s) w)) (worded (settings_fault (settings_of s)) w)))
    (worded 21 w)

-- ---- what a record says

-- word i of a record, or another number where the words are no record
unfoldable pub said_of : ℕ → ℕ → List ℕ → ℕ
said_of i other w = cond (run_fine w) (num w i) other
