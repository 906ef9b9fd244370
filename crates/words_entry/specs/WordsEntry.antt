-- The entry tests of a work call where the record is lent as words. Definitions only.
use Rattle.std.specs.Prelude.{Err, List, cond, ℕ}
use Rattle.tree_node.specs.declared.Node.{Node}
use Rattle.run_entry.specs.Entry.{Found, fault_at}
use Rattle.record_words.specs.RecordWords.{run_fine, run_of}
use Rattle.fault_words.specs.FaultWords.{unread_fault}

-- words that are no record, else what the tests find: p, i, g, a and f are the lengths of positions, increments, gains, affinities and forces
unfoldable pub words_fault : List ℕ → ℕ → ℕ → ℕ → ℕ → ℕ → List ℕ → List ℕ → List Node → Found
words_fault w p i g a f xs off ns = cond (run_fine w) (fault_at (run_of w) p i g a f xs off ns) (Err (unread_fault w))
