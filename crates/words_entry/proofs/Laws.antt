-- What the entry tests on words show where they pass. Assumes nothing.
use mathlib.Core.List.{List}
use mathlib.Core.Path.{◌≡◌, sym}
use mathlib.Core.Bool.{true, true≢false}
use Prim.Native.Nat.{ℕ}
use Rattle.laws.proofs.Bools.{by_bool}
use Rattle.tree_node.specs.declared.Node.{Node}
use Rattle.run_entry.specs.Entry.{is_fine, fault_at}
use Rattle.record_words.specs.RecordWords.{run_fine, run_of}
use Rattle.words_entry.specs.WordsEntry.{words_fault}

-- words that pass are a record that passes
pub words-fine : (w : List ℕ) (p i g a f : ℕ) (xs off : List ℕ) (ns : List Node) → is_fine (words_fault w p i g a f xs off ns) ≡ true → (run_fine w ≡ true) ×
    (is_fine (fault_at (run_of w) p i g a f xs off ns) ≡ true)
unfolding words_fault
words-fine w p i g a f xs off ns e = by_bool ((run_fine w ≡ true) × (is_fine (fault_at (run_of w) p i g a f xs off ns) ≡ true)) (run_fine w)
    (λ t. (t, rw t at e))
    (λ t. absurd (true≢false (sym (rw t at e))))
