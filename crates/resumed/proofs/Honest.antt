-- What is read from a file is honest: a state as preparation and units leave it. Assumes nothing.
use mathlib.Core.Path.{◌≡◌}
use mathlib.Core.List.{List}
use mathlib.Core.Bool.{true}
use Prim.Native.Nat.{ℕ, ◌≤◌}
use native.Mathlib.Omega.{arith}
use lib.ListN.{length, drop, replicate, length-append, length-replicate}
use lib.Ieee.{Float}
use Rattle.laws.specs.Area.{zero64}
use Rattle.areas.specs.Filled.{filled}
use Rattle.little.specs.Little.{word_in}
use Rattle.tree_node.specs.declared.Node.{Node}
use Rattle.run_record.specs.Record.{is_tree, sizes_of}
use Rattle.record_words.specs.RecordWords.{run_of, settings_of}
use Rattle.parked.specs.Parked.{Stored}
use Rattle.std.specs.Prelude.{Ok}
use Rattle.unpark.specs.Unpark.{record_read, settings_read, stored_read, unpark_of}
use Rattle.parking.specs.Held.{state_in}
use Rattle.parking.proofs.Files.{parked-fine}
use Rattle.parking.proofs.Taken.{read-good, read_between}
use Rattle.parking.proofs.Rewritten.{Reads, reads}
use Rattle.descent.specs.Honest.{Honest}

filled-most : (m : ℕ) (F : List Float) → m ≤ length (filled zero64 m F)
filled-most m F = omega (arith, length-append (replicate m zero64) (drop m F), length-replicate m zero64)

module _ (f : List ℕ) (d : Stored) (F : List Float) (nodes k : ℕ) where
  read-honest : (Z : List Float) (ns : List Node) → Reads f d F nodes k → (sizes_of (settings_read (word_in f))).forces ≤ length Z →
      (is_tree (settings_read (word_in f)).method ≡ true → 1 ≤ length ns) → Honest (state_in (stored_read (word_in f) d) Z ns)
  unfolding run_of sizes_of settings_read settings_of record_read
  read-honest Z ns r z n =
      let A = parked-fine f r.stands in
      record { good = read-good (word_in f) A d (length F) nodes r.room Z ns z n; grown = λ t p. absurd (p (read_between (word_in f) A d)) }

  -- What is read is honest: with the forces, which reading has cleared, and any nodes, of a Barnes-Hut run at least one.
  pub what-is-read-is-honest : (unpark_of f d F nodes).answer ≡ Ok k → (ns : List Node) → (is_tree (settings_read (word_in f)).method ≡ true → 1 ≤ length ns) →
      Honest (state_in (unpark_of f d F nodes).left (unpark_of f d F nodes).forces ns)
  what-is-read-is-honest a ns n =
      let r = reads f d F nodes k a in
      let m = (sizes_of (settings_read (word_in f))).forces in
      rw (r.same, r.cleared) (read-honest (filled zero64 m F) ns r (filled-most m F) n)
