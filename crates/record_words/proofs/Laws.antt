-- Words that can be read are there, and the method's word tells the method. Assumes nothing.
use mathlib.Core.Path.{◌≡◌, refl}
use mathlib.Core.List.{List}
use mathlib.Core.Bool.{true, ◌&&◌}
use Prim.Native.Nat.{ℕ, zero, suc, ◌≤◌}
use native.Mathlib.Omega.{arith}
use lib.Dec.{eqb, leb}
use lib.ListN.{length}
use borrow.Author.Tests.{leb-true}
use Rattle.laws.specs.Area.{num}
use Rattle.laws.proofs.Bools.{and_left}
use Rattle.run_record.specs.Record.{is_tree}
use Rattle.record_words.specs.RecordWords.{method_of, settings_fine, run_fine}

pub method-tree : (m : ℕ) → m ≤ 1 → is_tree (method_of m) ≡ eqb m 1
unfolding method_of
method-tree zero h = refl
method-tree (suc zero) h = refl
method-tree (suc (suc m)) h = absurd (omega (arith, h))

pub settings-long : (w : List ℕ) → settings_fine w ≡ true → 9 ≤ length w
unfolding settings_fine
settings-long w e = leb-true 9 (length w) (and_left (leb 9 (length w)) (leb (num w 3) 1) e)

pub run_long : (w : List ℕ) → run_fine w ≡ true → 14 ≤ length w
unfolding run_fine
run_long w e = leb-true 14 (length w) (and_left (leb 14 (length w)) (settings_fine w) (and_left (leb 14 (length w) && settings_fine w) (leb (num w 9) 2) e))
