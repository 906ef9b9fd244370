-- An import that its tests refuse is told by the number that they give. Assumes nothing.
use mathlib.Core.Path.{◌≡◌, refl}
use mathlib.Core.List.{List}
use mathlib.Core.Bool.{Bool, true, false, cond, not}
use Prim.Native.Nat.{ℕ, ◌*◌}
use lib.Dec.{eqb}
use lib.ListN.{length}
use Rattle.refusal.specs.Refusal.{refusal_number, refusal_of}
use Rattle.run_record.specs.declared.Settings.{Settings}
use Rattle.run_record.specs.Record.{angle_fault, early_fault, late_fault, settings_fault}
use Rattle.partner_import.specs.declared.LentLengths.{LentLengths}
use Rattle.run_entry.specs.Entry.{areas_fit}
use Rattle.partner_import.specs.Import.{start_fine, import_fault}

-- k is 0, or the number of a refusal
record Numbers (k : ℕ) : Type 0 where
  again : (k ≡ 0 → ⊥) → refusal_number (refusal_of k) ≡ k

either : (t : Bool) {a b : ℕ} → Numbers a → Numbers b → Numbers (cond t a b)
either true p q = p
either false p q = q

by_number : (k : ℕ) → refusal_number (refusal_of k) ≡ k → Numbers k
by_number k e = record { again = λ n. e }

none : Numbers 0
none = record { again = λ n. absurd (n refl) }

angle : (s : Settings) → Numbers (angle_fault s.method s.angle s.c)
unfolding angle_fault
angle s = either _ (either _ (by_number 5 refl) (either _ (by_number 6 refl) none)) none

early : (s : Settings) → Numbers (early_fault s)
unfolding early_fault
early s =
    either _ (by_number 1 refl)
    (either _ (by_number 2 refl)
    (either _ (by_number 3 refl)
    (either _ (by_number 4 refl)
    (either _ (angle s) (either _ (by_number 7 refl) none)))))

late : (s : Settings) → Numbers (late_fault s)
unfolding late_fault
late s = either _ (by_number 9 refl) (either _ none (by_number 10 refl))

settings : (s : Settings) → Numbers (settings_fault s)
unfolding settings_fault
settings s = either _ (early s) (late s)

tests : (s : Settings) (start : List ℕ) (l : LentLengths) → Numbers (import_fault s start l)
unfolding import_fault
tests s start l =
    either _ (settings s)
    (either (not (eqb (length start) (s.n * s.c))) (by_number 11 refl)
    (either (not (start_fine start (s.n * s.c))) (by_number 11 refl)
    (either (areas_fit s l.positions l.increments l.gains l.affinities l.indices l.offsets l.forces l.nodes) none (by_number 12 refl))))

pub import-numbered : (s : Settings) (start : List ℕ) (l : LentLengths) → (import_fault s start l ≡ 0 → ⊥) → refusal_number (refusal_of (import_fault s start l)) ≡ import_fault s start l
import-numbered s start l = (tests s start l).again
