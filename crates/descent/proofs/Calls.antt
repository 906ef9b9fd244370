-- The call: what the entry tests found, or the units; and what its answers cite. Assumes nothing.
use Rattle.std.specs.Prelude.{Ok, Err}
use mathlib.Core.Path.{◌≡◌, refl, sym, ap, ◌∙◌}
use mathlib.Core.Bool.{true, false}
use mathlib.Core.List.{List}
use Prim.Native.Nat.{ℕ}
use lib.ListN.{length}
use lib.Ieee.{Float}
use Rattle.run_calls.specs.Machine.{go, call}
use Rattle.run_record.specs.declared.Run.{Run}
use Rattle.tree_node.specs.declared.Cell.{Cell}
use Rattle.tree_node.specs.Arena.{nodes_of}
use Rattle.run_entry.specs.State.{State, memory, state}
use Rattle.run_entry.specs.declared.Fault.{Fault}
use Rattle.run_entry.specs.Entry.{Found, fault_at, fault_of, is_fine, Good}
use Rattle.run_entry.proofs.Laws.{fault-fine}
use Rattle.run_budget.specs.declared.Answer.TheVariants.{Bad}
use Rattle.run_budget.specs.declared.Worked.{Worked as Left}
use Rattle.run_budget.specs.Budget.{machine, worked, told, answer_of}
use Rattle.descent.specs.Descent.{work}

pub work-bad : (b : ℕ) (s : State) (f : Fault) → fault_of s ≡ Err f → worked (Bad f) s ≡ work b s
unfolding work call answer_of
work-bad b s f e = let q : is_fine (fault_of s) ≡ false = ap is_fine e in rw q (rw e refl)

pub work-fine : (b : ℕ) (s : State) → fault_of s ≡ Ok tt → told (go machine b s) ≡ work b s
unfolding work call
work-fine b s e = let q : is_fine (fault_of s) ≡ true = ap is_fine e in rw q

-- ---- f: what the entry tests found

module _ (r : Run) (y v g P : List Float) (xs off : List ℕ) (F : List Float) (cs : List Cell)
    (f : Found) (ef : f ≡ fault_at r (length y) (length v) (length g) (length P) (length F) xs off (nodes_of cs)) where
  fault-is : f ≡ fault_of (state r (memory y v g P xs off F cs))
  unfolding fault_of
  fault-is = ef

  pub call_asks : f ≡ Ok tt → Good (state r (memory y v g P xs off F cs))
  call_asks e = fault-fine (state r (memory y v g P xs off F cs)) (ap is_fine (sym fault-is ∙ e))

  pub call-done : f ≡ Ok tt → (n : ℕ) (w : Left) (y' v' g' F' : List Float) (ds : List Cell) →
      worked w.answer (state w.run (memory y' v' g' P xs off F' ds)) ≡ told (go machine n (state r (memory y v g P xs off F cs)))
      → worked w.answer (state w.run (memory y' v' g' P xs off F' ds)) ≡ work n (state r (memory y v g P xs off F cs))
  call-done e n w y' v' g' F' ds ew = ew ∙ work-fine n (state r (memory y v g P xs off F cs)) (sym fault-is ∙ e)

  pub call-bad : (b : Fault) → f ≡ Err b → (n : ℕ) → worked (Bad b) (state r (memory y v g P xs off F cs)) ≡ work n (state r (memory y v g P xs off F cs))
  call-bad b e n = work-bad n (state r (memory y v g P xs off F cs)) b (sym fault-is ∙ e)
