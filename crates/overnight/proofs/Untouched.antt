-- What no unit of an exact run writes: the forces past the total, and the nodes in use. Assumes nothing.
use mathlib.Core.Path.{◌≡◌, refl, sym, ap, ◌∙◌}
use mathlib.Core.List.{List}
use mathlib.Core.Bool.{false, cond}
use Prim.Native.Nat.{ℕ, zero, suc, ◌+◌, ◌-◌, ◌*◌, ◌<◌, ◌≤◌}
use native.Mathlib.Omega.{arith}
use native.Mathlib.Nat.{le_refl}
use lib.Dec.{eqb, ltb}
use lib.Seq.{get_or-set_other}
use lib.Ieee.{Float, nan, binary64, sub, mul}
use borrow.Author.Tests.{ltb-false}
use Rattle.laws.specs.Area.{at, zero64}
use Rattle.laws.specs.Loops.{loop}
use Rattle.laws.proofs.Bools.{by_bool}
use Rattle.laws.proofs.Numbers.{row_in}
use Rattle.run_calls.specs.Machine.{times}
use Rattle.run_record.specs.declared.Settings.{Settings}
use Rattle.run_record.specs.declared.Run.{Run}
use Rattle.run_record.specs.Record.{is_tree, is_ended, advanced_of, closed_of}
use Rattle.run_plan.specs.Plan.{exaggeration_of}
use Rattle.tree_node.specs.declared.Node.{Node}
use Rattle.gradient_pairs.specs.Exact.{num_step, pulls_of}
use Rattle.gradient.specs.Exact.{four64, total_row, gradient_row}
use Rattle.run_entry.specs.State.{State}
use Rattle.run_finish.specs.Finish.{FinishTurn}
use Rattle.run_units.specs.Units.{unit, force_unit, Turned, with_finish}
use Rattle.run_units.proofs.Rooms.{group-zero, group-one}
use Rattle.run_units.proofs.One.{unit-over, by-unit}
use Rattle.run_budget.proofs.Turns.{by-finish}
use Rattle.descent.specs.Descent.{works, told_all}
use Rattle.descent.proofs.Theorems.{after-each}
use Rattle.overnight.proofs.Writes.{puts-beside}
use Rattle.overnight.proofs.Forced.{one-method}

pub record Untouched (s s' : State) : Type 0 where
  pub settings : s'.run.settings ≡ s.run.settings
  pub used : s'.run.used ≡ s.run.used
  pub forces : (k : ℕ) → s.run.settings.n * s.run.settings.c < k → at s'.memory.forces k ≡ at s.memory.forces k

-- a row of the total, or of the gradient
row-untouched : (r : Run) (y P : List Float) (xs off : List ℕ) (ns : List Node) (F : List Float) → is_tree r.settings.method ≡ false →
    r.phase < 2 * r.settings.n → (k : ℕ) → r.settings.n * r.settings.c < k → at (force_unit r y P xs off ns F) k ≡ at F k
unfolding force_unit total_row gradient_row
row-untouched r y P xs off ns F x h k l =
    let n = r.settings.n in
    let c = r.settings.c in
    by_bool (at (force_unit r y P xs off ns F) k ≡ at F k) (ltb r.phase n)
    (λ q. rw (x, q) (get_or-set_other F (n * c) k (loop (num_step y c r.phase) n 0 (cond (eqb r.phase 0) zero64 (at F (n * c)))) nan (λ e. omega (arith, e, l))))
    (λ q.
    let i = r.phase - n in
    let p = pulls_of y P (exaggeration_of r) (at F (n * c)) n c i in
    let b : i * c + c ≤ n * c = row_in i n c (n * c) (omega (arith, h, ltb-false r.phase n q)) (le_refl (n * c)) in
    rw (x, q) (puts-beside (λ d. i * c + d) (λ d. mul binary64 (sub binary64 (mul binary64 (at y (i * c + d)) p.sum) (at p.along d)) four64) c 0 F k (λ e _ m z. omega (arith, z, m, b, l))))

unit-untouched : (s : State) → is_tree s.run.settings.method ≡ false → Untouched s (unit s).now
unfolding advanced_of closed_of
unit-untouched s x =
    let R = s.run in
    let M = s.memory in
    by_bool (Untouched s (unit s).now) (is_ended R.standing)
    (λ e. rw (sym (unit-over s e)) (record { settings = refl; used = refl; forces = λ _ _. refl }))
    (λ live. by-unit s live (λ (t : Turned). Untouched s t.now)
    (λ z. absurd (one-method R (group-zero R z).0 x))
    (λ z. record { settings = refl; used = refl; forces = row-untouched R M.positions M.affinities M.indices M.offsets M.nodes M.forces x ((group-one R z).exact x) })
    (λ a b. by-finish R M.positions M.increments M.gains M.forces (λ (t : FinishTurn). Untouched s (with_finish M t).now)
    (record { settings = refl; used = refl; forces = λ _ _. refl }) (record { settings = refl; used = refl; forces = λ _ _. refl })))

units-untouched : (d : ℕ) (s : State) → is_tree s.run.settings.method ≡ false → Untouched s (times (λ (x : State). (unit x).now) d s)
unfolding times
units-untouched zero s x = record { settings = refl; used = refl; forces = λ _ _. refl }
units-untouched (suc d) s x =
    let a = unit-untouched s x in
    let b = units-untouched d (unit s).now (ap (λ (z : Settings). is_tree z.method) a.settings ∙ x) in
    record {
      settings = b.settings ∙ a.settings;
      used = b.used ∙ a.used;
      forces = λ k l. b.forces k (rw a.settings l) ∙ a.forces k l;
    }

-- calls, whatever their budgets
pub exact-keeps : (bs : List ℕ) (s : State) → is_tree s.run.settings.method ≡ false → Untouched s (works bs s)
exact-keeps bs s x = rw (after-each bs s).left (units-untouched (told_all bs s) s x)
