-- `partner_import::start_fine` meets its contract: the loop keeps what has been done equal to its part of the whole; by `every-none`, `every-next`, `every-no`, `every-done`.
use Prim.Native.Nat.{◌-◌, ◌≤◌}
use mathlib.Core.Path.{◌≡◌}
use mathlib.Core.Bool.{true}
use Rattle.partner_import.specs.Import.{start_fine}
use Rattle.partner_import.proofs.start_fine.Given as goal

abbrev pub invariant-loop-i : goal.invariant-loop-i
invariant-loop-i l = (start_fine l.start l.i ≡ true) × (l.i ≤ l.m)
