-- `partner_write::put_lists` meets its contract: the loop keeps `RowsPut`; by `rows-put-start`, `list-within`, `list-next`, `lists-end`.
use Prim.Native.Nat.{◌-◌}
use Rattle.partner_write.specs.Write.{list_records}
use Rattle.partner_write.proofs.Laws.{RowsPut}
use Rattle.partner_write.proofs.put_lists.Given as goal

abbrev pub invariant-loop-i : goal.invariant-loop-i
invariant-loop-i l = RowsPut (list_records l.weights l.indices l.offsets) 0 l.n l.initial.target l.i l.target
