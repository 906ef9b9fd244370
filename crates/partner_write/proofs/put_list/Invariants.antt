-- `partner_write::put_list` meets its contract: the loop keeps `RowsPut`; by `rows-put-start`, `rows-put-done`, `link-next`, `link-size`.
use Prim.Native.Nat.{◌-◌, ◌*◌}
use Rattle.partner_write.specs.Write.{link_at}
use Rattle.partner_write.proofs.Laws.{RowsPut}
use Rattle.partner_write.proofs.put_list.Given as goal

abbrev pub invariant-loop-t : goal.invariant-loop-t
invariant-loop-t l = RowsPut (link_at l.weights l.indices l.from l.a) (16 * l.a) l.k l.initial.target l.t l.target
