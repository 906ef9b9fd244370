-- `partner_load::list_from` meets its contract: the loop keeps what has been done equal to its part of the whole; by `starts-below-next`.
use Prim.Native.Nat.{ℕ, ◌<◌, ◌≤◌}
use Rattle.partner.specs.Partner.{whole_links, link_from}
use Rattle.partner_load.proofs.list_from.Given as goal

abbrev pub invariant-loop-p : goal.invariant-loop-p
invariant-loop-p l = (l.a ≤ l.p) × (l.p ≤ whole_links l.file) × ((t : ℕ) → l.a ≤ t → t < l.p → link_from l.file t < l.j)
