-- `partner::rising_from` meets its contract: the loop keeps `PairsRise`; by `rise-none`, `rise_one`, `rise-next`.
use Prim.Native.Nat.{◌+◌, ◌≤◌}
use Rattle.partner.specs.Partner.{PairsRise, whole_links}
use Rattle.partner.proofs.rising_from.Given as goal

abbrev pub invariant-loop-k : goal.invariant-loop-k
invariant-loop-k l = (1 ≤ l.k) × (l.a + l.k ≤ whole_links l.file) × PairsRise l.file l.a l.k
