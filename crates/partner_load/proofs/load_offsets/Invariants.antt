-- `partner_load::load_offsets` meets its contract: the loop keeps `Fetches` and `ListsBegin`; by `lists-start`, `lists-over`, `lists-next`, `lists-counted`,
-- `fetches-start`, `fetches-next` and others.
use Prim.Native.Nat.{◌+◌}
use Rattle.partner_load.proofs.Counted.{ListsBegin}
use Rattle.partner_load.specs.Loaded.{links_below}
use Rattle.areas.proofs.Fetched.{Fetches}
use Rattle.partner_load.proofs.load_offsets.Given as goal

abbrev pub invariant-loop-j : goal.invariant-loop-j
invariant-loop-j l = Fetches (links_below l.file) (l.n + 1) l.initial.offsets l.j l.offsets × ListsBegin l.file l.p l.j
