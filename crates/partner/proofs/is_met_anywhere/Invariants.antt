-- `partner::is_met_anywhere` meets its contract: the loop keeps what has been done equal to its part of the whole; by `met_next`, `met_some`, `met-none`.
use mathlib.Core.Path.{◌≡◌}
use mathlib.Core.Bool.{false}
use Prim.Native.Nat.{ℕ, ◌+◌, ◌<◌, ◌≤◌}
use Rattle.partner.specs.Partner.{is_mirror}
use Rattle.partner.proofs.is_met_anywhere.Given as goal

abbrev pub invariant-loop-t : goal.invariant-loop-t
invariant-loop-t l = (l.t ≤ l.k) × ((s : ℕ) → s < l.t → is_mirror l.file l.i (l.a + s) ≡ false)
