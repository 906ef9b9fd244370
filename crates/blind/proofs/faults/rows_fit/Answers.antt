-- `blind::faults::rows_fit` meets its contract: n is no more than the least where it is no more than each.
use mathlib.Core.Path.{◌≡◌}
use mathlib.Core.Bool.{◌&&◌}
use Prim.Native.Nat.{ℕ}
use Rattle.std.specs.Prelude.{min}
use native.Mathlib.Decide.{dec_lt}
use native.Mathlib.Omega.{arith}
use lib.Dec.{leb}
use borrow.Author.Tests.{le-leb, lt-leb}
use Rattle.blind.specs.Faults.{rows_fit}
use Rattle.blind.proofs.faults.rows_fit.Goals as goal

leb_min : (n a b : ℕ) → leb n (min a b) ≡ leb n a && leb n b
leb_min n a b = elim (dec_lt a n) [
  | yes l ↦ rw (lt-leb n (min a b) (omega arith), lt-leb n a l)
  | no m ↦ elim (dec_lt b n) [
    | yes l ↦ rw (lt-leb n (min a b) (omega arith), lt-leb n b l, le-leb n a (omega arith))
    | no k ↦ rw (le-leb n (min a b) (omega arith), le-leb n b (omega arith), le-leb n a (omega arith))
  ]
]

pub returns : goal.returns
unfolding rows_fit
returns c =
    rw (c.min-3.ensures, c.min-2.ensures, c.min.ensures, leb_min _ _ c.args.places, leb_min _ _ c.args.shares, leb_min _ _ c.args.values)
