-- The samples that are left are such as rows are packed by: none stands lower than its new place. Assumes nothing.
use mathlib.Core.List.{List}
use mathlib.Core.Bool.{not}
use Prim.Native.Nat.{ℕ, zero, suc, ◌<◌, ◌≤◌}
use native.Mathlib.Omega.{arith}
use lib.ListN.{length}
use Rattle.laws.specs.Area.{num}
use Rattle.laws.proofs.Joined.{those-below}
use Rattle.take_gone.specs.Gone.{is_among, survivors, Climbs}
use Rattle.take_gone.proofs.Left.{survivors-few, survivors-climb}
use Rattle.take_rows.specs.Rows.{Staying}

climbs-no-lower : {l : List ℕ} → Climbs l → (i : ℕ) → i < length l → i ≤ num l i
climbs-no-lower c zero h = omega arith
climbs-no-lower c (suc i) h = omega (arith, climbs-no-lower c i (omega arith), c.climb i (suc i) (omega arith) h)

pub survivors-kept : (g : List ℕ) (n : ℕ) → Staying (survivors g n) n
survivors-kept g n = record {
  no_lower = climbs-no-lower (survivors-climb g n);
  below = those-below (λ j. not (is_among g j)) n;
  few = survivors-few g n;
}
