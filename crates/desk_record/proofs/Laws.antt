-- How many nodes there may be. Assumes nothing.
use mathlib.Core.Path.{◌≡◌}
use mathlib.Core.Bool.{true}
use Prim.Native.Nat.{◌-◌, ◌*◌, ◌^◌, ◌≤◌}
use native.Mathlib.Omega.{arith}
use native.Mathlib.Nat.{mul-le-mul}
use Rattle.laws.specs.Domain.{deepest, most_frames}
use Rattle.run_record.specs.declared.Settings.{Settings}
use Rattle.run_record.specs.Record.{is_tree, GoodSettings}
use Rattle.tree.proofs.Inserting.{few-nodes}
use Rattle.run_entry.proofs.Laws.{axes}

-- the splits of each point but the first are few
pub nodes-few : (s : Settings) → GoodSettings s → is_tree s.method ≡ true → (deepest * 2 ^ s.c ≤ deepest * 8) × (deepest * 2 ^ s.c * (s.n - 1) ≤ deepest * 8 * (most_frames - 1))
nodes-few s g t =
    let a = few-nodes deepest s.c (omega arith) (axes s g t).1 in
    (a, mul-le-mul {n₁ = deepest * 2 ^ s.c} {m₁ = s.n - 1} {n₂ = deepest * 8} {m₂ = most_frames - 1} a (omega (arith, g.n-most)))
