-- The areas of a parked run lie one after the other, each from a whole record on. Assumes nothing.
use mathlib.Core.Path.{◌≡◌}
use mathlib.Core.Bool.{Bool, cond}
use Prim.Native.Nat.{ℕ, ◌+◌, ◌*◌, ◌/◌, ◌≤◌}
use native.Mathlib.Omega.{arith}
use Rattle.parked.specs.declared.Layout.{Layout}
use Rattle.parked.specs.Layout.{filled_up, layout_of}

pub record Lies (l : Layout) : Type 0 where
  pub positions : 12 + l.cells ≤ l.increments
  pub increments : l.increments + l.cells ≤ l.gains
  pub gains : l.gains + l.cells ≤ l.affinities
  pub held : l.affinities + l.held ≤ l.indices
  pub indices : l.indices + l.links ≤ l.weights
  pub weights : l.weights + l.links ≤ l.end
  pub whole : 4 * (l.end / 4) ≡ l.end

fits : (m : ℕ) → m ≤ filled_up m
unfolding filled_up
fits m = omega arith

-- records that end in whole ones
ends : (c h k : ℕ) → 4 * ((12 + (c + 3) / 4 * 4 + (c + 3) / 4 * 4 + (c + 3) / 4 * 4 + (h + 3) / 4 * 4 + (k + 3) / 4 * 4 + (k + 3) / 4 * 4) / 4) ≡ 12 +
    (c + 3) / 4 * 4 + (c + 3) / 4 * 4 + (c + 3) / 4 * 4 + (h + 3) / 4 * 4 + (k + 3) / 4 * 4 + (k + 3) / 4 * 4
ends c h k = omega arith

pub lies : (t : Bool) (n c k : ℕ) → Lies (layout_of t n c k)
unfolding layout_of filled_up
lies t n c k =
    let cells = n * c in
    let held = cond t (n + 1) (n * n) in
    record {
      positions = omega (arith, fits cells);
      increments = omega (arith, fits cells);
      gains = omega (arith, fits cells);
      held = omega (arith, fits held);
      indices = omega (arith, fits k);
      weights = omega (arith, fits k);
      whole = ends cells held k;
    }
