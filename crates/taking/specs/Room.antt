-- What the areas of a run are packed within, whatever they hold. Definition only.
use Rattle.std.specs.Prelude.{◌≡◌, true, false, ◌+◌, ◌*◌, ◌≤◌, length}
use Rattle.run_record.specs.declared.Settings.{Settings}
use Rattle.run_record.specs.Record.{is_tree}
use Rattle.take_lists.specs.Packed.{Listed}
use Rattle.take_out.specs.TakeOut.{Holdings}

-- each area is long enough, and lists lie one after the other
pub record AreasRoom (s : Settings) (h : Holdings) : Type 0 where
  pub positions-room : s.n * s.c ≤ length h.positions
  pub increments-room : s.n * s.c ≤ length h.increments
  pub gains-room : s.n * s.c ≤ length h.gains
  pub forces-room : s.n * (2 * s.c + 1) ≤ length h.forces
  pub table-room : s.n * s.f ≤ length h.table
  pub old-room : s.n ≤ length h.old
  pub lists-room : is_tree s.method ≡ true → Listed s.n (length h.affinities) (length h.indices) h.offsets
  pub square-room : is_tree s.method ≡ false → s.n * s.n ≤ length h.affinities
