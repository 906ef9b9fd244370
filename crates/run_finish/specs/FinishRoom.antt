-- What the finish asks of lengths and numbers; the entry tests have shown it. Definitions only.
use Rattle.std.specs.Prelude.{ℕ, ◌+◌, ◌*◌, ◌<◌, ◌≤◌}
use Rattle.laws.specs.Domain.{most_frames}
use Rattle.run_record.specs.declared.Run.{Run}

-- the record's numbers are small
pub record Small (r : Run) : Type 0 where
  pub phase-small : r.phase < 10000
  pub units_small : r.units < 1000000000
  pub n-most : r.settings.n ≤ most_frames

pub record FinishRoom (r : Run) (p i g f : ℕ) : Type 0 where
  pub numbers : Small r
  pub done-small : r.done < 100000
  pub c-some : 0 < r.settings.c
  pub c-most : r.settings.c ≤ 8
  pub positions-in : r.settings.n * r.settings.c ≤ p
  pub increments-in : r.settings.n * r.settings.c ≤ i
  pub gains-in : r.settings.n * r.settings.c ≤ g
  pub forces-in : r.settings.n * (2 * r.settings.c + 1) ≤ f
