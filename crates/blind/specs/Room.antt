-- What the count of blind frames asks, as the tests have shown it, and what it keeps of a row. Definitions only.
use Rattle.std.specs.Prelude.{◌≡◌, List, true, ℕ, ◌*◌, ◌≤◌, pos, drop}
use Rattle.std.specs.Float.{binary64}
use Rattle.std.specs.Float.Ieee.{of_int, lt}
use Rattle.laws.specs.Domain.{most_frames}
use Rattle.laws.specs.Area.{zero64}
use Rattle.run_record.specs.declared.Settings.{Settings}

-- t, q, v, h, x: the lengths of table, squares, and the rows of values, shares and indices
pub record SightRoom (s : Settings) (t q v h x : ℕ) : Type 0 where
  pub n-some : 2 ≤ s.n
  pub n-most : s.n ≤ most_frames
  pub perplexity-above : lt zero64 s.perplexity ≡ true
  pub perplexity-below : lt s.perplexity (of_int binary64 (pos s.n)) ≡ true
  pub table-in : s.n * s.f ≤ t
  pub squares-in : s.n ≤ q
  pub values-in : s.n ≤ v
  pub shares-in : s.n ≤ h
  pub places-in : s.n ≤ x

-- from place n on, l is as l₀
module _ {A : Type 0} where
  pub record KeptPast (n : ℕ) (l₀ l : List A) : Type 0 where
    pub tail : drop n l ≡ drop n l₀
