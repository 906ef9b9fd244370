-- What the way to the affinities asks, as the tests have shown it. Definitions only.
use Rattle.std.specs.Prelude.{◌≡◌, true, false, ℕ, ◌+◌, ◌*◌, ◌≤◌}
use Rattle.run_record.specs.declared.Settings.{Settings}
use Rattle.run_record.specs.Record.{is_tree, k_of, GoodSettings}

-- t, a, x, o, q, v, w: the lengths of table, affinities, indices, offsets, squares and the two rows
pub record RouteRoom (s : Settings) (t a x o q v w : ℕ) : Type 0 where
  pub settings-good : GoodSettings s
  pub table-in : s.n * s.f ≤ t
  pub squares-in : s.n ≤ q
  pub values-in : s.n ≤ v
  pub places-in : s.n ≤ w
  pub weights-in : is_tree s.method ≡ true → 2 * (s.n * k_of s) ≤ a
  pub indices-in : is_tree s.method ≡ true → 2 * (s.n * k_of s) ≤ x
  pub offsets-in : is_tree s.method ≡ true → s.n + 1 ≤ o
  pub square-in : is_tree s.method ≡ false → s.n * s.n ≤ a
