-- An area of which the first places hold one value. Definition only.
use Rattle.std.specs.Prelude.{List, ◌++◌, ℕ, drop, replicate}

module _ {A : Type 0} where
  -- x in the first n places, and what stood past them
  abbrev pub filled : A → ℕ → List A → List A
  filled x n l = replicate n x ++ drop n l
