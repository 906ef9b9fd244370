-- What the examples of lending do. Definitions only.
use Rattle.std.specs.Prelude.{ℕ, ◌+◌, ◌<◌, ◌^◌, List, [], ◌∷◌, Float, get_or}
use Rattle.std.specs.Float.{nan}
use Rattle.tree_node.specs.declared.Cell.{Cell}
use Rattle.lent_examples.specs.declared.Counter.{Counter}
use Rattle.lent_examples.specs.declared.Placed.{Placed}
use Rattle.lent_examples.specs.declared.Noted.{Noted}

-- a value of a list, and what stands past its end
abbrev pub value_or : List Float → ℕ → Float
value_or vs i = get_or vs i nan

-- a cell with that value for its widths
abbrev pub valued : Cell → Float → Cell
valued x y = record { centre = x.centre; half = y ∷ y ∷ y ∷ []; mass = x.mass; count = x.count; first = x.first; leaf = x.leaf }

-- a counter has room for so many more, and is what it is after them
abbrev pub CountFits : Counter → ℕ → Type 0
CountFits c more = c.total + more < 2 ^ 64

abbrev pub bumped_of : Counter → ℕ → Float → Counter
bumped_of c more mark = record { total = c.total + more; last = mark }

abbrev pub placed_of : ℕ → List Cell → Placed
placed_of m cs = record { mark = m; cells = cs }

abbrev pub noted_of : Counter → List Cell → Noted
noted_of c cs = record { counter = c; cells = cs }
