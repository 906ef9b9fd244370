-- What one link pulls. Definitions only.
use Rattle.std.specs.Prelude.{List, ℕ, Float}
use Rattle.std.specs.Float.{binary64}
use Rattle.std.specs.Float.Ieee.{add, mul, div}
use Rattle.laws.specs.Loops.{loop}
use Rattle.laws.specs.Area.{at, one64}
use Rattle.tree_bodies.specs.Bodies.{gap_of, push_step}

-- how strongly a link of weight w pulls: (exaggeration·w) / (1 + d²)
unfoldable pub pull_of : Float → Float → ℕ → List Float → List Float → Float
unfolding gap_of
pull_of exaggeration w c p q = div binary64 (mul binary64 exaggeration w) (add binary64 one64 (gap_of c (at p) (at q)))

-- one link more: frame q of weight w pulls the point p along p - q
unfoldable pub pulled : Float → ℕ → List Float → List Float → Float → List Float → List Float
unfolding loop pull_of
pulled exaggeration c p q w t = loop (push_step p q (pull_of exaggeration w c p q)) c 0 t
