-- A point's forces in a Barnes-Hut run: what its links pull, what the tree pushes. Definitions only.
-- The forces area holds 2·c + 1 places a point: attraction, repulsion, and the share of the normaliser.
use Rattle.std.specs.Prelude.{List, ℕ, ◌+◌, ◌-◌, ◌*◌, ◌<◌, ◌≤◌, length, set, Float}
use Rattle.std.specs.Float.{binary64}
use Rattle.std.specs.Float.Ieee.{mul}
use Rattle.laws.specs.Loops.{loop}
use Rattle.laws.specs.Area.{at, num}
use Rattle.tree_node.specs.declared.Node.{Node}
use Rattle.tree_bodies.specs.declared.Acc.{Acc}
use Rattle.tree_node.specs.Node.{zeros3, point_of}
use Rattle.gradient_pairs.specs.Links.{pulled}
use Rattle.tree_walk.specs.declared.Eye.{Eye}
use Rattle.tree_walk.specs.Repel.{repelled}

-- the lists as they lie: a link's weight and the frame it names
abbrev pub link_step : Float → ℕ → List Float → List Float → List ℕ → List Float → ℕ → ℕ → List Float → List Float
link_step exaggeration c y W I p a k t = pulled exaggeration c p (point_of y c (num I (a + k))) (at W (a + k)) t

-- point i's attraction: over its list, by rising link, from +0.0
unfoldable pub attraction_of : Float → ℕ → List Float → List Float → List ℕ → List ℕ → ℕ → List Float
unfolding loop pulled
attraction_of exaggeration c y W I O i = loop (link_step exaggeration c y W I (point_of y c i) (num O i)) (num O (i + 1) - num O i) 0 zeros3

-- where point i's forces begin
abbrev pub place_of : ℕ → ℕ → ℕ
place_of c i = i * (2 * c + 1)

-- c values stored from place a on
abbrev pub put_step : List Float → ℕ → ℕ → List Float → List Float
put_step x a d l = set l (a + d) (at x d)

-- attraction, repulsion and share of point i take their places; all else is kept
unfoldable pub stored : ℕ → ℕ → List Float → Acc → List Float → List Float
unfolding loop
stored c i t acc F = let a = place_of c i in set (loop (put_step acc.neg (a + c)) c 0 (loop (put_step t a) c 0 F)) (a + 2 * c) acc.sum

-- with what eye point i looks at the tree: a node acts as one body where its width is less than the angle times its distance, both squared
abbrev pub eye_of : Float → ℕ → List Float → ℕ → Eye
eye_of angle c y i = record { p = point_of y c i; theta2 = mul binary64 angle angle; q = i; c = c }

-- the forces unit of point i
unfoldable pub forces_of : Float → Float → ℕ → List Float → List Float → List ℕ → List ℕ → ℕ → List Node → ℕ → List Float → List Float
unfolding stored attraction_of repelled
forces_of exaggeration angle c y W I O used ns i F = stored c i (attraction_of exaggeration c y W I O i) (repelled used c i (point_of y c i) (mul binary64 angle angle) ns) F

-- ---- what the entry tests have shown of list i

-- the first m indices name frames that there are
abbrev pub Below : ℕ → ℕ → List ℕ → Type 0
Below n m I = (k : ℕ) → k < m → num I k < n

-- list i lies within both areas, and names frames that there are
pub record Linked (n : ℕ) (W : List Float) (I O : List ℕ) (i : ℕ) : Type 0 where
  pub offsets : i + 1 < length O
  pub rises : num O i ≤ num O (i + 1)
  pub weights : num O (i + 1) ≤ length W
  pub indices : num O (i + 1) ≤ length I
  pub frames : Below n (num O (i + 1)) I
