-- One turn of the walk: where it stands then, and what is on its stack, which has two words for each of its levels. Definitions only.
use Rattle.std.specs.Prelude.{List, cond, ℕ, ◌+◌, ◌-◌, ◌^◌, set, eqb, ltb}
use Rattle.laws.specs.Area.{num}
use Rattle.tree_bodies.specs.declared.Acc.{Acc}
use Rattle.tree_bodies.specs.Bodies.{kind_of, body_of}
use Rattle.tree_node.specs.declared.Cell.{Cell}
use Rattle.tree_node.specs.Arena.{node_of}
use Rattle.tree_walk.specs.declared.Eye.{Eye}
use Rattle.tree_walk.specs.declared.Spot.{Spot}

abbrev pub fresh_spot : Acc → ℕ → ℕ → ℕ → Spot
fresh_spot a i e l = record { acc = a; at = i; end = e; level = l; deep = 0; stop = 0 }

-- past the cell: to the next one, or to what the stack has, or to the end
unfoldable pub past_cell : ℕ → List ℕ → Spot → Acc → Spot
past_cell levels st s a =
    cond (ltb (s.at + 1) s.end) (fresh_spot a (s.at + 1) s.end s.level)
    (cond (eqb s.level 0) (fresh_spot a (s.at + 1) s.end 0)
    (fresh_spot a (num st (s.level - 1)) (num st (s.level - 1 + levels)) (s.level - 1)))

-- to the cells from f to e
unfoldable pub opened_of : ℕ → Spot → ℕ → ℕ → Spot
opened_of levels s f e =
    cond (ltb (s.at + 1) s.end)
    (cond (ltb s.level levels) (fresh_spot s.acc f e (s.level + 1))
    (record { acc = s.acc; at = s.at + 1; end = s.end; level = s.level; deep = f; stop = e }))
    (fresh_spot s.acc f e s.level)

-- what is left beside the cell is on the stack, where there is room
unfoldable pub pushed_of : ℕ → List ℕ → Spot → List ℕ
pushed_of levels st s = cond (ltb (s.at + 1) s.end) (cond (ltb s.level levels) (set (set st s.level (s.at + 1)) (s.level + levels) s.end) st) st

abbrev pub seen_as : Eye → Cell → ℕ
seen_as y v = kind_of y.c y.q y.p y.theta2 (node_of v)

unfoldable pub turned_of : ℕ → Eye → Cell → List ℕ → Spot → Spot
unfolding kind_of body_of node_of past_cell opened_of
turned_of levels y v st s =
    cond (eqb (seen_as y v) 0) (past_cell levels st s s.acc)
    (cond (eqb (seen_as y v) 1) (past_cell levels st s (body_of y.c y.p (node_of v) s.acc))
    (opened_of levels s v.first (v.first + 2 ^ y.c)))

unfoldable pub stacked_of : ℕ → Eye → Cell → List ℕ → Spot → List ℕ
unfolding kind_of node_of pushed_of
stacked_of levels y v st s = cond (eqb (seen_as y v) 0) st (cond (eqb (seen_as y v) 1) st (pushed_of levels st s))
