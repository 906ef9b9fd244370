-- A node as seen from a point: its distance, its width, whether it acts as one body, and what one body adds. Definitions only.
use Rattle.std.specs.Prelude.{List, cond, ◌&&◌, ℕ, set, eqb, pos, Float, Option, None, Some}
use Rattle.std.specs.Float.{binary64}
use Rattle.std.specs.Float.Ieee.{add, sub, mul, div, of_int, lt}
use Rattle.laws.specs.Loops.{loop}
use Rattle.laws.specs.Area.{at, zero64, one64, two64}
use Rattle.tree_node.specs.declared.Node.{Node}
use Rattle.tree_bodies.specs.declared.Acc.{Acc}
use Rattle.tree_bodies.specs.declared.Role.{Role}
use Rattle.tree_bodies.specs.declared.Role.TheVariants.{Nothing, Body, Open}

-- ---- the squared distance of two points, and a node's largest side

-- a point is given by its coordinates: p d is the one in component d
abbrev pub gap_step : (ℕ → Float) → (ℕ → Float) → ℕ → Float → Float
gap_step p q d s = add binary64 s (mul binary64 (sub binary64 (p d) (q d)) (sub binary64 (p d) (q d)))

-- by rising component from +0.0
unfoldable pub gap_of : ℕ → (ℕ → Float) → (ℕ → Float) → Float
unfolding loop add sub mul
gap_of c p q = loop (gap_step p q) c 0 zero64

unfoldable pub wider : Float → Float → Float
unfolding lt mul
wider w h = cond (lt w (mul binary64 two64 h)) (mul binary64 two64 h) w

abbrev pub width_step : List Float → ℕ → Float → Float
width_step h d w = wider w (at h d)

unfoldable pub width_of : ℕ → List Float → Float
unfolding loop wider
width_of c h = loop (width_step h) c 0 zero64

-- ---- what one body adds

abbrev pub push_step : List Float → List Float → Float → ℕ → List Float → List Float
push_step p m force d t = set t d (add binary64 (at t d) (mul binary64 force (sub binary64 (at p d) (at m d))))

unfoldable pub body_of : ℕ → List Float → Node → Acc → Acc
unfolding loop gap_of add sub mul div of_int
body_of c p v acc =
    let inv = div binary64 one64 (add binary64 one64 (gap_of c (at p) (at v.mass))) in
    let mult = mul binary64 (of_int binary64 (pos v.count)) inv in
    record { neg = loop (push_step p v.mass (mul binary64 mult inv)) c 0 acc.neg; sum = add binary64 acc.sum mult }

-- ---- what a node is to point q: 0 gives nothing, 1 acts as one body, 2 opens

abbrev pub role_number : Role → ℕ
role_number Nothing = 0
role_number Body = 1
role_number Open = 2

-- the leaf that holds only the query gives nothing
abbrev pub leaf_kind : ℕ → ℕ → Option ℕ → ℕ
leaf_kind q n None = 1
leaf_kind q n (Some o) = cond (eqb o q && eqb n 1) 0 1

unfoldable pub kind_of : ℕ → ℕ → List Float → Float → Node → ℕ
unfolding width_of gap_of lt mul
kind_of c q p theta2 v =
    cond (eqb v.count 0) 0
    (cond (eqb v.first 0) (leaf_kind q v.count v.leaf)
    (cond (lt (mul binary64 (width_of c v.half) (width_of c v.half)) (mul binary64 theta2 (gap_of c (at p) (at v.mass)))) 1 2))
