-- What a turn leaves at a cell, by the kind of the cell, with any number of levels: cited by `turn`.
--     turned-past          a cell that gives nothing: past it
--     turned-body          a cell that acts as one body: past it, with what it adds
--     turned-open          a cell that opens: to its children, with what is left beside it on the stack
use mathlib.Core.List.{List}
use mathlib.Core.Path.{◌≡◌}
use Prim.Native.Nat.{ℕ, ◌+◌, ◌^◌}
use borrow.Author.Tests.{eq-eqb, ne_eqb}
use Rattle.tree_bodies.specs.Bodies.{body_of}
use Rattle.tree_node.specs.declared.Cell.{Cell}
use Rattle.tree_node.specs.Arena.{node_of}
use Rattle.tree_walk.specs.declared.Eye.{Eye}
use Rattle.tree_walk.specs.declared.Spot.{Spot}
use Rattle.tree_walk.specs.Turn.{past_cell, opened_of, pushed_of, seen_as, turned_of, stacked_of}

-- the spot and the stack after a turn
abbrev pub TurnLeaves : ℕ → Eye → Cell → List ℕ → Spot → Spot → List ℕ → Type 0
TurnLeaves levels y v st s r zs = (r ≡ turned_of levels y v st s) × (zs ≡ stacked_of levels y v st s)

pub turned-past : (levels : ℕ) (y : Eye) (v : Cell) (st : List ℕ) (s r : Spot) → seen_as y v ≡ 0 → r ≡ past_cell levels st s s.acc → TurnLeaves levels y v st s r st
unfolding turned_of stacked_of
turned-past levels y v st s r k e = (rw (eq-eqb _ _ k) e, rw (eq-eqb _ _ k))

pub turned-body : (levels : ℕ) (y : Eye) (v : Cell) (st : List ℕ) (s r : Spot) → seen_as y v ≡ 1 → r ≡ past_cell levels st s (body_of y.c y.p (node_of v) s.acc) → TurnLeaves levels y v st s r st
unfolding turned_of stacked_of
turned-body levels y v st s r k e = (rw k e, rw k)

pub turned-open : (levels : ℕ) (y : Eye) (v : Cell) (st zs : List ℕ) (s r : Spot) → (seen_as y v ≡ 0 → ⊥) → (seen_as y v ≡ 1 → ⊥)
    → r ≡ opened_of levels s v.first (v.first + 2 ^ y.c) → zs ≡ pushed_of levels st s → TurnLeaves levels y v st s r zs
unfolding turned_of stacked_of
turned-open levels y v st zs s r n0 n1 e p = (rw (ne_eqb _ _ n0, ne_eqb _ _ n1) e, rw (ne_eqb _ _ n0, ne_eqb _ _ n1) p)
