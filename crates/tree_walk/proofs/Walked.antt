-- The walks from a list of cells, one after the other, with nothing said of a loop or a stack. Assumes nothing.
--     numbers_from            the numbers from one on
--     walks            the walks from these cells.      walks-range      those of a range are `walked_over`'s
--     load             16 ^ (used - i) for each cell i of a list: more than its children have together, since they lie above it and are at most 8
--     Inside           all of a list is used
use mathlib.Core.Path.{◌≡◌, refl, sym, subst, ap, ◌∙◌}
use mathlib.Core.List.{List, [], ◌∷◌, ◌++◌}
use Prim.Native.Nat.{ℕ, zero, suc, ◌+◌, ◌-◌, ◌*◌, ◌^◌, ◌<◌, ◌≤◌}
use native.Mathlib.Omega.{arith}
use native.Mathlib.Decide.{ℕ_discrete}
use native.Mathlib.Nat.{pow-suc, pow-le-pow_right, one-le-pow, mul-le-mul_right, mul-le-mul_left, suc-mul, zero-lt-suc}
use lib.ListN.{get_or-map}
use Rattle.laws.specs.Loops.{loop}
use Rattle.laws.specs.Domain.{most_word}
use Rattle.tree_node.specs.declared.Node.{Node}
use Rattle.tree_node.specs.declared.Cell.{Cell}
use Rattle.tree_node.specs.Node.{Axes}
use Rattle.tree_node.specs.Arena.{void, cell_at, node_of, nodes_of, node_at, leaf_of}
use Rattle.tree_node.proofs.Axes.{few-children}
use Rattle.tree_bodies.specs.declared.Acc.{Acc}
use Rattle.tree_walk.specs.declared.Eye.{Eye}
use Rattle.tree_walk.specs.Repel.{walk_of, walked_over, Blocks, nothing, repelled}

-- n numbers from f on
abbrev pub numbers_from : ℕ → ℕ → List ℕ
numbers_from f zero = []
numbers_from f (suc n) = f ∷ numbers_from (f + 1) n

-- ---- a number that falls with each turn

unfoldable pub visits_of : ℕ → ℕ → ℕ
visits_of used i = 16 ^ (used - i)

abbrev pub load : ℕ → List ℕ → ℕ
load used [] = 0
load used (i ∷ xs) = visits_of used i + load used xs

pub load-app : (used : ℕ) (xs ys : List ℕ) → load used (xs ++ ys) ≡ load used xs + load used ys
load-app used [] ys = omega arith
load-app used (x ∷ xs) ys = omega (arith, load-app used xs ys)

pub weight-pos : (used i : ℕ) → 0 < visits_of used i
unfolding visits_of
weight-pos used i = one-le-pow (used - i) 16 (omega arith)

weight-falls : (used i : ℕ) → visits_of used (i + 1) ≤ visits_of used i
unfolding visits_of
weight-falls used i = pow-le-pow_right (zero-lt-suc 15) (omega arith)

load-range : (used n f : ℕ) → load used (numbers_from f n) ≤ n * visits_of used f
load-range used zero f = omega arith
load-range used (suc n) f =
    let a : load used (numbers_from (f + 1) n) ≤ n * visits_of used (f + 1) = load-range used n (f + 1) in
    let b : n * visits_of used (f + 1) ≤ n * visits_of used f = mul-le-mul_left n (weight-falls used f) in
    rw (suc-mul n (visits_of used f)) (omega (arith, a, b))

weight-above : (used i f : ℕ) → i < f → f ≤ used → 16 * visits_of used f ≤ visits_of used i
unfolding visits_of
weight-above used i f l m =
    let p : 16 ^ suc (used - f) ≤ 16 ^ (used - i) = pow-le-pow_right (zero-lt-suc 15) (omega arith) in
    omega (arith, p, pow-suc 16 (used - f))

-- children weigh less than their node
pub load-block : (used i f n : ℕ) → i < f → f ≤ used → n ≤ 8 → load used (numbers_from f n) < visits_of used i
load-block used i f n l m h =
    let a : load used (numbers_from f n) ≤ n * visits_of used f = load-range used n f in
    let b : n * visits_of used f ≤ 8 * visits_of used f = mul-le-mul_right (visits_of used f) h in
    omega (arith, a, b, weight-pos used f, weight-above used i f l m)

-- ---- cells in use

-- the cells xs lie among the used ones, from `low` on
abbrev pub Inside : ℕ → ℕ → List ℕ → Type 0
Inside low used [] = Unit {0}
Inside low used (i ∷ xs) = ((low ≤ i) × (i < used)) × Inside low used xs

pub inside-app : (low used : ℕ) (xs ys : List ℕ) → Inside low used xs → Inside low used ys → Inside low used (xs ++ ys)
inside-app low used [] ys u v = v
inside-app low used (x ∷ xs) ys u v = (u.0, inside-app low used xs ys u.1 v)

pub inside-range : (low used n f : ℕ) → low ≤ f → f + n ≤ used → Inside low used (numbers_from f n)
inside-range low used zero f h m = tt
inside-range low used (suc n) f h m = ((h, omega arith), inside-range low used n (f + 1) (omega arith) (omega arith))

pub node-at : (cs : List Cell) (i : ℕ) → node_at (nodes_of cs) i ≡ node_of (cell_at cs i)
unfolding nodes_of node_of leaf_of
node-at cs i = get_or-map node_of cs i void

-- ---- their walks

module _ (used : ℕ) (y : Eye) (cs : List Cell) where
  abbrev whole : ℕ → Acc → Acc
  whole i a = walk_of used y.c y.q y.p y.theta2 (nodes_of cs) i a

  abbrev pub over-cells : ℕ → ℕ → Acc → Acc
  over-cells f n a = walked_over used y.c y.q y.p y.theta2 (nodes_of cs) f n a

  -- the walks from these cells, one after the other
  abbrev pub walks : List ℕ → Acc → Acc
  walks [] a = a
  walks (i ∷ xs) a = walks xs (whole i a)

  pub walks-app : (xs ys : List ℕ) (a : Acc) → walks (xs ++ ys) a ≡ walks ys (walks xs a)
  walks-app [] ys a = refl
  walks-app (x ∷ xs) ys a = walks-app xs ys (whole x a)

  walks_from : (n f k : ℕ) (a : Acc) → walks (numbers_from (f + k) n) a ≡ loop (λ b z. whole (f + b) z) n k a
  unfolding loop
  walks_from zero f k a = refl
  walks_from (suc n) f k a = let e : f + k + 1 ≡ f + (k + 1) = omega arith in ap (λ (m : ℕ). walks (numbers_from m n) (whole (f + k) a)) e ∙ walks_from n f (k + 1) (whole (f + k) a)

  pub walks-range : (f n : ℕ) (a : Acc) → walks (numbers_from f n) a ≡ over-cells f n a
  walks-range f n a = let e : f ≡ f + 0 = omega arith in ap (λ (m : ℕ). walks (numbers_from m n) a) e ∙ walks_from n f 0 a

-- ---- the cell and its children

pub cell-first : (cs : List Cell) (i : ℕ) → (node_at (nodes_of cs) i).first ≡ (cell_at cs i).first
unfolding node_of
cell-first cs i = ap (λ (n : Node). n.first) (node-at cs i)

pub some-children : (c : ℕ) → 0 < 2 ^ c
some-children c = one-le-pow c 2 (zero-lt-suc 1)

pub just-added : (f n : ℕ) → f + n - f ≡ n
just-added f n = omega arith

module _ (used : ℕ) (y : Eye) (cs : List Cell) (ok : Blocks used y.c (nodes_of cs)) (ax : Axes y.c) where
  -- the end of its block fits in a word, of a cell with no children too
  pub first_fits : used ≤ most_word → (i : ℕ) → i < used → (cell_at cs i).first + 2 ^ y.c ≤ most_word
  first_fits h i l =
      elim (ℕ_discrete (cell_at cs i).first 0) [
        | yes z ↦ omega (arith, z, few-children y.c ax)
        | no n ↦ let b : (i < (cell_at cs i).first) × ((cell_at cs i).first + 2 ^ y.c ≤ used) = subst (λ (f : ℕ). (i < f) ×
            (f + 2 ^ y.c ≤ used)) (cell-first cs i) (ok i l (λ x. n (sym (cell-first cs i) ∙ x))) in omega (arith, b.1, h)
      ]

-- the walk from the root is the repulsion
pub from-root : (used : ℕ) (y : Eye) (cs : List Cell) (a : Acc) → a ≡ nothing → over-cells used y cs 0 (1 - 0) a ≡ repelled used y.c y.q y.p y.theta2 (nodes_of cs)
unfolding loop repelled
from-root used y cs a e = ap (λ (z : Acc). walk_of used y.c y.q y.p y.theta2 (nodes_of cs) 0 z) e
