-- Laws of the arena: what the cells say of the nodes, and that the nodes tell the cells whole. Assumes nothing.
use mathlib.Core.Path.{◌≡◌, refl, sym, ◌∙◌, ap}
use mathlib.Core.List.{List, [], ◌∷◌, map, ◌++◌}
use Prim.Native.Nat.{ℕ, zero, suc, ◌+◌, ◌-◌, ◌≤◌}
use native.Mathlib.Omega.{arith}
use lib.ListN.{length, set, length-map}
use borrow.Author.Tests.{eq-eqb, ne_eqb}
use Rattle.std.specs.Option.{SomeIff}
use Rattle.laws.specs.Domain.{most_word}
use Rattle.tree_node.specs.declared.Node.{Node}
use Rattle.tree_node.specs.declared.Cell.{Cell}
use Rattle.std.specs.declared.option.Option.{Option}
use Rattle.std.specs.declared.option.Option.TheVariants.{None, Some}
use Rattle.tree_node.specs.Arena.{leaf_of, leaf_word, node_of, laid_of, nodes_of, cell_at, node_at, nameable}

-- ---- a cell and its node

less : (p : ℕ) → Some (p + 1 - 1) ≡ Some p
less p = let e : p + 1 - 1 ≡ p = omega arith in rw e

leaf-word : (l : Option ℕ) → leaf_of (leaf_word l) ≡ l
unfolding leaf_of
leaf-word None = refl
leaf-word (Some p) = rw (ne_eqb (p + 1) 0 (λ e. omega (arith, e))) (less p)

word-leaf : (v : ℕ) → leaf_word (leaf_of v) ≡ v
unfolding leaf_of
word-leaf zero = refl
word-leaf (suc v) = rw (ne_eqb (suc v) 0 (λ e. omega (arith, e))) (back v)
  where
    back : (v : ℕ) → suc v - 1 + 1 ≡ suc v
    back v = omega arith

-- what `checked_sub` answers
pub leaf-checked : (v : ℕ) (l : Option ℕ) → SomeIff l (1 ≤ v) (v - 1) → l ≡ leaf_of v
unfolding leaf_of
leaf-checked v None h = rw (eq-eqb v 0 (omega (arith, h)))
leaf-checked v (Some p) h = rw (ne_eqb v 0 (λ e. omega (arith, e, h.0)), h.1)

-- a node that is laid down is read again
pub laid-read : (v : Node) → node_of (laid_of v) ≡ v
unfolding node_of laid_of
laid-read v = rw (leaf-word v.leaf)

-- a cell whose node is laid down again is what it was
pub read-laid : (x : Cell) → laid_of (node_of x) ≡ x
unfolding node_of laid_of
read-laid x = rw (word-leaf x.leaf)

-- ---- the arena

pub nodes-length : (cs : List Cell) → length (nodes_of cs) ≡ length cs
unfolding nodes_of
nodes-length cs = length-map cs node_of

pub nodes-at : (cs : List Cell) (i : ℕ) → node_of (cell_at cs i) ≡ node_at (nodes_of cs) i
unfolding nodes_of node_of leaf_of
nodes-at [] i = refl
nodes-at (x ∷ cs) zero = refl
nodes-at (x ∷ cs) (suc i) = nodes-at cs i

pub nodes-set : (cs : List Cell) (i : ℕ) (x : Cell) → nodes_of (set cs i x) ≡ set (nodes_of cs) i (node_of x)
unfolding nodes_of
nodes-set [] i x = refl
nodes-set (y ∷ cs) zero x = refl
nodes-set (y ∷ cs) (suc i) x = ap (λ (ns : List Node). node_of y ∷ ns) (nodes-set cs i x)

-- further cells behind an arena
pub nodes-append : (cs ds : List Cell) → nodes_of (cs ++ ds) ≡ nodes_of cs ++ nodes_of ds
unfolding nodes_of
nodes-append [] ds = refl
nodes-append (x ∷ cs) ds = ap (λ (ns : List Node). node_of x ∷ ns) (nodes-append cs ds)

laid-all : (cs : List Cell) → map laid_of (nodes_of cs) ≡ cs
unfolding nodes_of
laid-all [] = refl
laid-all (x ∷ cs) = rw (read-laid x, laid-all cs)

-- an equation between the nodes of two arenas is one between the arenas
pub cells_told : (cs ds : List Cell) → nodes_of cs ≡ nodes_of ds → cs ≡ ds
cells_told cs ds e = sym (laid-all cs) ∙ ap (map laid_of) e ∙ laid-all ds

-- ---- what a word can name

pub nameable-most : (n : ℕ) → nameable n ≤ n
unfolding nameable
nameable-most n = omega arith

pub nameable-word : (n : ℕ) → nameable n ≤ most_word
unfolding nameable
nameable-word n = omega arith

pub nameable-both : (k n : ℕ) → k ≤ n → k ≤ most_word → k ≤ nameable n
unfolding nameable
nameable-both k n a b = omega (arith, a, b)

pub nameable-longer : (n m : ℕ) → n ≤ m → nameable n ≤ nameable m
nameable-longer n m h = nameable-both (nameable n) m (omega (arith, h, nameable-most n)) (nameable-word n)

-- ---- what `store` cites

pub store_told : (cs : List Cell) (i : ℕ) (v : Node) (x : Cell) → x ≡ laid_of v → nodes_of (set cs i x) ≡ set (nodes_of cs) i v
store_told cs i v x ex = nodes-set cs i x ∙ ap (λ (w : Node). set (nodes_of cs) i w) (ap node_of ex ∙ laid-read v)
