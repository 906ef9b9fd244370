-- What the examples cite, laws of lists without memory: what a callee says of the first k cells, said of all. Assumes nothing.
use mathlib.Core.Path.{◌≡◌, refl, ◌∙◌, ap}
use Prim.Native.Nat.{ℕ, zero, suc, ◌<◌}
use native.Mathlib.Nat.{not-suc-le-zero, le_of_suc-le-suc}
use mathlib.Core.List.{List, [], ◌∷◌, ◌++◌}
use lib.Ieee.{Float}
use lib.ListN.{set, take, drop, get_or, take-append-drop}
use Rattle.tree_node.specs.declared.Cell.{Cell}
use Rattle.tree_node.specs.Arena.{void, cell_at}
use Rattle.lent_examples.specs.declared.Counter.{Counter}
use Rattle.lent_examples.specs.declared.Noted.{Noted}
use Rattle.lent_examples.specs.declared.Placed.{Placed}
use Rattle.lent_examples.specs.Lending.{value_or, valued, bumped_of, placed_of, noted_of}

-- a write at i < k in the first k elements, and a read there, are those of the whole
module _ {X : Type 0} where
  pub set_front : (k i : ℕ) (xs : List X) (v : X) → i < k → set (take k xs) i v ++ drop k xs ≡ set xs i v
  set_front zero i xs v h = absurd (not-suc-le-zero h)
  set_front (suc k) i [] v h = refl
  set_front (suc k) zero (x ∷ xs) v h = ap (λ (ys : List X). v ∷ ys) (take-append-drop k xs)
  set_front (suc k) (suc i) (x ∷ xs) v h = ap (λ (ys : List X). x ∷ ys) (set_front k i xs v (le_of_suc-le-suc h))

  pub get-front : (k i : ℕ) (xs : List X) (d : X) → i < k → get_or (take k xs) i d ≡ get_or xs i d
  get-front zero i xs d h = absurd (not-suc-le-zero h)
  get-front (suc k) i [] d h = refl
  get-front (suc k) zero (x ∷ xs) d h = refl
  get-front (suc k) (suc i) (x ∷ xs) d h = get-front k i xs d (le_of_suc-le-suc h)

pub at_part : (k i : ℕ) (cs : List Cell) → i < k → cell_at (take k cs) i ≡ cell_at cs i
at_part k i cs h = get-front k i cs void h

pub put-part : (k i : ℕ) (cs : List Cell) (v : Cell) (ds : List Cell) → i < k → ds ≡ set (take k cs) i v → ds ++ drop k cs ≡ set cs i v
put-part k i cs v ds h e = ap (λ (es : List Cell). es ++ drop k cs) e ∙ set_front k i cs v h

-- `put_from_own`: what `put_from` says of the part, and the struct that is made
pub own-told : (k i m : ℕ) (cs : List Cell) (vs : List Float) (ms : List ℕ) → i < k → (r : ℕ) (ds : List Cell) (ns : List ℕ)
    → (r ≡ m) × (ds ≡ set (take k cs) i (valued (cell_at (take k cs) i) (value_or vs i))) × (ns ≡ set ms i m)
    → (p : Placed) → p ≡ placed_of r (ds ++ drop k cs)
    → (p ≡ placed_of m (set cs i (valued (cell_at cs i) (value_or vs i)))) × (ns ≡ set ms i m)
own-told k i m cs vs ms h r ds ns e p ep = (
  ep ∙ ap (λ (q : ℕ). placed_of q (ds ++ drop k cs)) e.0 ∙ ap (placed_of m)
      (put-part k i cs (valued (cell_at (take k cs) i) (value_or vs i)) ds h e.1 ∙ ap (λ (w : Cell). set cs i (valued w (value_or vs i))) (at_part k i cs h)),
  e.2,
)

pub noted-told : (k i more : ℕ) (c : Counter) (cs : List Cell) (vs : List Float) → i < k → (d : Counter) (ds : List Cell)
    → (d ≡ bumped_of c more (value_or vs i)) × (ds ≡ set (take k cs) i (valued (cell_at (take k cs) i) (value_or vs i)))
    → (n : Noted) → n ≡ noted_of d (ds ++ drop k cs)
    → n ≡ noted_of (bumped_of c more (value_or vs i)) (set cs i (valued (cell_at cs i) (value_or vs i)))
noted-told k i more c cs vs h d ds e n en =
    en ∙ ap (λ (w : Counter). noted_of w (ds ++ drop k cs)) e.0 ∙
    ap (noted_of (bumped_of c more (value_or vs i))) (put-part k i cs (valued (cell_at (take k cs) i) (value_or vs i)) ds h e.1 ∙
    ap (λ (w : Cell). set cs i (valued w (value_or vs i))) (at_part k i cs h))
