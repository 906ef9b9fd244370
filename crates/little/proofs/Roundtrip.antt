-- A number written as bytes is read again, and bytes that are read as a number are written again. Assumes nothing.
use mathlib.Core.Path.{◌≡◌, refl, sym, ap, ◌∙◌}
use mathlib.Core.List.{List, ◌∷◌, ◌++◌}
use Prim.Native.Nat.{ℕ, zero, suc, ◌+◌, ◌*◌, ◌/◌, ◌%◌, ◌^◌, ◌<◌, ◌≤◌}
use native.Mathlib.Omega.{arith}
use native.Mathlib.Numerals.{add-one}
use lib.ListN.{length, take, drop}
use lib.Seq.{drop-cons}
use Rattle.laws.specs.Area.{num}
use Rattle.little.specs.Little.{little_of, little_bytes, AllBelow}

-- a number is told by its bytes, wherever they stand
pub little-same : (n : ℕ) (f g : List ℕ) (a b : ℕ) → ((j : ℕ) → j < n → num f (a + j) ≡ num g (b + j)) → little_of f a n ≡ little_of g b n
unfolding little_of
little-same zero f g a b h = refl
little-same (suc n) f g a b h = rw (first, little-same n f g (a + 1) (b + 1) (λ j l. ap (num f) (shift a j) ∙ h (j + 1) (omega arith) ∙ ap (num g) (sym (shift b j))))
  where
    plus : (x : ℕ) → x ≡ x + 0
    plus x = omega arith

    shift : (x j : ℕ) → x + 1 + j ≡ x + (j + 1)
    shift x j = omega arith

    first : num f a ≡ num g b
    first = ap (num f) (plus a) ∙ h 0 (omega arith) ∙ ap (num g) (sym (plus b))

-- a number of n bytes, written and read
pub little-back : (n v : ℕ) (r : List ℕ) → v < 256 ^ n → little_of (little_bytes n v ++ r) 0 n ≡ v
unfolding little_of little_bytes
little-back zero v r h = omega arith
little-back (suc n) v r h =
    let x = v % 256 in
    let l = little_bytes n (v / 256) ++ r in
    let e : little_of (x ∷ l) (0 + 1) n ≡ v / 256 = little-same n (x ∷ l) l (0 + 1) 0 (λ j m. ap (num (x ∷ l)) (next j) ∙ ap (num l) (plus j)) ∙ little-back n (v / 256) r (small n v h) in
    rw e (omega arith)
  where
    next : (j : ℕ) → 0 + 1 + j ≡ suc j
    next j = omega arith

    plus : (j : ℕ) → j ≡ 0 + j
    plus j = omega arith

    small : (n v : ℕ) → v < 256 ^ suc n → v / 256 < 256 ^ n
    small n v h = omega arith

-- n bytes, read and written
pub bytes_back : (n : ℕ) (f : List ℕ) (a : ℕ) → AllBelow 256 f → a + n ≤ length f → little_bytes n (little_of f a n) ≡ take n (drop a f)
unfolding little_of little_bytes
bytes_back zero f a b h = refl
bytes_back (suc n) f a b h =
    rw (low (num f a) (little_of f (a + 1) n) (b a), high (num f a) (little_of f (a + 1) n) (b a), bytes_back n f (a + 1) b (omega arith), drop-cons f a 0 (omega arith), add-one a)
  where
    low : (x y : ℕ) → x < 256 → (x + 256 * y) % 256 ≡ x
    low x y l = omega arith

    high : (x y : ℕ) → x < 256 → (x + 256 * y) / 256 ≡ y
    high x y l = omega arith

-- a number of n bytes
pub little-below : (n : ℕ) (f : List ℕ) (a : ℕ) → AllBelow 256 f → little_of f a n < 256 ^ n
unfolding little_of
little-below zero f a b = omega arith
little-below (suc n) f a b = omega (arith, b a, little-below n f (a + 1) b)
