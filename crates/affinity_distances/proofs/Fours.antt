-- Four frames at a time: where their rows stand in a table, and a counting loop taken several turns at once. Assumes nothing.
use mathlib.Core.Path.{◌≡◌, refl, sym, ap, subst, ◌∙◌}
use mathlib.Core.List.{List}
use Prim.Native.Nat.{ℕ, ◌+◌, ◌-◌, ◌*◌, ◌≤◌}
use native.Mathlib.Omega.{arith}
use native.Mathlib.Nat.{add-mul, le_trans, mul-le-mul_right, zero-add}
use lib.Ieee.{Float, binary64, add, sub, mul}
use lib.ListN.{set}
use Rattle.laws.specs.Loops.{loop}
use Rattle.laws.specs.Area.{zero64, two64}
use Rattle.laws.proofs.Loops.{Loops, loop-add}
use Rattle.elementary.specs.Limits.{unless_above}
use Rattle.affinity_distances.specs.Distances.{dot_of, square_of, distance_of, distance_step}

pub one_on : (j f : ℕ) → (j + 1) * f ≡ j * f + f
one_on j f = omega (arith, add-mul j 1 f)

pub two-on : (j f : ℕ) → (j + 2) * f ≡ j * f + f + f
two-on j f = omega (arith, add-mul j 2 f)

pub three-on : (j f : ℕ) → (j + 3) * f ≡ j * f + f + f + f
three-on j f = omega (arith, add-mul j 3 f)

-- the rows of four of n frames lie within a table that is long enough for n
pub rows_in : (j n f l : ℕ) → j + 4 ≤ n → n * f ≤ l → j * f + 4 * f ≤ l
rows_in j n f l h e = le_trans (subst (λ (m : ℕ). m ≤ n * f) (add-mul j 4 f) (mul-le-mul_right f h)) e

module _ {A : Type 0} (f : ℕ → A → A) (x y : A) (j : ℕ) (e : x ≡ loop f j 0 y) where
  -- j turns and then m are j + m
  pub loop-many : (m : ℕ) → loop f m j x ≡ loop f (j + m) 0 y
  loop-many m = ap (loop f m j) e ∙ ap (λ (s : ℕ). loop f m s (loop f j 0 y)) (sym (zero-add j)) ∙ sym (loop-add f j m 0 y)

  pub loop-from : (n : ℕ) → j ≤ n → Loops f n y j x
  loop-from n h = record { within = h; same = loop-many (n - j) ∙ ap (λ (s : ℕ). loop f s 0 y) (whole j n h) }
    where
      whole : (j n : ℕ) → j ≤ n → j + (n - j) ≡ n
      whole j n h = omega arith

module _ (t : List Float) (f i : ℕ) where
  pub apart-is : (j : ℕ) (x y z : Float) → x ≡ square_of t f i → y ≡ square_of t f j → z ≡ dot_of t f i j →
      unless_above zero64 (sub binary64 (add binary64 x y) (mul binary64 two64 z)) ≡ distance_of t f i j
  unfolding distance_of
  apart-is j x y z e g h = rw (e, g, h) refl

  -- four distances, each in its place
  pub four-written : (j : ℕ) (p : List Float) (a b c d : Float) → a ≡ distance_of t f i j → b ≡ distance_of t f i (j + 1) → c ≡ distance_of t f i (j + 2) → d ≡ distance_of t f i (j + 3)
      → set (set (set (set p j a) (j + 1) b) (j + 2) c) (j + 3) d ≡ loop (distance_step t f i) 4 j p
  unfolding loop
  four-written j p a b c d ea eb ec ed = rw (ea, eb, ec, ed, two j, three j) refl
    where
      two : (j : ℕ) → j + 1 + 1 ≡ j + 2
      two j = omega arith

      three : (j : ℕ) → j + 2 + 1 ≡ j + 3
      three j = omega arith
