-- A squared distance is finite, not negative, and at most 2 ^ 50. The premise is that there are at most 256 features and that the values of both frames are in the domain; nothing else is assumed.
use mathlib.Core.Path.{◌≡◌, subst}
use mathlib.Core.List.{List}
use mathlib.Core.Bool.{true, false}
use Prim.Native.Nat.{ℕ, ◌+◌, ◌*◌, ◌^◌, ◌<◌, ◌≤◌}
use native.Mathlib.Omega.{arith}
use native.Mathlib.Nat.{zero-add}
use lib.Dec.{lit<, lit≤}
use lib.Ieee.{Float, binary64, add, sub, mul, neg}
use Rattle.laws.specs.Domain.{most_features}
use Rattle.laws.specs.Area.{at, zero64, two64}
use Rattle.laws.proofs.Loops.{loop-keeps}
use Rattle.elementary.specs.Limits.{in_domain, up_to_whole}
use Rattle.elementary.proofs.Sizes.{Most, held_whole, most-more, most-neg, most-add, most-mul, sized-most, sized-whole, zero-whole, two_sized, domain-most, above-whole}
use Rattle.affinity_distances.specs.Distances.{dot_step, dot_of, square_of, distance_of}

module _ (t : List Float) (f : ℕ) (few : f ≤ most_features) where
  -- the values of frame i are in the domain
  abbrev Inside : ℕ → Type 0
  Inside i = (k : ℕ) → k < f → in_domain (at t (i * f + k)) ≡ true

  module _ (i j : ℕ) (mine : Inside i) (other : Inside j) where
    product : (k : ℕ) → k < f → Most (2 ^ 40) 1 (mul binary64 (at t (i * f + k)) (at t (j * f + k)))
    product k h =
        most-mul (2 ^ 20) 1 (2 ^ 20) 1 (2 ^ 40) 1 (at t (i * f + k)) (at t (j * f + k)) (lit< tt) (lit< tt) (lit< tt) (held_whole (2 ^ 40) (lit≤ tt)) (lit≤ tt)
        (domain-most (at t (i * f + k)) (mine k h)) (domain-most (at t (j * f + k)) (other k h))

    -- the sum of k products is at most 2 ^ 40·k
    dot-most : Most (2 ^ 48) 1 (dot_of t f i j)
    dot-most = most-more (2 ^ 40 * f) (2 ^ 48) 1 (dot_of t f i j) (omega (arith, few))
        (subst (λ (k : ℕ). Most (2 ^ 40 * k) 1 (dot_of t f i j)) (zero-add f)
        (loop-keeps (λ k s. Most (2 ^ 40 * k) 1 s) (dot_step t (i * f) (j * f)) f 0 zero64
        (λ k s h p. subst (λ (n : ℕ). Most n 1 (dot_step t (i * f) (j * f) k s)) (one_more k)
        (most-add (2 ^ 40 * k) (2 ^ 40) 1 s (mul binary64 (at t (i * f + k)) (at t (j * f + k))) (lit< tt) (held_whole (2 ^ 40 * k + 2 ^ 40) (omega (arith, h, few))) p (product k (omega (arith, h)))))
        (sized-most false 0 1 zero64 (sized-whole 0 zero64 (zero-whole 0)))))
      where
        one_more : (k : ℕ) → 2 ^ 40 * k + 2 ^ 40 ≡ 2 ^ 40 * (k + 1)
        one_more k = omega arith

  pub distance-bounded : (i j : ℕ) → Inside i → Inside j → up_to_whole (distance_of t f i j) (2 ^ 50)
  unfolding distance_of sub
  distance-bounded i j p q =
      let squares = add binary64 (square_of t f i) (square_of t f j) in
      let twice = mul binary64 two64 (dot_of t f i j) in
      above-whole (2 ^ 50) (add binary64 squares (neg twice))
      (most-add (2 ^ 49) (2 ^ 49) 1 squares (neg twice) (lit< tt) (held_whole (2 ^ 50) (lit≤ tt))
      (most-add (2 ^ 48) (2 ^ 48) 1 (square_of t f i) (square_of t f j) (lit< tt) (held_whole (2 ^ 49) (lit≤ tt)) (dot-most i i p p) (dot-most j j q q))
      (most-neg (2 ^ 49) 1 twice
      (most-mul 2 1 (2 ^ 48) 1 (2 ^ 49) 1 two64 (dot_of t f i j) (lit< tt) (lit< tt) (lit< tt) (held_whole (2 ^ 49) (lit≤ tt)) (lit≤ tt) (sized-most false 2 1 two64 two_sized) (dot-most i j p q))))
