-- Of the frames that are counted: an alone one is blind, a blind one gives all the same share, no count is above n, the alone are no more than the blind. Of any settings and table. Assumes nothing.
use mathlib.Core.Path.{◌≡◌, refl, subst, sym}
use mathlib.Core.List.{List}
use mathlib.Core.Bool.{Bool, true, false}
use Prim.Native.Nat.{ℕ, ◌<◌, ◌≤◌}
use native.Mathlib.Omega.{arith}
use native.Mathlib.Nat.{le_refl}
use lib.IntN.{pos}
use lib.Ieee.{Float, binary64, div, of_int, eq}
use Rattle.laws.specs.Area.{at, zero64, one64}
use Rattle.laws.specs.Sums.{bit}
use Rattle.laws.proofs.Every.{every-at}
use Rattle.laws.proofs.Sums.{sum-le, sum-const, bit_le}
use Rattle.affinity_sigma.specs.Sigma.{shares_of}
use Rattle.affinity_sigma.proofs.Watched.{blind-filled}
use Rattle.run_record.specs.declared.Settings.{Settings}
use Rattle.blind.specs.Blind.{searched_distances, searched_length, blind_at, alone_at, how_many}
use Rattle.blind.proofs.Watches.{zeros-blind}

module _ (s : Settings) (t : List Float) where
  -- a frame all of whose searched distances come out as 0 is blind
  pub alone-blind : (i : ℕ) → alone_at s t i ≡ true → blind_at s t i ≡ true
  unfolding alone_at blind_at
  alone-blind i e =
      let ds = searched_distances s t i in
      zeros-blind ds (searched_length s) (λ j h. every-at (λ j. eq (at ds j) zero64) (searched_length s) e j h) s.perplexity

  -- a blind frame gives each frame that its search goes by the same share
  pub blind-equal : (i : ℕ) → blind_at s t i ≡ true → (j : ℕ) → j < searched_length s
      → at (shares_of (searched_distances s t i) (searched_length s) s.perplexity) j ≡ div binary64 one64 (of_int binary64 (pos (searched_length s)))
  unfolding blind_at
  blind-equal i e j h = blind-filled (searched_distances s t i) (searched_length s) s.perplexity e j h

  -- ---- the counts

  pub how-many-most : (p : ℕ → Bool) (n : ℕ) → how_many p n ≤ n
  how-many-most p n = omega (arith, sum-le (λ i. bit (p i)) (λ i. 1) n (λ i h. bit_le (p i)), sum-const 1 n)

  bit-rises : (a b : Bool) → (a ≡ true → b ≡ true) → bit a ≤ bit b
  unfolding bit
  bit-rises true b h = subst (λ (c : Bool). 1 ≤ bit c) (sym (h refl)) (le_refl 1)
  bit-rises false b h = omega arith

  pub alone-fewer : how_many (alone_at s t) s.n ≤ how_many (blind_at s t) s.n
  alone-fewer = sum-le (λ i. bit (alone_at s t i)) (λ i. bit (blind_at s t i)) s.n (λ i h. bit-rises (alone_at s t i) (blind_at s t i) (alone-blind i))
