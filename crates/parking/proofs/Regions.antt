-- Where each area of a parked run lies: six regions of whole records, one after the other. Assumes nothing.
use mathlib.Core.Path.{◌≡◌, refl, subst}
use mathlib.Core.Bool.{Bool, cond}
use Prim.Native.Nat.{ℕ, ◌+◌, ◌-◌, ◌*◌, ◌/◌, ◌<◌, ◌≤◌}
use native.Mathlib.Omega.{arith}
use native.Mathlib.Decide.{dec_lt}
use lib.Dec.{ltb}
use borrow.Author.Tests.{lt-ltb, le-ltb}
use Rattle.parked.specs.declared.Layout.{Layout}
use Rattle.parked.specs.Layout.{filled_up, layout_of}

-- m words are filled up to whole records
pub filled-most : (m : ℕ) → m ≤ filled_up m
unfolding filled_up
filled-most m = omega arith

pub filled-whole : (m : ℕ) → filled_up m ≡ 4 * ((m + 3) / 4)
unfolding filled_up
filled-whole m = omega arith

pub less_one : (a i : ℕ) → 1 ≤ i → a + i - 1 ≡ a + (i - 1)
less_one a i h = omega arith

pub record Stacked (l : Layout) : Type 0 where
  pub increments-at : l.increments ≡ 12 + filled_up l.cells
  pub gains-at : l.gains ≡ l.increments + filled_up l.cells
  pub affinities-at : l.affinities ≡ l.gains + filled_up l.cells
  pub indices-at : l.indices ≡ l.affinities + filled_up l.held
  pub weights-at : l.weights ≡ l.indices + filled_up l.links
  pub end-at : l.end ≡ l.weights + filled_up l.links

pub layout-stacked : (t : Bool) (n c links : ℕ) → Stacked (layout_of t n c links)
unfolding layout_of
layout-stacked t n c links = record { increments-at = refl; gains-at = refl; affinities-at = refl; indices-at = refl; weights-at = refl; end-at = refl }

module _ (l : Layout) (r : Stacked l) where
  -- the words come to whole records, of which the first three are there
  pub end_whole : l.end ≡ 4 * (l.end / 4)
  end_whole = whole l.end (3 + 3 * ((l.cells + 3) / 4) + (l.held + 3) / 4 + 2 * ((l.links + 3) / 4))
      (sum ((l.cells + 3) / 4) ((l.held + 3) / 4) ((l.links + 3) / 4) r.increments-at r.gains-at r.affinities-at r.indices-at r.weights-at
      r.end-at (filled-whole l.cells) (filled-whole l.held) (filled-whole l.links))
    where
      whole : (x k : ℕ) → x ≡ 4 * k → x ≡ 4 * (x / 4)
      whole x k e = omega arith

      sum : {i g a x w e p q s : ℕ} (u v y : ℕ) → i ≡ 12 + p → g ≡ i + p → a ≡ g + p → x ≡ a + q → w ≡ x + s → e ≡ w + s → p ≡ 4 * u → q ≡ 4 * v → s ≡ 4 * y → e ≡ 4 * (3 + 3 * u + v + 2 * y)
      sum u v y a b c d e f g h i = omega arith

  pub head-before-end : 12 ≤ l.end
  head-before-end = omega (arith, r.increments-at, r.gains-at, r.affinities-at, r.indices-at, r.weights-at, r.end-at)

  -- what holds in each region holds of each word past the first three records
  pub by-region : (P : ℕ → Type 0)
      → ((i : ℕ) → i < filled_up l.cells → P (12 + i))
      → ((i : ℕ) → i < filled_up l.cells → P (l.increments + i))
      → ((i : ℕ) → i < filled_up l.cells → P (l.gains + i))
      → ((i : ℕ) → i < filled_up l.held → P (l.affinities + i))
      → ((i : ℕ) → i < filled_up l.links → P (l.indices + i))
      → ((i : ℕ) → i < filled_up l.links → P (l.weights + i))
      → (w : ℕ) → 12 ≤ w → w < l.end → P w
  by-region P p i g h x a w low high =
      elim (dec_lt w l.increments) [
        | yes m ↦ from 12 (filled_up l.cells) p low (omega (arith, r.increments-at))
        | no n1 ↦ elim (dec_lt w l.gains) [
          | yes m ↦ from l.increments (filled_up l.cells) i (omega arith) (omega (arith, r.gains-at))
          | no n2 ↦ elim (dec_lt w l.affinities) [
            | yes m ↦ from l.gains (filled_up l.cells) g (omega arith) (omega (arith, r.affinities-at))
            | no n3 ↦ elim (dec_lt w l.indices) [
              | yes m ↦ from l.affinities (filled_up l.held) h (omega arith) (omega (arith, r.indices-at))
              | no n4 ↦ elim (dec_lt w l.weights) [
                | yes m ↦ from l.indices (filled_up l.links) x (omega arith) (omega (arith, r.weights-at))
                | no n5 ↦ from l.weights (filled_up l.links) a (omega arith) (omega (arith, r.end-at))
              ]
            ]
          ]
        ]
      ]
    where
      from : (b m : ℕ) → ((i : ℕ) → i < m → P (b + i)) → b ≤ w → w < b + m → P w
      from b m f lo hi = subst P (is b lo) (f (w - b) (omega arith))
        where
          is : (b : ℕ) → b ≤ w → b + (w - b) ≡ w
          is b lo = omega arith

-- a choice by region, as the definitions make it
module _ {A : Type 0} (l : Layout) (r : Stacked l) (p i g h x a : A) where
  abbrev pub chosen : ℕ → A
  chosen w =
      cond (ltb w l.affinities)
      (cond (ltb w l.increments) p (cond (ltb w l.gains) i g))
      (cond (ltb w l.indices) h (cond (ltb w l.weights) x a))

  pub in-positions : (k : ℕ) → k < filled_up l.cells → chosen (12 + k) ≡ p
  in-positions k m = rw (lt-ltb (12 + k) l.affinities (omega (arith, r.increments-at, r.gains-at, r.affinities-at)), lt-ltb (12 + k) l.increments (omega (arith, r.increments-at)))

  pub in-increments : (k : ℕ) → k < filled_up l.cells → chosen (l.increments + k) ≡ i
  in-increments k m = rw (
    lt-ltb (l.increments + k) l.affinities (omega (arith, r.gains-at, r.affinities-at)),
    le-ltb (l.increments + k) l.increments (omega arith),
    lt-ltb (l.increments + k) l.gains (omega (arith, r.gains-at)),
  )

  pub in-gains : (k : ℕ) → k < filled_up l.cells → chosen (l.gains + k) ≡ g
  in-gains k m = rw (
    lt-ltb (l.gains + k) l.affinities (omega (arith, r.affinities-at)),
    le-ltb (l.gains + k) l.increments (omega (arith, r.gains-at)),
    le-ltb (l.gains + k) l.gains (omega arith),
  )

  pub in-affinities : (k : ℕ) → k < filled_up l.held → chosen (l.affinities + k) ≡ h
  in-affinities k m = rw (le-ltb (l.affinities + k) l.affinities (omega arith), lt-ltb (l.affinities + k) l.indices (omega (arith, r.indices-at)))

  pub in-indices : (k : ℕ) → k < filled_up l.links → chosen (l.indices + k) ≡ x
  in-indices k m = rw (
    le-ltb (l.indices + k) l.affinities (omega (arith, r.indices-at)),
    le-ltb (l.indices + k) l.indices (omega arith),
    lt-ltb (l.indices + k) l.weights (omega (arith, r.weights-at)),
  )

  pub in-weights : (k : ℕ) → k < filled_up l.links → chosen (l.weights + k) ≡ a
  in-weights k m = rw (
    le-ltb (l.weights + k) l.affinities (omega (arith, r.indices-at, r.weights-at)),
    le-ltb (l.weights + k) l.indices (omega (arith, r.weights-at)),
    le-ltb (l.weights + k) l.weights (omega arith),
  )
