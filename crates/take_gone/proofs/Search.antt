-- Where a number stands in a list that rises: what the library's binary search answers is the place, or tells that it stands nowhere. Assumes nothing.
use mathlib.Core.Path.{◌≡◌, sym, ap}
use mathlib.Core.List.{List}
use Prim.Native.Nat.{ℕ, ◌<◌, ◌≤◌}
use native.Mathlib.Omega.{arith}
use native.Mathlib.Decide.{dec_lt}
use lib.Dec.{eqb}
use lib.ListN.{length, get_or}
use borrow.Author.Tests.{eq-eqb, ne_eqb, lt-ltb, le-ltb}
use Rattle.std.specs.Prelude.{Result, Ok, Err}
use Rattle.std.specs.Result.{is_ok, result_unwrap_or}
use Rattle.std.specs.Ordering.{nat_cmp}
use Rattle.std.specs.List.Sorted.{IsBinarySearchResult}
use Rattle.std.proofs.lemmas.List.Sorted.{searched}
use Rattle.laws.specs.Area.{num}
use Rattle.laws.proofs.First.{first-at, first-none}
use Rattle.take_gone.specs.Gone.{stands_at, is_among, Climbs}

module _ {l : List ℕ} (c : Climbs l) where
  no-lower : (s t : ℕ) → s ≤ t → t < length l → get_or l s 0 ≤ get_or l t 0
  no-lower s t a b = elim (dec_lt s t) [ yes m ↦ omega (arith, c.climb s t m b) | no m ↦ omega (arith, ap (num l) (here s t a m)) ]
    where
      here : (s t : ℕ) → s ≤ t → (s < t → ⊥) → s ≡ t
      here s t a m = omega arith

  pub searched-place : (j : ℕ) (r : Result ℕ ℕ) → IsBinarySearchResult (λ y. nat_cmp y j) l r → result_unwrap_or r (length l) ≡ stands_at l j
  searched-place j (Ok i) h = place (searched l j (Ok i) h no-lower)
    where
      place : (i < length l) × (get_or l i 0 ≡ j) → i ≡ stands_at l j
      place t = sym (first-at (λ t. eqb (num l t) j) (length l) i t.0 (eq-eqb (num l i) j t.1) (λ s a. ne_eqb (num l s) j (λ q. omega (arith, c.climb s i a t.0, q, t.1))))
  searched-place j (Err i) h = place (searched l j (Err i) h no-lower)
    where
      place : (i ≤ length l) × ((k : ℕ) → k < i → get_or l k 0 < j) × ((k : ℕ) → i ≤ k → k < length l → j < get_or l k 0) → length l ≡ stands_at l j
      place t = sym (first-none (λ t. eqb (num l t) j) (length l) (λ s a. ne_eqb (num l s) j
          (λ q. elim (dec_lt s i) [ yes b ↦ omega (arith, t.1 s b, q) | no b ↦ omega (arith, t.2 s (omega arith) a, q) ])))

  pub searched-among : (j : ℕ) (r : Result ℕ ℕ) → IsBinarySearchResult (λ y. nat_cmp y j) l r → is_ok r ≡ is_among l j
  searched-among j (Ok i) h = sym (lt-ltb (stands_at l j) (length l) (omega (arith, searched-place j (Ok i) h, (searched l j (Ok i) h no-lower).0)))
  searched-among j (Err i) h = sym (le-ltb (stands_at l j) (length l) (omega (arith, searched-place j (Err i) h)))
