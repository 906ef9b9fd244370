-- Links counted by the frame at which they start: where links are listed frame by frame, the count is a place in the file. Assumes nothing.
use mathlib.Core.Path.{◌≡◌, ap, subst, ◌∙◌}
use mathlib.Core.List.{List}
use mathlib.Core.Bool.{Bool, true, false}
use Prim.Native.Nat.{ℕ, zero, suc, ◌+◌, ◌<◌, ◌≤◌}
use native.Mathlib.Omega.{arith}
use native.Mathlib.Decide.{dec_lt}
use lib.Dec.{ltb}
use borrow.Author.Tests.{lt-ltb, le-ltb}
use Rattle.laws.specs.Sums.{sum, bit}
use Rattle.partner.specs.Partner.{whole_links, link_from}
use Rattle.partner_load.specs.Loaded.{links_below, FramesRise}

-- of n tests the first r hold and no other: they count r
count-first : (p : ℕ → Bool) (n r : ℕ) → r ≤ n → ((t : ℕ) → t < r → p t ≡ true) → ((t : ℕ) → r ≤ t → t < n → p t ≡ false) → sum (λ t. bit (p t)) n ≡ r
unfolding sum bit
count-first p zero r l y z = omega arith
count-first p (suc n) r l y z = elim (dec_lt n r) [
  | yes q ↦ rw (y n q) (ap (λ (x : ℕ). x + 1) (count-first p n n (omega arith) (λ t m. y t (omega arith)) (λ t a m. absurd (omega arith))) ∙ omega arith)
  | no q ↦ rw (z n (omega arith) (omega arith)) (omega (arith, count-first p n r (omega arith) y (λ t a m. z t a (omega arith))))
]

-- one more link that starts at a frame below j
pub starts-below-next : (f : List ℕ) {a p j : ℕ} → ((t : ℕ) → a ≤ t → t < p → link_from f t < j) → link_from f p < j → (t : ℕ) → a ≤ t → t < p + 1 → link_from f t < j
starts-below-next f {a} {p} {j} h e t l m = elim (dec_lt t p) [ yes q ↦ h t l q | no q ↦ subst (λ (x : ℕ). link_from f x < j) (omega arith) e ]

-- the loop: r is where the list of frame j begins, so that those before it start at frames below j
pub record ListsBegin (f : List ℕ) (r j : ℕ) : Type 0 where
  pub within : r ≤ whole_links f
  pub below : (t : ℕ) → t < r → link_from f t < j

pub lists-start : (f : List ℕ) → ListsBegin f 0 0
lists-start f = record { within = omega arith; below = λ t l. absurd (omega arith) }

module _ {f : List ℕ} {a r j : ℕ} (h : ListsBegin f a j) where
  -- from a on, those up to r start below j, and the one at r does not
  pub lists-over : (a ≤ r) → r ≤ whole_links f → ((t : ℕ) → a ≤ t → t < r → link_from f t < j) → ListsBegin f r j
  lists-over l w b = record { within = w; below = λ t m. elim (dec_lt t a) [ yes q ↦ h.below t q | no q ↦ b t (omega arith) m ] }

pub lists-next : {f : List ℕ} {r j : ℕ} → ListsBegin f r j → ListsBegin f r (j + 1)
lists-next h = record { within = h.within; below = λ t l. omega (arith, h.below t l) }

-- r links start at frames below j
pub lists-counted : {f : List ℕ} {r j : ℕ} → FramesRise f → ListsBegin f r j → (r < whole_links f → j ≤ link_from f r) → links_below f j ≡ r
unfolding links_below
lists-counted {f} {r} {j} c h e = count-first (λ p. ltb (link_from f p) j) (whole_links f) r h.within (λ t l. lt-ltb _ _ (h.below t l)) (λ t a l. le-ltb _ _ (past t a l))
  where
    past : (t : ℕ) → r ≤ t → t < whole_links f → j ≤ link_from f t
    past t a l = elim (dec_lt r t) [
      | yes q ↦ omega (arith, e (omega arith), c.no_lower r t q l)
      | no q ↦ subst (λ (x : ℕ). j ≤ link_from f x) (omega arith) (e (omega arith))
    ]
