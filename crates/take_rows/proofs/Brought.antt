-- Rows of frames that are kept, brought while the rows before them are packed: where they stand, and that they are as they were. Assumes nothing.
use mathlib.Core.Path.{◌≡◌, refl, sym, ap, subst, ◌∙◌}
use mathlib.Core.List.{List, ◌++◌, append_assoc}
use Prim.Native.Nat.{ℕ, ◌+◌, ◌-◌, ◌*◌, ◌<◌, ◌≤◌}
use native.Mathlib.Omega.{arith}
use native.Mathlib.Nat.{mul-le-mul}
use lib.ListN.{length, take, drop}
use lib.Seq.{paste}
use lib.Ieee.{Float, nan, binary64, sub}
use Rattle.std.specs.List.{copy_within}
use Rattle.laws.specs.Area.{at, num}
use Rattle.laws.specs.Joined.{each}
use Rattle.laws.proofs.Laid.{singles-size, singles-taken}
use Rattle.take_gone.proofs.Fronts.{fronts-at}
use Rattle.take_rows.specs.Rows.{Staying, Means, centred_left}
use Rattle.take_rows.proofs.Packing.{Packs, each_same, kept-no-lower, kept-within}

-- a row of a matrix gives as many values as frames are kept
square-no-lower : {keep : List ℕ} {n : ℕ} → Staying keep n → (i : ℕ) → i < length keep → i * length keep ≤ num keep i * n
square-no-lower k i h = mul-le-mul (k.no_lower i h) k.few

module _ {keep : List ℕ} {n : ℕ} (k : Staying keep n) {A : Type 0} {row : ℕ → List A} {l₀ l : List A} {i x : ℕ} where
  -- the row of frame x, of w values, lies no lower than where it goes to, and within the area
  pub row_room : (w : ℕ) → Packs row w (length keep) l₀ i l → i < length keep → x ≡ num keep i → n * w ≤ length l₀ → (i * w ≤ x * w) × (x * w + w ≤ length l)
  row_room w p h e s = subst (λ (y : ℕ). (i * w ≤ y * w) × (y * w + w ≤ length l)) (sym e) (kept-no-lower k w i h, omega (arith, kept-within k w i (length l₀) h s, p.front.size))

  pub square-room : Packs row (length keep) (length keep) l₀ i l → i < length keep → x ≡ num keep i → n * n ≤ length l₀ → (i * length keep ≤ x * n) × (x * n + n ≤ length l)
  square-room p h e s = subst (λ (y : ℕ). (i * length keep ≤ y * n) × (y * n + n ≤ length l)) (sym e) (square-no-lower k i h, omega (arith, kept-within k n i (length l₀) h s, p.front.size))

module _ {keep : List ℕ} {n : ℕ} (k : Staying keep n) {row : ℕ → List ℕ} {l₀ l : List ℕ} {i x : ℕ} where
  pub row-brought : (w : ℕ) → Packs row w (length keep) l₀ i l → i < length keep → x ≡ num keep i → each (λ d. num l (x * w + d)) w ≡ each (λ d. num l₀ (num keep i * w + d)) w
  row-brought w p h e = each_same (λ d. num l (x * w + d)) (λ d. num l₀ (num keep i * w + d)) w
      (λ d m. ap (λ (y : ℕ). num l (y * w + d)) e ∙ fronts-at p.front 0 (num keep i * w + d) (omega (arith, kept-no-lower k w i h)))

  pub square-brought : Packs row (length keep) (length keep) l₀ i l → i < length keep → x ≡ num keep i →
      each (λ j. num l (x * n + num keep j)) (length keep) ≡ each (λ j. num l₀ (num keep i * n + num keep j)) (length keep)
  square-brought p h e = each_same (λ j. num l (x * n + num keep j)) (λ j. num l₀ (num keep i * n + num keep j)) (length keep)
      (λ j m. ap (λ (y : ℕ). num l (y * n + num keep j)) e ∙ fronts-at p.front 0 (num keep i * n + num keep j) (omega (arith, square-no-lower k i h)))

module _ {keep : List ℕ} {n : ℕ} (k : Staying keep n) {row : ℕ → List Float} {l₀ l : List Float} {i x : ℕ} where
  pub centred-brought : (c : ℕ) {means : List Float} → Means keep c l₀ means → Packs row c (length keep) l₀ i l → i < length keep → x ≡ num keep i
      → each (λ d. sub binary64 (at l (x * c + d)) (at means d)) c ≡ each (λ d. centred_left keep c l₀ (num keep i) d) c
  centred-brought c {means} s p h e = each_same (λ d. sub binary64 (at l (x * c + d)) (at means d)) (λ d. centred_left keep c l₀ (num keep i) d) c
      (λ d m. ap (λ (y : ℕ). sub binary64 (at l (y * c + d)) (at means d)) e
      ∙ ap (λ (v : Float). sub binary64 v (at means d)) (fronts-at p.front nan (num keep i * c + d) (omega (arith, kept-no-lower k c i h)))
      ∙ ap (sub binary64 (at l₀ (num keep i * c + d))) (s.each-mean d m))

-- a row that is copied from place a to place b
pub row-copied : (l : List ℕ) {l' : List ℕ} (a b w : ℕ) → a + w ≤ length l → l' ≡ copy_within l a (a + w) b → l' ≡ take b l ++ (each (λ d. num l (a + d)) w ++ drop (b + w) l)
row-copied l {l'} a b w h e =
    e
    ∙ ap (λ (x : ℕ). paste l b (drop a l) x) (left a w)
    ∙ append_assoc (take b l) (take w (drop a l)) (drop (b + w) l)
    ∙ ap (λ (x : List ℕ). take b l ++ (x ++ drop (b + w) l)) (singles-taken l 0 (λ d. num l (a + d)) a w h (λ j m. refl))
  where
    left : (a w : ℕ) → a + w - a ≡ w
    left a w = omega arith

-- so many values has a row
pub row-long : {A : Type 0} (g : ℕ → A) (w : ℕ) → length (each g w) ≡ w
row-long g w = singles-size g w

-- the matrix that is left is no larger
pub square-few : {keep : List ℕ} {n : ℕ} → Staying keep n → length keep * length keep ≤ n * n
square-few k = mul-le-mul k.few k.few
