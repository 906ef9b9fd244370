-- The rows as a caller makes them, one after the other from row 0 on: a further row keeps those before it. Assumes nothing.
use mathlib.Core.Path.{◌≡◌, sym, ap, subst, ◌∙◌}
use mathlib.Core.List.{List, ◌++◌}
use Prim.Native.Nat.{ℕ, ◌+◌, ◌*◌, ◌<◌, ◌≤◌}
use native.Mathlib.Omega.{arith}
use native.Mathlib.Decide.{dec_lt}
use native.Mathlib.Nat.{le_refl, not-suc-le-zero}
use lib.ListN.{length, take, get_or-append}
use lib.Seq.{get_or-append-add, get_or-take, length-take-le}
use Rattle.laws.specs.Area.{num}
use Rattle.laws.proofs.Numbers.{row_in}
use Rattle.affinity_lists.specs.Lists.{Rowed, Rows}

-- the k frames of one row of frame i, by their places in the row: they rise, are frames, and are not i
pub record Row (n k i : ℕ) (row : ℕ → ℕ) : Type 0 where
  pub rises : (s t : ℕ) → s < t → t < k → row s < row t
  pub frames : (t : ℕ) → t < k → (row t < n) × (row t ≡ i → ⊥)

-- rows that are each in order are in order together
pub rows_made : {n k : ℕ} {J : List ℕ} → ((i : ℕ) → i < n → Row n k i (λ t. num J (i * k + t))) → Rows n k J
rows_made h = record { rising = λ i l. (h i l).rises; inside = λ i t l m. ((h i l).frames t m).0; other = λ i t l m. ((h i l).frames t m).1 }

-- at first no row is there
pub rows_none : {n k : ℕ} {J : List ℕ} → Rowed 0 n k J
rows_none = record { rising = λ i l. absurd (not-suc-le-zero l); inside = λ i t l. absurd (not-suc-le-zero l); other = λ i t l. absurd (not-suc-le-zero l) }

-- row i comes to the i rows before it, which are kept
pub rows_next : {i n k : ℕ} {J : List ℕ} (J' : List ℕ) {row : ℕ → ℕ} → Row n k i row → ((p : ℕ) → p < i * k → num J' p ≡ num J p) → ((t : ℕ) → t < k → num J' (i * k + t) ≡ row t)
    → Rowed i n k J → Rowed (i + 1) n k J'
rows_next {i} {n} {k} {J} J' {row} w same new r = record {
  rising = λ j l s t a b. elim (dec_lt j i) [
    | yes m ↦ omega (arith, same (j * k + s) (low j s m (omega arith)), same (j * k + t) (low j t m b), r.rising j m s t a b)
    | no m ↦ subst (λ (x : ℕ). num J' (x * k + s) < num J' (x * k + t)) (last j l m) (omega (arith, new s (omega arith), new t b, w.rises s t a b))
  ];
  inside = λ j t l b. elim (dec_lt j i) [
    | yes m ↦ omega (arith, same (j * k + t) (low j t m b), r.inside j t m b)
    | no m ↦ subst (λ (x : ℕ). num J' (x * k + t) < n) (last j l m) (omega (arith, new t b, (w.frames t b).0))
  ];
  other = λ j t l b e. elim (dec_lt j i) [
    | yes m ↦ r.other j t m b (omega (arith, same (j * k + t) (low j t m b), e))
    | no m ↦ (w.frames t b).1 (subst (λ (x : ℕ). num J' (x * k + t) ≡ x → row t ≡ i) (last j l m) (λ q. omega (arith, new t b, q)) e)
  ];
}
  where
    low : (j t : ℕ) → j < i → t < k → j * k + t < i * k
    low j t m b = omega (arith, row_in j i k (i * k) m (le_refl (i * k)))

    last : (j : ℕ) → j < i + 1 → (j < i → ⊥) → i ≡ j
    last j l m = omega arith

-- the same where the row is a list put in the place of the k numbers from i·k on, as lending that part of the area leaves it
pub rows_written : {i n k : ℕ} {J : List ℕ} (w rest : List ℕ) → length w ≡ k → i * k ≤ length J → Row n k i (num w) → Rowed i n k J → Rowed (i + 1) n k (take (i * k) J ++ (w ++ rest))
rows_written {i} {n} {k} {J} w rest e h row r = rows_next (take (i * k) J ++ (w ++ rest)) row
    (λ p l. get_or-append (take (i * k) J) (w ++ rest) 0 p (omega (arith, front)) ∙ get_or-take (i * k) J p 0 l)
    (λ t l. ap (λ (x : ℕ). num (take (i * k) J ++ (w ++ rest)) (x + t)) (sym front) ∙ get_or-append-add (take (i * k) J) (w ++ rest) t 0 ∙ get_or-append w rest 0 t (omega arith))
    r
  where
    front : length (take (i * k) J) ≡ i * k
    front = length-take-le (i * k) J h
