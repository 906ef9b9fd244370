-- A sum and a test over the numbers of a list, and over those that are left: the loops that pass the others over. Assumes nothing.
use mathlib.Core.Path.{◌≡◌, sym, ap, ◌∙◌}
use mathlib.Core.List.{List, [], ◌∷◌, ◌++◌}
use mathlib.Core.Bool.{Bool, true, false, not, ◌&&◌}
use Prim.Native.Nat.{ℕ, ◌+◌, ◌*◌, ◌<◌, ◌≤◌}
use native.Mathlib.Omega.{arith}
use native.Mathlib.Numerals.{add-one}
use lib.ListN.{length, length-append, get_or-append}
use lib.Seq.{get_or-append_seam}
use lib.Ieee.{Float, nan, binary64, add, sub}
use Rattle.laws.specs.Area.{at, num, zero64}
use Rattle.laws.specs.Loops.{loop, every}
use Rattle.laws.proofs.Loops.{loop-last, loop-same}
use Rattle.laws.proofs.Every.{every-none, every-step, every-same, every-no}
use Rattle.laws.proofs.Joined.{those-none, those-yes, those-no, those-at}
use Rattle.laws.proofs.Written.{written_at}
use Rattle.elementary.specs.Limits.{calm}
use Rattle.centring.specs.Centring.{plus_next, sum_of}
use Rattle.take_gone.specs.Gone.{is_among, survivors}
use Rattle.take_rows.specs.Rows.{average_left, centred_left, Means}
use Rattle.take_calm.specs.CalmLeft.{mean_at}

-- ---- over a list, and one number more

abbrev pub sum_over : (ℕ → Float) → List ℕ → Float
sum_over v X = sum_of (λ i. v (num X i)) (length X)

long : (X : List ℕ) (x : ℕ) → length (X ++ (x ∷ [])) ≡ length X + 1
long X x = length-append X (x ∷ [])

sum-over-next : (v : ℕ → Float) (X : List ℕ) (x : ℕ) → sum_over v (X ++ (x ∷ [])) ≡ add binary64 (sum_over v X) (v x)
sum-over-next v X x =
    let f = plus_next (λ i. v (num (X ++ (x ∷ [])) i)) in
    ap (λ (k : ℕ). loop f k 0 zero64) (long X x ∙ add-one (length X))
    ∙ loop-last f (length X) zero64
    ∙ ap (λ (s : Float). add binary64 s (v (num (X ++ (x ∷ [])) (length X))))
    (loop-same f (plus_next (λ i. v (num X i))) (length X) 0 zero64 (λ j s a b. ap (λ (k : ℕ). add binary64 s (v k))
    (get_or-append X (x ∷ []) 0 j (omega arith))))
    ∙ ap (λ (k : ℕ). add binary64 (sum_over v X) (v k)) (get_or-append_seam X x [] 0)

abbrev pub every_over : (ℕ → Bool) → List ℕ → Bool
every_over q X = every (λ i. q (num X i)) (length X)

every-over-next : (q : ℕ → Bool) (X : List ℕ) (x : ℕ) → every_over q (X ++ (x ∷ [])) ≡ every_over q X && q x
every-over-next q X x =
    ap (every (λ i. q (num (X ++ (x ∷ [])) i))) (long X x)
    ∙ every-step (λ i. q (num (X ++ (x ∷ [])) i)) (length X)
    ∙ ap (λ (b : Bool). b && q (num (X ++ (x ∷ [])) (length X))) (every-same (λ i. q (num (X ++ (x ∷ [])) i)) (λ i. q (num X i)) (length X) (λ j a. ap q (get_or-append X (x ∷ []) 0 j a)))
    ∙ ap (λ (k : ℕ). every_over q X && q k) (get_or-append_seam X x [] 0)

-- ---- the sum over those that are left, j samples looked at

pub record SumsLeft (v : ℕ → Float) (g : List ℕ) (n j : ℕ) (s : Float) : Type 0 where
  pub within : j ≤ n
  pub same : s ≡ sum_over v (survivors g j)

module _ {v : ℕ → Float} {g : List ℕ} {n : ℕ} where
  pub sums-left-start : SumsLeft v g n 0 zero64
  unfolding loop
  sums-left-start = record { within = omega arith; same = sym (ap (sum_over v) (those-none (λ j. not (is_among g j)))) }

  module _ {j : ℕ} {s : Float} (r : SumsLeft v g n j s) where
    pub sums-left-pass : j < n → is_among g j ≡ true → SumsLeft v g n (j + 1) s
    sums-left-pass h e = record { within = omega arith; same = r.same ∙ ap (sum_over v) (sym (those-no (λ j. not (is_among g j)) j (ap not e))) }

    pub sums-left-next : j < n → is_among g j ≡ false → SumsLeft v g n (j + 1) (add binary64 s (v j))
    sums-left-next h e = record {
      within = omega arith;
      same = ap (λ (x : Float). add binary64 x (v j)) r.same ∙
          sym (ap (sum_over v) (those-yes (λ j. not (is_among g j)) j (ap not e)) ∙ sum-over-next v (survivors g j) j);
    }

    pub sums-left-done : n ≤ j → s ≡ sum_over v (survivors g n)
    sums-left-done h = r.same ∙ ap (λ (k : ℕ). sum_over v (survivors g k)) (here r.within h)
      where
        here : {j n : ℕ} → j ≤ n → n ≤ j → j ≡ n
        here a b = omega arith

-- ---- the test of those that are left

pub record TestsLeft (q : ℕ → Bool) (g : List ℕ) (n j : ℕ) : Type 0 where
  pub within : j ≤ n
  pub fine : every_over q (survivors g j) ≡ true

module _ {q : ℕ → Bool} {g : List ℕ} {n : ℕ} where
  pub tests-left-start : TestsLeft q g n 0
  tests-left-start = record { within = omega arith; fine = ap (every_over q) (those-none (λ j. not (is_among g j))) ∙ every-none (λ i. q (num [] i)) }

  module _ {j : ℕ} (r : TestsLeft q g n j) where
    pub tests-left-pass : j < n → is_among g j ≡ true → TestsLeft q g n (j + 1)
    tests-left-pass h e = record { within = omega arith; fine = ap (every_over q) (those-no (λ j. not (is_among g j)) j (ap not e)) ∙ r.fine }

    pub tests-left-next : j < n → is_among g j ≡ false → q j ≡ true → TestsLeft q g n (j + 1)
    tests-left-next h e t = record { within = omega arith; fine = ap (every_over q) (those-yes (λ j. not (is_among g j)) j (ap not e)) ∙ every-over-next q (survivors g j) j ∙ rw (r.fine, t) }

    pub tests-left-no : j < n → is_among g j ≡ false → q j ≡ false → every_over q (survivors g n) ≡ false
    tests-left-no h e t =
        let here = those-at (λ j. not (is_among g j)) n j h (ap not e) in
        every-no (λ i. q (num (survivors g n) i)) (length (survivors g n)) (length (survivors g j)) here.0 (ap q here.1 ∙ t)

    pub tests-left-done : n ≤ j → every_over q (survivors g n) ≡ true
    tests-left-done h = ap (λ (k : ℕ). every_over q (survivors g k)) (here h r.within) ∙ r.fine
      where
        here : {j n : ℕ} → n ≤ j → j ≤ n → n ≡ j
        here a b = omega arith

-- ---- means

-- a frame's values less what stands for the means are the centred ones
pub calm-row-same : (keep : List ℕ) (c : ℕ) (y means : List Float) → Means keep c y means → (j : ℕ) →
    every (λ d. calm (sub binary64 (at y (j * c + d)) (at means d))) c ≡ every (λ d. calm (centred_left keep c y j d)) c
calm-row-same keep c y means s j = every-same (λ d. calm (sub binary64 (at y (j * c + d)) (at means d))) (λ d. calm (centred_left keep c y j d)) c (λ d h. ap
    (λ (x : Float). calm (sub binary64 (at y (j * c + d)) x)) (s.each-mean d h))

-- written to an array of eight, they are the means
pub means-written : (keep : List ℕ) (c : ℕ) (y l means : List Float) → length l ≡ 8 → c ≤ 8 → means ≡ loop (mean_at keep c y) c 0 l → Means keep c y means
means-written keep c y l means e h m = record { each-mean = λ d b. ap (λ (x : List Float). at x d) m ∙ written_at (average_left keep c y) nan c l (omega (arith, e)) d b }
