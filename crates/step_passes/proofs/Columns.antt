-- A component's sum, in the words of the scope paper: it starts at +0.0 and runs over the frames by rising index. Assumes nothing.
use mathlib.Core.Path.{◌≡◌, refl, sym, ap, ◌∙◌}
use mathlib.Core.Logic.{◌⊎◌, inl, inr, ⊎_elim}
use mathlib.Core.List.{List}
use Prim.Native.Nat.{ℕ, zero, suc, ◌+◌, ◌-◌, ◌*◌, ◌%◌, ◌<◌, ◌≤◌}
use native.Mathlib.Omega.{arith}
use native.Mathlib.Numerals.{add-one}
use native.Mathlib.Nat.{mul-add-mod_self_right, mod-eq_of_lt, suc-mul, zero-mul, zero-add, le_trans, le_of_eq}
use lib.ListN.{length, set, length-set}
use lib.Seq.{get_or-set_same, get_or-set_other}
use lib.IntN.{pos}
use lib.Ieee.{Float, nan, binary64, of_int, add, div}
use Rattle.laws.specs.Area.{at, zero64, zeros8}
use Rattle.laws.specs.Loops.{loop}
use Rattle.laws.proofs.Loops.{loop-add, loop-keeps}
use Rattle.laws.proofs.Changed.{changed-at}
use Rattle.centring.specs.Centring.{plus_next, sum_of, average_of}
use Rattle.step_passes.specs.Passes.{Before, element_at, sum_step, sums_of, means_of}

abbrev pub column_step : Before → ℕ → ℕ → ℕ → Float → Float
column_step b c d = plus_next (λ i. (element_at b (i * c + d)).moved)

abbrev pub column_of : Before → ℕ → ℕ → ℕ → Float
column_of b n c d = sum_of (λ i. (element_at b (i * c + d)).moved) n

differ : (a b : ℕ) → (a ≡ b) ⊎ (a ≡ b → ⊥)
differ zero zero = inl refl
differ zero (suc b) = inr (λ q. omega (arith, q))
differ (suc a) zero = inr (λ q. omega (arith, q))
differ (suc a) (suc b) = ⊎_elim (λ q. inl (ap suc q)) (λ n. inr (λ q. n (omega (arith, q)))) (differ a b)

place : (q c j : ℕ) → q * c ≤ j → j < q * c + c → j % c ≡ j - q * c
place q c j l h =
    let e : q * c + (j - q * c) ≡ j = omega arith in
    ap (λ (x : ℕ). x % c) (sym e) ∙ mul-add-mod_self_right q c (j - q * c) ∙ mod-eq_of_lt (omega arith)

-- from q * c up to j: d's place has its sum once j is past it
record Row (b : Before) (c d q : ℕ) (s : List Float) (j : ℕ) (y : List Float) : Type 0 where
  from : q * c ≤ j
  size : length y ≡ length s
  new : q * c + d < j → at y d ≡ column_step b c d q (at s d)
  old : j ≤ q * c + d → at y d ≡ at s d

row_next : (b : Before) (c d q : ℕ) (s : List Float) → d < c → c ≤ length s → (j : ℕ) (y : List Float) → j < q * c + c → Row b c d q s j y → Row b c d q s (j + 1) (sum_step b c j y)
row_next b c d q s h l j y t r = go (differ j (q * c + d))
  where
    i : ℕ
    i = j - q * c

    v : Float
    v = add binary64 (at y (j % c)) (element_at b j).moved

    at_i : j % c ≡ i
    at_i = place q c j r.from t

    here : j ≡ q * c + d → at (set y (j % c) v) d ≡ column_step b c d q (at s d)
    here e =
        let k : j % c ≡ d = at_i ∙ omega (arith, e) in
        ap (λ (x : ℕ). at (set y x (add binary64 (at y x) (element_at b j).moved)) d) k
        ∙ get_or-set_same y d (add binary64 (at y d) (element_at b j).moved) nan (omega (arith, r.size))
        ∙ ap (λ (x : Float). add binary64 x (element_at b j).moved) (r.old (omega arith))
        ∙ ap (λ (x : ℕ). add binary64 (at s d) (element_at b x).moved) e

    away : (j ≡ q * c + d → ⊥) → at (set y (j % c) v) d ≡ at y d
    away n = get_or-set_other y (j % c) d v nan (λ e. n (back (e ∙ at_i)))
      where
        back : d ≡ j - q * c → j ≡ q * c + d
        back e = omega (arith, e, r.from)

    go : (j ≡ q * c + d) ⊎ (j ≡ q * c + d → ⊥) → Row b c d q s (j + 1) (sum_step b c j y)
    go (inl e) = record { from = omega (arith, r.from); size = length-set y (j % c) v ∙ r.size; new = λ _. here e; old = λ k. absurd (no e k) }
      where
        no : j ≡ q * c + d → j + 1 ≤ q * c + d → ⊥
        no e k = omega arith
    go (inr n) = record { from = omega (arith, r.from); size = length-set y (j % c) v ∙ r.size; new = λ k. away n ∙ r.new (under k); old = λ k. away n ∙ r.old (omega arith) }
      where
        under : q * c + d < j + 1 → q * c + d < j
        under k = ⊎_elim (λ e. absurd (n (sym e))) (λ m. omega (arith, m, k)) (differ (q * c + d) j)

row-sum : (b : Before) (c d q : ℕ) (s : List Float) → d < c → c ≤ length s → Row b c d q s (q * c + c) (loop (sum_step b c) c (q * c) s)
row-sum b c d q s h l =
    loop-keeps (Row b c d q s) (sum_step b c) c (q * c) s (row_next b c d q s h l) (record { from = omega arith; size = refl; new = λ k. absurd (no k); old = λ _. refl })
  where
    no : q * c + d < q * c → ⊥
    no k = omega arith

record Columns (b : Before) (c d n : ℕ) (s : List Float) : Type 0 where
  size : length s ≡ 8
  sum : at s d ≡ column_of b n c d

columns : (b : Before) (c d : ℕ) → d < c → c ≤ 8 → (n : ℕ) → Columns b c d n (loop (sum_step b c) (n * c) 0 zeros8)
unfolding loop
columns b c d h l zero = rw (zero-mul c) (record { size = refl; sum = first d (omega (arith, h, l)) })
  where
    first : (d : ℕ) → d < 8 → at zeros8 d ≡ zero64
    first zero h = refl
    first (suc zero) h = refl
    first (suc (suc zero)) h = refl
    first (suc (suc (suc zero))) h = refl
    first (suc (suc (suc (suc zero)))) h = refl
    first (suc (suc (suc (suc (suc zero))))) h = refl
    first (suc (suc (suc (suc (suc (suc zero)))))) h = refl
    first (suc (suc (suc (suc (suc (suc (suc zero))))))) h = refl
    first (suc (suc (suc (suc (suc (suc (suc (suc d)))))))) h = absurd (big h)
      where
        big : suc (suc (suc (suc (suc (suc (suc (suc d))))))) < 8 → ⊥
        big h = omega arith
columns b c d h l (suc n) =
    let s = loop (sum_step b c) (n * c) 0 zeros8 in
    let ih = columns b c d h l n in
    let r = row-sum b c d n s h (le_trans l (le_of_eq (sym ih.size))) in
    let e : loop (sum_step b c) (suc n * c) 0 zeros8 ≡ loop (sum_step b c) c (n * c) s = ap (λ (x : ℕ). loop (sum_step b c) x 0 zeros8) (suc-mul n c) ∙
    loop-add (sum_step b c) (n * c) c 0 zeros8 ∙ ap (λ (x : ℕ). loop (sum_step b c) c x s) (zero-add (n * c)) in
    let k : column_of b (suc n) c d ≡ column_step b c d n (column_of b n c d) = ap (λ (x : ℕ). loop (column_step b c d) x 0 zero64) (sym (add-one n)) ∙
    loop-add (column_step b c d) n 1 0 zero64 ∙ ap (λ (x : ℕ). column_step b c d x (column_of b n c d)) (zero-add n) in
    record {
      size = ap length e ∙ r.size ∙ ih.size;
      sum = ap (λ (x : List Float). at x d) e ∙ r.new (omega (arith, h)) ∙ ap (column_step b c d n) ih.sum ∙ sym k;
    }

-- the sums of the step are the components' own
pub sums-by-column : (b : Before) (n c d : ℕ) → d < c → c ≤ 8 → at (sums_of b n c) d ≡ column_of b n c d
sums-by-column b n c d h l = (columns b c d h l n).sum

-- and its means are the components' own
pub means-by-column : (b : Before) (n c d : ℕ) → d < c → c ≤ 8 → at (means_of b n c) d ≡ average_of (λ i. (element_at b (i * c + d)).moved) n
means-by-column b n c d h l =
    changed-at nan (λ _ x. div binary64 x (of_int binary64 (pos n))) c (sums_of b n c) (omega (arith, (columns b c d h l n).size)) d h
    ∙ ap (λ (x : Float). div binary64 x (of_int binary64 (pos n))) (sums-by-column b n c d h l)
