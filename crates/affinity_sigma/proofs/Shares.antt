-- The entropy of a row by blocks: a share's logarithm from its digits and its power. Assumes nothing.
use mathlib.Core.Path.{◌≡◌, refl, sym, ap, subst, ◌∙◌}
use mathlib.Core.Logic.{◌⊎◌, inl, inr}
use mathlib.Core.List.{List}
use mathlib.Core.Bool.{Bool, true, false, cond, true≢false}
use Prim.Native.Nat.{ℕ, ◌+◌, ◌*◌, ◌/◌, ◌%◌, ◌^◌, ◌<◌, ◌≤◌}
use native.Mathlib.Omega.{arith}
use native.Mathlib.Numerals.{add-one}
use native.Mathlib.Nat.{mod-eq_of_lt, mul-one, one-mul, mul_assoc, mul_comm, mul-le-mul_right, mul-lt-mul_of_pos_right, lt_of_not-le, lt_of_lt_of_le, lt_irrefl}
use native.Mathlib.Nat.{le_trans, le_of_eq, le_of_lt, le_of_suc-le-suc}
use lib.Pow.{pow-add}
use lib.IntN.{ℤ, pos, negsuc, suc_ℤ, ◌+ℤ◌, ◌-ℤ◌, sub_ℕ, +ℤ_one, suc_ℤ-+ℤ}
use lib.ListN.{length}
use lib.Dec.{T, ltb, leb, lit<, lit≤}
use lib.Ieee.{Float, nan, inf, fin, binary64, up, down, minus, odd, of_fields, of_bits, to_bits, of_int, add, mul, div, neg, lt, le, eq, fits}
use lib.Ieee.Exact.{HasValue, odd_sign}
use lib.Ieee.Bits.{of_bits-to_bits}
use lib.Ieee.Fits.{down_pos}
use borrow.Author.Tests.{ltb-true, ltb-false, le-ltb, lt-ltb, lt-leb}
use mir.Syntax.{w32, w64}
use mir.Val.{SFits}
use mir.ValLaws.{to_z-of_z}
use Rattle.laws.specs.Loops.{loop, every}
use Rattle.laws.specs.Area.{at, zero64, one64, two64}
use Rattle.laws.proofs.Bools.{two, not-true-is}
use Rattle.laws.proofs.Every.{every-at}
use Rattle.laws.proofs.Written.{written_at}
use Rattle.elementary.specs.Ln.{root2, ln_at, ln_in, ln_of}
use Rattle.elementary.proofs.Parts.{k-is, ln-normal, ln-halved, ln-whole, positive-bits}
use Rattle.affinity_sigma.specs.Sigma.{tiny, term_of, entropy_step}
use Rattle.affinity_sigma.specs.Blocks.{block_size, one_half, stand_in_of, field_of, unit_of, digits_of, power_of, digit_step, power_step, log_by, log_step, term_by, term_step}
use Rattle.laws.proofs.Loops.{loop-moved}
use Rattle.affinity_sigma.proofs.Blocks.{up_to_zero, at-most-number}

-- ---- a share that enters is a normal number

low-fields : (s : Bool) (x t b : ℕ) → s ≡ false → x ≡ 0 → t ≡ b → HasValue (of_fields binary64 s x t) false b (2 ^ 1074)
unfolding of_fields
low-fields s x t b hs hx ht = rw (hs, hx, ht) (subst (λ (n : ℕ). HasValue (odd 53 false b 0 1074) false n (2 ^ 1074)) (mul-one b) (odd_sign 53 false b 0 1074))

-- bits below 2^52 are that many of the smallest values
low_value : (b : ℕ) → b < 2 ^ 52 → HasValue (of_bits binary64 b) false b (2 ^ 1074)
unfolding of_bits
low_value b h = low-fields (leb (2 ^ 63) b) (b % 2 ^ 63 / 2 ^ 52) (b % 2 ^ 52) b (lt-leb (2 ^ 63) b (omega arith)) (omega (arith, mod-eq_of_lt {n = b} {m = 2 ^ 63} (omega arith))) (mod-eq_of_lt h)

-- which are less than 1e-10
low-tiny : (v : Float) (b : ℕ) → b < 2 ^ 52 → HasValue v false b (2 ^ 1074) → lt tiny v ≡ true → ⊥
unfolding lt of_bits
low-tiny nan b h w l = w
low-tiny (inf s) b h w l = w
low-tiny (fin true m e) b h w l = true≢false w.0
low-tiny (fin false m e) b h w l = small (m * up e) (down e) b (down_pos e) h w.1 (ltb-true (0x1b7cdfd9d7bdbb * 1 * down e) (m * up e * 2 ^ 86) l)
  where
    small : (a d b : ℕ) → 0 < d → b < 2 ^ 52 → a * 2 ^ 1074 ≡ b * d → 0x1b7cdfd9d7bdbb * 1 * d < a * 2 ^ 86 → ⊥
    small a d b p h e l =
        let one : d ≤ a * 2 ^ 86 = le_trans (le_of_eq (sym (one-mul d))) (le_trans (mul-le-mul_right d (lit≤ {m = 1} {n = 0x1b7cdfd9d7bdbb * 1} tt)) (le_of_lt l)) in
        let all : 2 ^ 86 * 2 ^ 988 ≡ 2 ^ 1074 = sym (pow-add 2 86 988) in
        let high : d * 2 ^ 988 ≤ b * d = le_trans (mul-le-mul_right (2 ^ 988) one) (le_of_eq (mul_assoc a (2 ^ 86) (2 ^ 988) ∙ ap (λ (n : ℕ). a * n) all ∙ e)) in
        let low : b * d ≤ 2 ^ 52 * d = mul-le-mul_right d (omega arith) in
        lt_irrefl (2 ^ 52 * d) (lt_of_lt_of_le (mul-lt-mul_of_pos_right (lit< {m = 2 ^ 52} {n = 2 ^ 988} tt) p) (le_trans (le_of_eq (mul_comm (2 ^ 988) d)) (le_trans high low)))

above_zero : (v : Float) → lt tiny v ≡ true → le v zero64 ≡ false
unfolding le lt eq of_bits
above_zero nan h = refl
above_zero (inf true) h = absurd (true≢false (sym h))
above_zero (inf false) h = refl
above_zero (fin true m e) h = absurd (true≢false (sym h))
above_zero (fin false m e) h = not-true-is (λ t. more (m * up e) (down e) (ltb-true (0x1b7cdfd9d7bdbb * 1 * down e) (m * up e * 2 ^ 86) h) (up_to_zero m e t))
  where
    more : (a d : ℕ) → 0x1b7cdfd9d7bdbb * 1 * d < a * 2 ^ 86 → a ≤ 0 → ⊥
    more a d l h = omega (arith, l, h)

finite-one : (v : Float) → le v one64 ≡ true → eq v (inf false) ≡ false
unfolding le lt eq of_bits
finite-one nan h = refl
finite-one (inf true) h = refl
finite-one (inf false) h = sym h
finite-one (fin s m e) h = refl

module _ (v : Float) (f : T (fits binary64 v)) (t : lt tiny v ≡ true) (u : le v one64 ≡ true) where
  pub share-high : to_bits binary64 v < 2047 * 2 ^ 52
  unfolding of_bits
  share-high = (positive-bits v f (at-most-number v one64 u) (above_zero v t) (finite-one v u)).1

  pub share-low : 2 ^ 52 ≤ to_bits binary64 v
  share-low = le_of_suc-le-suc (lt_of_not-le (λ h. low-tiny v (to_bits binary64 v) (omega (arith, h))
      (subst (λ (y : Float). HasValue y false (to_bits binary64 v) (2 ^ 1074)) (of_bits-to_bits binary64 v f) (low_value (to_bits binary64 v) (omega (arith, h))))
      t))

  pub field-some : 0 < field_of v
  field-some = omega (arith, share-low)

  pub field-most : field_of v ≤ 2046
  field-most = omega (arith, share-high)

-- ---- its power

-- x - 1023, as 2^k has it
power-is : (x : ℕ) → x ≤ 2046 → pos x -ℤ pos 1023 ≡ minus (x + 51) 1074
power-is x h = go (two (ltb x 1023)) ∙ sym (ap (λ (y : ℤ). y -ℤ pos 1074) (to_z-of_z w64 (pos (x + 51)) (record { sfits = omega arith }))) ∙ k-is (x + 51) (omega arith)
  where
    go : (ltb x 1023 ≡ true) ⊎ (ltb x 1023 ≡ false) → sub_ℕ x 1023 ≡ sub_ℕ (x + 51) 1074
    go (inl l) = rw (l, lt-ltb (x + 51) 1074 (omega (arith, ltb-true x 1023 l))) (ap negsuc (omega (arith, ltb-true x 1023 l)))
    go (inr l) = rw (l, le-ltb (x + 51) 1074 (omega (arith, ltb-false x 1023 l))) (ap pos (omega (arith, ltb-false x 1023 l)))

power-next : (x : ℕ) → x ≤ 2046 → pos (x + 1) -ℤ pos 1023 ≡ minus (x + 51) 1074 +ℤ pos 1
power-next x h = ap (λ (n : ℕ). pos n -ℤ pos 1023) (add-one x) ∙ suc_ℤ-+ℤ (pos x) (negsuc 1022) ∙ ap suc_ℤ (power-is x h) ∙ sym (+ℤ_one (minus (x + 51) 1074))

pub power-fits : (x : ℕ) → x ≤ 2047 → SFits w32 (pos x -ℤ pos 1023)
power-fits x h = go (two (ltb x 1023))
  where
    go : (ltb x 1023 ≡ true) ⊎ (ltb x 1023 ≡ false) → SFits w32 (sub_ℕ x 1023)
    go (inl l) = rw l (record { sfits = omega arith })
    go (inr l) = rw l (record { sfits = omega arith })

pub field-signed : (n : ℕ) → n ≤ 2047 → SFits w32 (pos n)
field-signed n h = record { sfits = omega arith }

-- ---- its logarithm

split-ln : (m : Float) (x : ℕ) (b : Bool) → x ≤ 2046 → lt root2 m ≡ b
    → log_by (cond b (div binary64 m two64) m) (of_int binary64 (pos (cond b (x + 1) x) -ℤ pos 1023)) ≡ ln_in m (minus (x + 51) 1074)
unfolding ln_at
split-ln m x true h l = ap (λ (k : ℤ). ln_at (div binary64 m two64) k) (power-next x h) ∙ ln-halved m (minus (x + 51) 1074) l
split-ln m x false h l = ap (ln_at m) (power-is x h) ∙ ln-whole m (minus (x + 51) 1074) l

pub share-ln : (v : Float) → T (fits binary64 v) → lt tiny v ≡ true → le v one64 ≡ true → log_by (digits_of v) (power_of v) ≡ ln_of v
share-ln v f t u =
    split-ln (unit_of v) (field_of v) (lt root2 (unit_of v)) (field-most v f t u) refl
    ∙ sym (ln-normal (to_bits binary64 v) (field_of v) refl (field-some v f t u) (share-high v f t u))
    ∙ ap ln_of (of_bits-to_bits binary64 v f)

-- ---- a block

pub half_high : lt tiny one_half ≡ true
unfolding lt of_bits
half_high = refl

pub half-low : le one_half one64 ≡ true
unfolding le lt eq of_bits
half-low = refl

term-held : (v l : Float) → (lt tiny v ≡ true → l ≡ ln_of v) → term_by v l ≡ term_of v
unfolding term_of
term-held v l h = go (two (lt tiny v))
  where
    go : (lt tiny v ≡ true) ⊎ (lt tiny v ≡ false) → term_by v l ≡ cond (lt tiny v) (mul binary64 (neg v) (ln_of v)) zero64
    go (inl t) = rw (h t)
    go (inr t) = rw t

module _ (p : List Float) (j c : ℕ) (ms₀ ks₀ ls₀ ms ks ls : List Float) (small : c ≤ block_size) (lm : length ms₀ ≡ block_size) (lk : length ks₀ ≡ block_size) (ll : length ls₀ ≡ block_size)
    (em : ms ≡ loop (digit_step p j) c 0 ms₀) (ek : ks ≡ loop (power_step p j) c 0 ks₀) (el : ls ≡ loop (log_step ms ks) block_size 0 ls₀)
    (h : every (λ t. le (at p (j + t)) one64) c ≡ true) (f : (t : ℕ) → T (fits binary64 (at p (j + t)))) where
  ms-at : (t : ℕ) → t < c → at ms t ≡ digits_of (stand_in_of (at p (j + t)))
  ms-at t l = ap (λ (q : List Float). at q t) em ∙ written_at (λ t. digits_of (stand_in_of (at p (j + t)))) nan c ms₀ (omega (arith, small, lm)) t l

  ks-at : (t : ℕ) → t < c → at ks t ≡ power_of (stand_in_of (at p (j + t)))
  ks-at t l = ap (λ (q : List Float). at q t) ek ∙ written_at (λ t. power_of (stand_in_of (at p (j + t)))) nan c ks₀ (omega (arith, small, lk)) t l

  ls-at : (t : ℕ) → t < block_size → at ls t ≡ log_by (at ms t) (at ks t)
  ls-at t l = ap (λ (q : List Float). at q t) el ∙ written_at (λ t. log_by (at ms t) (at ks t)) nan block_size ls₀ (omega (arith, ll)) t l

  one-log : (t : ℕ) → t < c → lt tiny (at p (j + t)) ≡ true → at ls t ≡ ln_of (at p (j + t))
  one-log t l e =
      let v = at p (j + t) in
      let q : stand_in_of v ≡ v = rw e in
      ls-at t (omega (arith, l, small))
      ∙ ap (λ (x : Float). log_by x (at ks t)) (ms-at t l ∙ ap digits_of q)
      ∙ ap (log_by (digits_of v)) (ks-at t l ∙ ap power_of q)
      ∙ share-ln v (f t) e (every-at _ c h t l)

  -- the passes are the terms of the block
  pub block-added : (h₀ : Float) → loop (term_step p j ls) c 0 h₀ ≡ loop (entropy_step p) c j h₀
  block-added h₀ = loop-moved (entropy_step p) (term_step p j ls) j c h₀ (λ t y l. ap (add binary64 y) (term-held (at p (j + t)) (at ls t) (one-log t l)))
