-- A value that differs from itself is NaN, and every other is not; the patterns above infinity's are NaN's. Assumes nothing.
use Rattle.std.proofs.Common.{◌≡◌, ℕ, ◌%◌, ◌<◌, ◌≤◌, true, false, sym, refl, ◌∙◌, true≢false, le-ltb, lt-ltb}
use lib.Ieee.{Float, nan, inf, fin, binary64, ne, eq, is_nan, of_bits, nan_bits}
use lib.Ieee.Bits.{nan_bits_is, nan_bits_above}
use lib.Ieee.Compare.{differs_from_itself}
use denote.Floats.{passes}
use mathlib.Core.Logic.{◌⊎◌, inl, inr}
use Rattle.laws.proofs.Bools.{two}

is-nan : (x : Float) → ne x x ≡ true → x ≡ nan
is-nan x e = differs_from_itself x (passes (ne x x) e)

pub not-nan : (x : Float) → ne x x ≡ false → is_nan x ≡ false
unfolding ne eq is_nan
not-nan nan e = e
not-nan (inf s) e = refl
not-nan (fin s m k) e = refl

-- std's test and the test on the value itself
pub differs : (x : Float) → ne x x ≡ is_nan x
unfolding ne eq is_nan
differs x = go (two (ne x x))
  where
    go : (ne x x ≡ true) ⊎ (ne x x ≡ false) → ne x x ≡ is_nan x
    go (inl t) = rw (is-nan x t)
    go (inr f) = f ∙ sym (not-nan x f)

pub nan-only : (x : Float) → is_nan x ≡ true → x ≡ nan
unfolding is_nan
nan-only nan e = refl
nan-only (inf s) e = absurd (true≢false (sym e))
nan-only (fin s m k) e = absurd (true≢false (sym e))

pub nan-bits : (b : ℕ) → 0x7ff0000000000000 < b % 0x8000000000000000 → of_bits binary64 b ≡ nan
nan-bits b h = nan-only (of_bits binary64 b) (sym (nan_bits_is binary64 b) ∙ nan_bits_above binary64 b ∙ lt-ltb 0x7ff0000000000000 (b % 0x8000000000000000) h)

pub plain-bits : (b : ℕ) → b % 0x8000000000000000 ≤ 0x7ff0000000000000 → nan_bits binary64 b ≡ false
plain-bits b h = nan_bits_above binary64 b ∙ le-ltb 0x7ff0000000000000 (b % 0x8000000000000000) h
