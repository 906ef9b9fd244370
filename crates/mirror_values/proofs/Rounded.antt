-- What is rounded with the other sign is the negative, and what is nothing is rounded to a zero. Assumes nothing.
use mathlib.Core.Path.{◌≡◌, refl, sym, ap, ◌∙◌}
use mathlib.Core.Bool.{Bool, true, false, not}
use Prim.Native.Nat.{ℕ, ◌<◌}
use native.Mathlib.Omega.{arith}
use lib.IntN.{pos}
use lib.Dec.{lit<}
use lib.Ieee.{Float, nan, inf, fin, binary64, round, neg}
use lib.Ieee.Scale.{round_same}
use Rattle.elementary.proofs.Sizes.{neg-round}

pub neg-neg : (x : Float) → neg (neg x) ≡ x
unfolding neg
neg-neg nan = refl
neg-neg (inf true) = refl
neg-neg (inf false) = refl
neg-neg (fin true m e) = refl
neg-neg (fin false m e) = refl

pub round-not : (s : Bool) (a c : ℕ) → round binary64 (not s) a c ≡ neg (round binary64 s a c)
round-not false a c = sym (neg-round binary64 a c)
round-not true a c = sym (ap neg (sym (neg-round binary64 a c)) ∙ neg-neg (round binary64 false a c))

nothing_is : (s : Bool) → round binary64 s 0 1 ≡ fin s 0 (pos 0)
unfolding round
nothing_is s = refl

pub round-nothing : (s : Bool) (a c : ℕ) → a ≡ 0 → 0 < c → round binary64 s a c ≡ fin s 0 (pos 0)
round-nothing s a c e h = round_same binary64 s a c 0 1 h (lit< tt) (omega arith) ∙ nothing_is s
