-- A value without its sign. Assumes nothing.
use Rattle.std.proofs.Common.{◌≡◌, false, refl}
use Rattle.std.specs.Float.{float_with_sign}
use lib.Ieee.{Float, nan, inf, fin}
use Rattle.elementary.specs.Limits.{abs_of}

-- as std says it
pub abs-signless : (x : Float) → float_with_sign false x ≡ abs_of x
unfolding float_with_sign abs_of
abs-signless nan = refl
abs-signless (inf s) = refl
abs-signless (fin s m e) = refl
