-- Request 2026-13: values that are equal, or each other's negatives, the sign of a zero aside. Definitions only.
use Rattle.std.specs.Prelude.{◌≡◌, Bool, true, false, pos, Float}
use Rattle.std.specs.Float.{fin}
use Rattle.std.specs.Float.Ieee.{neg}

-- a zero of either sign
pub record Zero (x : Float) : Type 0 where
  pub sign : Bool
  pub is : x ≡ fin sign 0 (pos 0)

-- the sign of a zero aside: equal, or both zeros
pub data Alike (x y : Float) : Type 0 where
  equal : x ≡ y → Alike x y
  zeros : Zero x → Zero y → Alike x y

-- turned: equal to the negative, or both zeros
pub data Opposite (x y : Float) : Type 0 where
  negative : y ≡ neg x → Opposite x y
  zeros : Zero x → Zero y → Opposite x y

-- y is what the mirror shows of x, b being whether the component is turned: turned, or else equal to the bit
pub record Shows (b : Bool) (x y : Float) : Type 0 where
  pub turned : b ≡ true → Opposite x y
  pub straight : b ≡ false → x ≡ y
