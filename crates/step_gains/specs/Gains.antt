-- An element's new gain, increment and position. Definitions only.
use Rattle.std.specs.Prelude.{cond, Float}
use Rattle.std.specs.Float.{binary64}
use Rattle.std.specs.Float.Ieee.{add, sub, mul, lt}
use Rattle.laws.specs.Area.{bits, zero64}
use Rattle.step_gains.specs.declared.Element.{Element}

-- 0.8, 0.2 and 0.01
abbrev pub decay : Float
decay = bits 0x3fe999999999999a

abbrev pub growth : Float
growth = bits 0x3fc999999999999a

abbrev pub floor64 : Float
floor64 = bits 0x3f847ae147ae147b

-- times 0.8 where gradient times old increment is above 0, else plus 0.2
unfoldable pub changed : Float → Float → Float → Float
changed gain gradient increment = cond (lt zero64 (mul binary64 gradient increment)) (mul binary64 gain decay) (add binary64 gain growth)

-- 0.01 where it is below that
unfoldable pub floored : Float → Float
floored gain = cond (lt gain floor64) floor64 gain

unfoldable pub gain_of : Float → Float → Float → Float
unfolding changed floored
gain_of gain gradient increment = floored (changed gain gradient increment)

-- momentum·increment − (rate·gain)·gradient
unfoldable pub increment_of : Float → Float → Float → Float → Float → Float
increment_of momentum rate gain gradient increment = sub binary64 (mul binary64 momentum increment) (mul binary64 (mul binary64 rate gain) gradient)

-- the one definition that the three passes share
unfoldable pub new_of : Float → Float → Float → Float → Float → Float → Element
unfolding gain_of increment_of
new_of momentum rate gradient position increment gain =
    let g = gain_of gain gradient increment in
    let v = increment_of momentum rate g gradient increment in
    record { gain = g; increment = v; moved = add binary64 position v }
