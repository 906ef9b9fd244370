-- Values of narrowing and widening, computed: ties, subnormals, signed zeros, and both sides of halfway past the largest.
use Rattle.std.specs.Prelude.{◌≡◌, refl}
use Rattle.std.specs.Prelude.{Some, None}
use Rattle.monitor_narrow.specs.Narrow.{narrow_of, widen_of}

-- 1
pub narrow_one : narrow_of 0x3ff0000000000000 ≡ Some 0x3f800000
unfolding narrow_of widen_of
narrow_one = refl

-- 0.1
pub narrow-tenth : narrow_of 0x3fb999999999999a ≡ Some 0x3dcccccd
unfolding narrow_of widen_of
narrow-tenth = refl

-- the sign of a zero is kept
pub narrow-minus-zero : narrow_of 0x8000000000000000 ≡ Some 0x80000000
unfolding narrow_of widen_of
narrow-minus-zero = refl

-- 2^24 + 1 lies halfway, and the even one is below
pub narrow-tie-down : narrow_of 0x4170000010000000 ≡ Some 0x4b800000
unfolding narrow_of widen_of
narrow-tie-down = refl

-- 2^24 + 3 lies halfway, and the even one is above
pub narrow-tie-up : narrow_of 0x4170000030000000 ≡ Some 0x4b800002
unfolding narrow_of widen_of
narrow-tie-up = refl

-- half the smallest value is a tie with zero; the least more is not
pub narrow-half-least : narrow_of 0x3690000000000000 ≡ Some 0
unfolding narrow_of widen_of
narrow-half-least = refl

pub narrow-over-half-least : narrow_of 0x3690000000000001 ≡ Some 1
unfolding narrow_of widen_of
narrow-over-half-least = refl

-- one and a half of the smallest: two
pub narrow-subnormal-tie : narrow_of 0x36a8000000000000 ≡ Some 2
unfolding narrow_of widen_of
narrow-subnormal-tie = refl

-- just below halfway past the largest: the largest; at halfway none
pub narrow-largest : narrow_of 0x47efffffefffffff ≡ Some 0x7f7fffff
unfolding narrow_of widen_of
narrow-largest = refl

pub narrow-halfway : narrow_of 0x47effffff0000000 ≡ None
unfolding narrow_of widen_of
narrow-halfway = refl

-- -infinity, and a NaN
pub narrow-infinite : narrow_of 0xfff0000000000000 ≡ None
unfolding narrow_of widen_of
narrow-infinite = refl

pub narrow-nan : narrow_of 0x7ff0000000000001 ≡ None
unfolding narrow_of widen_of
narrow-nan = refl

-- the smallest value, -0, 0.1
pub widen-least : widen_of 1 ≡ 0x36a0000000000000
unfolding narrow_of widen_of
widen-least = refl

pub widen-minus-zero : widen_of 0x80000000 ≡ 0x8000000000000000
unfolding narrow_of widen_of
widen-minus-zero = refl

pub widen-tenth : widen_of 0x3dcccccd ≡ 0x3fb99999a0000000
unfolding narrow_of widen_of
widen-tenth = refl
