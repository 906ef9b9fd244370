-- Values of the definitions, computed.
use Rattle.std.specs.Prelude.{◌≡◌, false, refl}
use Rattle.std.specs.Float.Ieee.{of_bits, to_bits, size, lt, is_nan, neg, add, sub, mul, div, of_int}
use Rattle.std.specs.Float.{binary64, nan, inf}
use Rattle.laws.specs.Loops.{loop}
use Rattle.laws.specs.Area.{bits, one64, two64}
use Rattle.elementary.specs.Exp.{exp_of}
use Rattle.elementary.specs.Ln.{ln_of}
use Rattle.elementary.specs.Limits.{neighbours_of}

-- ---- exp

pub exp-one : to_bits binary64 (exp_of one64) ≡ 0x4005bf0a8b14576a
unfolding exp_of of_bits lt is_nan add mul div sub of_int neg to_bits
exp-one = refl

pub exp-minus-ten : to_bits binary64 (exp_of (bits 0xc024000000000000)) ≡ 0x3f07cd79b5647c9a
unfolding exp_of of_bits lt is_nan add mul div sub of_int neg to_bits
exp-minus-ten = refl

-- -708 is still t·2^k
pub exp-708 : to_bits binary64 (exp_of (bits 0xc086200000000000)) ≡ 0x0017c8ab2288c9ac
unfolding exp_of of_bits lt is_nan add mul div sub of_int neg to_bits
exp-708 = refl

-- a subnormal, of -720
pub exp-720 : to_bits binary64 (exp_of (bits 0xc086800000000000)) ≡ 0x993b4dc95
unfolding exp_of of_bits lt is_nan add mul div sub of_int neg to_bits
exp-720 = refl

-- -745 is the last that is worked out: the smallest subnormal
pub exp-745 : to_bits binary64 (exp_of (bits 0xc087480000000000)) ≡ 1
unfolding exp_of of_bits lt is_nan add mul div sub of_int neg to_bits
exp-745 = refl

-- the next below it gives +0.0
pub exp-below-745 : to_bits binary64 (exp_of (bits 0xc087480000000001)) ≡ 0
unfolding exp_of of_bits lt is_nan add mul div sub of_int neg to_bits
exp-below-745 = refl

-- ---- ln

pub ln-two : to_bits binary64 (ln_of two64) ≡ 0x3fe62e42fefa39ef
unfolding ln_of loop size lt add sub mul div of_int of_bits to_bits
ln-two = refl

-- the smallest subnormal
pub ln-least : to_bits binary64 (ln_of (bits 1)) ≡ 0xc0874385446d71c3
unfolding ln_of loop size lt add sub mul div of_int of_bits to_bits
ln-least = refl

pub ln-infinity : ln_of (bits 0x7ff0000000000000) ≡ inf false
unfolding ln_of loop size lt add sub mul div of_int of_bits
ln-infinity = refl

pub ln-minus-zero : ln_of (bits 0x8000000000000000) ≡ nan
unfolding ln_of loop size lt add sub mul div of_int of_bits
ln-minus-zero = refl

pub ln-ten : to_bits binary64 (ln_of (bits 0x4024000000000000)) ≡ 0x40026bb1bbb55516
unfolding ln_of loop size lt add sub mul div of_int of_bits to_bits
ln-ten = refl

-- ---- neighbours

-- perplexity 30 among 4096 frames
pub neighbours-thirty : neighbours_of (bits 0x403e000000000000) 4096 ≡ 91
unfolding neighbours_of mul of_bits
neighbours-thirty = refl

-- perplexity 1 among 2
pub neighbours-two : neighbours_of one64 2 ≡ 1
unfolding neighbours_of mul of_bits
neighbours-two = refl

-- three times a third, rounded, is 1
pub neighbours-third : neighbours_of (bits 0x3fd5555555555555) 100 ≡ 2
unfolding neighbours_of mul of_bits
neighbours-third = refl

-- the smallest perplexity
pub neighbours-least : neighbours_of (bits 1) 100 ≡ 2
unfolding neighbours_of mul of_bits
neighbours-least = refl
