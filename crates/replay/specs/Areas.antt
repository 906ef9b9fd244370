-- Areas of a replay: marked, taking the words of a list, and compared with them. Definitions only.
use Rattle.std.specs.Prelude.{ℕ, ◌+◌, ◌%◌, ◌^◌, Bool, cond, ◌&&◌, ◌||◌, List, length, ◌==◌, nat_le, nat_lt, slice_set, to_bits, Float}
use Rattle.std.specs.Float.{binary64}
use Rattle.laws.specs.Loops.{loop, every}
use Rattle.laws.specs.Area.{at, num, bits}
use Rattle.replay.specs.Replay.{word_of}

-- a word's place further on; it wraps at 2^64
abbrev pub onward : ℕ → ℕ → ℕ
onward a b = (a + b) % 2 ^ 64

-- place i holds the value with the bits 4000000000000000 + i
abbrev pub marked : List Float → List Float
marked v = loop (λ i x. slice_set x i (bits ((0x4000000000000000 + i) % 2 ^ 64))) (length v) 0 v

-- place i holds 40000000 + i, in hex; past 3fffffff it begins again
abbrev pub marked_numbers : List ℕ → List ℕ
marked_numbers v = loop (λ i x. slice_set x i (0x40000000 + i % 0x40000000)) (length v) 0 v

-- the first m places take the words from a on
abbrev pub words_copied : List ℕ → ℕ → ℕ → List Float → List Float
words_copied l a m v = loop (λ i x. slice_set x i (bits (word_of l (onward a i)))) m 0 v

-- what place i is to hold: below m the word, then a mark
abbrev pub wanted_at : List ℕ → ℕ → ℕ → ℕ → ℕ → ℕ
wanted_at l a m i mark = cond (nat_lt i m) (word_of l (onward a i)) ((mark + i) % 2 ^ 64)

-- place i holds it, or lies before the first place that is looked at
abbrev pub right_value : List Float → ℕ → ℕ → List ℕ → ℕ → ℕ → Bool
right_value v from m l a i = nat_lt i from || to_bits binary64 (at v i) == wanted_at l a m i 0x4000000000000000

abbrev pub right_number : List ℕ → ℕ → List ℕ → ℕ → ℕ → Bool
right_number v m l a i = num v i == wanted_at l a m i 0x40000000

-- every place from `from` on holds it; an area of fewer than `from` or m places is wrong
unfoldable pub same_area : List Float → ℕ → ℕ → List ℕ → ℕ → Bool
same_area v from m l a = nat_le from (length v) && (nat_le m (length v) && every (right_value v from m l a) (length v))

unfoldable pub same_numbers : List ℕ → ℕ → List ℕ → ℕ → Bool
same_numbers v m l a = nat_le m (length v) && every (right_number v m l a) (length v)
