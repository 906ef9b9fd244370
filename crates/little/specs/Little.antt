-- Little-endian numbers and values in a string of bytes. Definitions only.
use Rattle.std.specs.Prelude.{List, [], ◌∷◌, ℕ, zero, suc, ◌+◌, ◌*◌, ◌/◌, ◌%◌, ◌<◌, Float}
use Rattle.laws.specs.Area.{num, bits}

-- the number in the n bytes from a on, the lowest first
unfoldable pub little_of : List ℕ → ℕ → ℕ → ℕ
little_of f a zero = 0
little_of f a (suc n) = num f a + 256 * little_of f (a + 1) n

-- the value in the eight bytes from a on
unfoldable pub value_at : List ℕ → ℕ → Float
value_at f a = bits (little_of f a 8)

-- the number in word w: the eight bytes from 8·w on
abbrev pub word_in : List ℕ → ℕ → ℕ
word_in f w = little_of f (8 * w) 8

-- the n bytes of a number, the lowest first
unfoldable pub little_bytes : ℕ → ℕ → List ℕ
little_bytes zero v = []
little_bytes (suc n) v = v % 256 ∷ little_bytes n (v / 256)

-- every element is below m, which is not 0 (past the end `num` gives 0): what memory gives of its bytes and words
abbrev pub AllBelow : ℕ → List ℕ → Type 0
AllBelow m l = (i : ℕ) → num l i < m
