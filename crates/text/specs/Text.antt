-- Numbers as text, and text in a lent area of bytes. Definitions only.
use Rattle.std.specs.Prelude.{◌≡◌, List, [], ◌∷◌, ℕ, ◌+◌, ◌^◌, ◌≤◌, ltb, length}
use Rattle.io.specs.Digits.{last_digits}
use Rattle.laws.specs.Loops.{first}
use Rattle.laws.specs.Joined.{written}

-- a space, and the end of a line
abbrev pub space : List ℕ
space = 32 ∷ []

abbrev pub line_end : List ℕ
line_end = 10 ∷ []

-- how many decimal digits a number below 2^64 takes, at least one
unfoldable pub decimals : ℕ → ℕ
decimals n = first (λ k. ltb n (10 ^ (k + 1))) 20 + 1

-- the number in decimal digits, without zeros in front
unfoldable pub decimal_of : ℕ → List ℕ
decimal_of n = last_digits 10 (decimals n) n

-- 16 hex digits in lower case
unfoldable pub hex_of : ℕ → List ℕ
hex_of n = last_digits 16 16 n

-- w put at place a of l: b is the place after it, and m the area afterwards
pub record Puts (w : List ℕ) (a : ℕ) (l : List ℕ) (b : ℕ) (m : List ℕ) : Type 0 where
  pub place : b ≡ a + length w
  pub room : b ≤ length l
  pub area : m ≡ written w a l
