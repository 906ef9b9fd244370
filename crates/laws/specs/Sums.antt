-- Sums of natural numbers, and a test counted as 0 or 1. Definitions only.
use Rattle.std.specs.Prelude.{Bool, true, false, ℕ, zero, suc, ◌+◌}

-- f 0 + f 1 + .. + f (n - 1)
unfoldable pub sum : (ℕ → ℕ) → ℕ → ℕ
sum f zero = 0
sum f (suc n) = sum f n + f n

-- 1 where the test holds, else 0
unfoldable pub bit : Bool → ℕ
bit true = 1
bit false = 0
