-- Request 2026-13: a start with the sign of components turned, and areas that show each other in the mirror. Definitions only.
use Rattle.std.specs.Prelude.{◌≡◌, List, Bool, cond, ℕ, ◌%◌, ◌<◌, ◌≤◌, eqb, length, Float}
use Rattle.std.specs.Float.Ieee.{unlike, neg}
use Rattle.laws.specs.Area.{at}
use Rattle.laws.specs.Joined.{joined, each}
use Rattle.mirror_values.specs.Values.{Shows}

-- a set of components: turns d is whether component d is turned. One component alone:
abbrev pub just_one : ℕ → ℕ → Bool
just_one d e = eqb e d

-- turned in one of two sets and not in the other
abbrev pub either_not_both : (ℕ → Bool) → (ℕ → Bool) → ℕ → Bool
either_not_both some others d = unlike (some d) (others d)

-- the value with its sign turned where b says so
unfoldable pub turned_if : Bool → Float → Float
turned_if b x = cond b (neg x) x

-- positions in c components, point by point: element i belongs to component i % c
unfoldable pub turned_start : (ℕ → Bool) → ℕ → List Float → List Float
unfolding turned_if joined
turned_start turns c start = each (λ i. turned_if (turns (i % c)) (at start i)) (length start)

-- the first m places of ys show those of xs in the mirror, the others are equal to the bit
pub record ShowsAll (turns : ℕ → Bool) (c m : ℕ) (xs ys : List Float) : Type 0 where
  pub long : length xs ≡ length ys
  pub shown : (i : ℕ) → i < m → Shows (turns (i % c)) (at xs i) (at ys i)
  pub past : (i : ℕ) → m ≤ i → at xs i ≡ at ys i
