-- Areas from which frames are taken out: what is left stands at the front, zeros follow up to the old size. Values that are only moved stand as words, by their bits. Definitions only.
use Rattle.std.specs.Prelude.{List, ◌++◌, ◌≡◌, ℕ, ◌+◌, ◌-◌, ◌*◌, ◌<◌, ◌≤◌, length, take, drop, replicate, Float}
use Rattle.std.specs.Float.{binary64}
use Rattle.std.specs.Float.Ieee.{sub}
use Rattle.laws.specs.Area.{at, num}
use Rattle.laws.specs.Joined.{joined, each}
use Rattle.centring.specs.Centring.{average_of}

module _ {A : Type 0} where
  -- X at the front of an area, z from there up to its old size, and what stood past it
  abbrev pub shrunk : A → ℕ → List A → List A → List A
  shrunk z size X l = X ++ (replicate (size - length X) z ++ drop size l)

  -- z in the places from a up to b, all else as it was
  abbrev pub cleared_from : A → ℕ → ℕ → List A → List A
  cleared_from z a b l = take a l ++ (replicate (b - a) z ++ drop b l)

-- of an area with a row of w words for each frame, the rows of the frames in keep
abbrev pub kept_rows : List ℕ → ℕ → List ℕ → List ℕ
kept_rows keep w l = joined (λ i. each (λ d. num l (num keep i * w + d)) w) (length keep)

-- of a matrix with n rows of n, the rows and the columns of the frames in keep
abbrev pub kept_square : List ℕ → ℕ → List ℕ → List ℕ
kept_square keep n l = joined (λ i. each (λ j. num l (num keep i * n + num keep j)) (length keep)) (length keep)

-- component d's mean over the frames in keep
abbrev pub average_left : List ℕ → ℕ → List Float → ℕ → Float
average_left keep c y d = average_of (λ i. at y (num keep i * c + d)) (length keep)

-- component d of frame j less that mean
abbrev pub centred_left : List ℕ → ℕ → List Float → ℕ → ℕ → Float
centred_left keep c y j d = sub binary64 (at y (j * c + d)) (average_left keep c y d)

-- the positions of the frames in keep, centred
abbrev pub centred_rows : List ℕ → ℕ → List Float → List Float
centred_rows keep c y = joined (λ i. each (λ d. centred_left keep c y (num keep i) d) c) (length keep)

-- each number of keep is no lower than its place, and below n
pub record Staying (keep : List ℕ) (n : ℕ) : Type 0 where
  pub no_lower : (i : ℕ) → i < length keep → i ≤ num keep i
  pub below : (i : ℕ) → i < length keep → num keep i < n
  pub few : length keep ≤ n

-- the means of c components stand in an array
pub record Means (keep : List ℕ) (c : ℕ) (y means : List Float) : Type 0 where
  pub each-mean : (d : ℕ) → d < c → at means d ≡ average_left keep c y d
