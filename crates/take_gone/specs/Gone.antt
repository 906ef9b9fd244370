-- The samples that are taken out, and those that are left. Definitions only.
use Rattle.std.specs.Prelude.{List, Bool, not, ◌&&◌, ◌||◌, ℕ, ◌-◌, ◌<◌, ◌≤◌, eqb, ltb, length}
use Rattle.laws.specs.Loops.{first, every}
use Rattle.laws.specs.Area.{num}
use Rattle.laws.specs.Joined.{those}

-- where j stands in a list; its length where it does not
abbrev pub stands_at : List ℕ → ℕ → ℕ
stands_at l j = first (λ t. eqb (num l t) j) (length l)

abbrev pub is_among : List ℕ → ℕ → Bool
is_among l j = ltb (stands_at l j) (length l)

-- number t of the list is above the one before it, and below n
unfoldable pub gone_fine_at : List ℕ → ℕ → ℕ → Bool
gone_fine_at g n t = (eqb t 0 || ltb (num g (t - 1)) (num g t)) && ltb (num g t) n

-- what may be taken out of n samples: a list that rises strictly and names samples below n
abbrev pub gone_fine : List ℕ → ℕ → Bool
gone_fine g n = every (gone_fine_at g n) (length g)

-- the samples that are left, by their old places, rising
abbrev pub survivors : List ℕ → ℕ → List ℕ
survivors g n = those (λ j. not (is_among g j)) n

-- the numbers of a list rise strictly
pub record Climbs (l : List ℕ) : Type 0 where
  pub climb : (s t : ℕ) → s < t → t < length l → num l s < num l t

-- an index g into a list that rises is abreast of j: those before it are below j, those from it on are not
pub record Abreast (l : List ℕ) (g j : ℕ) : Type 0 where
  pub rises : Climbs l
  pub within : g ≤ length l
  pub passed : (t : ℕ) → t < g → num l t < j
  pub ahead : (t : ℕ) → g ≤ t → t < length l → j ≤ num l t
