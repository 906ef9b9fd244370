-- What two removals one after the other take out, as one list. Definitions only.
use Rattle.std.specs.Prelude.{List, ◌≡◌, Bool, ◌&&◌, ◌||◌, ℕ, ◌<◌}
use Rattle.laws.specs.Joined.{those}
use Rattle.take_gone.specs.Gone.{stands_at, is_among, survivors}

-- sample j of n is taken out by the first, or it stands, among those that the first leaves, where the second takes out
abbrev pub taken_by_either : List ℕ → List ℕ → ℕ → ℕ → Bool
taken_by_either g1 g2 n j = is_among g1 j || (is_among (survivors g1 n) j && is_among g2 (stands_at (survivors g1 n) j))

-- u names just those
pub record Union (g1 g2 u : List ℕ) (n : ℕ) : Type 0 where
  pub either : (j : ℕ) → j < n → is_among u j ≡ taken_by_either g1 g2 n j

-- in their order
abbrev pub union_of : List ℕ → List ℕ → ℕ → List ℕ
union_of g1 g2 n = those (taken_by_either g1 g2 n) n
