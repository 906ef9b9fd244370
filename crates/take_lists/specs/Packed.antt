-- Neighbour lists from which frames are taken out. W, I and O are weights, indices and offsets; keep the old places of the frames that are left. Definitions only.
use Rattle.std.specs.Prelude.{List, map, ◌≡◌, ℕ, ◌+◌, ◌-◌, ◌<◌, ◌≤◌, length}
use Rattle.laws.specs.Sums.{sum}
use Rattle.laws.specs.Area.{num}
use Rattle.laws.specs.Joined.{those, joined, each}
use Rattle.take_gone.specs.Gone.{stands_at, is_among}

-- the links of frame j that name a frame that is left, by their places in its list, rising
unfoldable pub kept_links : List ℕ → List ℕ → List ℕ → ℕ → List ℕ
kept_links keep I O j = those (λ t. is_among keep (num I (num O j + t))) (num O (j + 1) - num O j)

-- the list of frame j afterwards: the new number of each frame named, which is its place among those that are left
abbrev pub indices_left : List ℕ → List ℕ → List ℕ → ℕ → List ℕ
indices_left keep I O j = map (λ t. stands_at keep (num I (num O j + t))) (kept_links keep I O j)

-- and its weights, which stand as words, by their bits, as they were
abbrev pub weights_left : List ℕ → List ℕ → List ℕ → List ℕ → ℕ → List ℕ
weights_left keep W I O j = map (λ t. num W (num O j + t)) (kept_links keep I O j)

-- the lists of all that are left, one after the other
abbrev pub packed_indices : List ℕ → List ℕ → List ℕ → List ℕ
packed_indices keep I O = joined (λ i. indices_left keep I O (num keep i)) (length keep)

abbrev pub packed_weights : List ℕ → List ℕ → List ℕ → List ℕ → List ℕ
packed_weights keep W I O = joined (λ i. weights_left keep W I O (num keep i)) (length keep)

-- how many links the first i of them have
abbrev pub links_before : List ℕ → List ℕ → List ℕ → ℕ → ℕ
links_before keep I O i = sum (λ h. length (kept_links keep I O (num keep h))) i

-- where each list begins, and where the last one ends
abbrev pub packed_offsets : List ℕ → List ℕ → List ℕ → List ℕ
packed_offsets keep I O = each (links_before keep I O) (length keep + 1)

-- how many links are left
abbrev pub links_left : List ℕ → List ℕ → List ℕ → ℕ
links_left keep I O = links_before keep I O (length keep)

-- n lists that lie one after the other within their areas of w weights and x indices
pub record Listed (n w x : ℕ) (O : List ℕ) : Type 0 where
  pub offsets-long : n + 1 ≤ length O
  pub offsets-rise : (i : ℕ) → i < n → num O i ≤ num O (i + 1)
  pub offsets-begin : num O 0 ≡ 0
  pub weights-long : num O n ≤ w
  pub indices-long : num O n ≤ x
