-- What the smaller functions give: the links of one list, from place a on. Definitions only.
use Rattle.std.specs.Prelude.{List, map, ◌++◌, not, ℕ, ◌+◌, length, drop}
use Rattle.laws.specs.Sums.{sum, bit}
use Rattle.laws.specs.Area.{num}
use Rattle.laws.specs.Joined.{those}
use Rattle.take_gone.specs.Gone.{stands_at, is_among}
use Rattle.take_lists.specs.Packed.{links_left, packed_indices, packed_weights, packed_offsets}

-- of the k frames named from place a on, how many are not in g
abbrev pub named_left : List ℕ → List ℕ → ℕ → ℕ → ℕ
named_left g I a k = sum (λ t. bit (not (is_among g (num I (a + t))))) k

-- of the k links from place a on, those that name a frame in keep
abbrev pub kept_from : List ℕ → List ℕ → ℕ → ℕ → List ℕ
kept_from keep I a k = those (λ t. is_among keep (num I (a + t))) k

-- the places in keep of the frames that they name
abbrev pub indices_from : List ℕ → List ℕ → ℕ → ℕ → List ℕ
indices_from keep I a k = map (λ t. stands_at keep (num I (a + t))) (kept_from keep I a k)

-- and their weights
abbrev pub weights_from : List ℕ → List ℕ → List ℕ → ℕ → ℕ → List ℕ
weights_from keep W I a k = map (λ t. num W (a + t)) (kept_from keep I a k)

-- ---- all lists packed: what is left at the front, then what stood there

abbrev pub closed_weights : List ℕ → List ℕ → List ℕ → List ℕ → List ℕ
closed_weights keep W I O = packed_weights keep W I O ++ drop (links_left keep I O) W

abbrev pub closed_indices : List ℕ → List ℕ → List ℕ → List ℕ
closed_indices keep I O = packed_indices keep I O ++ drop (links_left keep I O) I

abbrev pub closed_offsets : List ℕ → List ℕ → List ℕ → List ℕ
closed_offsets keep I O = packed_offsets keep I O ++ drop (length keep + 1) O
