-- A partner's list in the areas of a run: indices and weights in the file's order, offsets by counting. What lies past them is kept. Definitions only.
use Rattle.std.specs.Prelude.{List, ◌++◌, ℕ, ◌+◌, ◌<◌, ◌≤◌, ltb, drop}
use Rattle.laws.specs.Sums.{sum, bit}
use Rattle.laws.specs.Joined.{each}
use Rattle.partner.specs.Partner.{whole_links, link_from, link_to, link_weight}

-- the frame that each link names
unfoldable pub indices_loaded : List ℕ → List ℕ → List ℕ
indices_loaded f v = each (link_to f) (whole_links f) ++ drop (whole_links f) v

-- each link's weight, by its bits
unfoldable pub weights_loaded : List ℕ → List ℕ → List ℕ
weights_loaded f v = each (link_weight f) (whole_links f) ++ drop (whole_links f) v

-- how many links start at a frame below j
unfoldable pub links_below : List ℕ → ℕ → ℕ
links_below f j = sum (λ p. bit (ltb (link_from f p) j)) (whole_links f)

-- where the list of each of n frames begins, and where the last one ends
unfoldable pub offsets_loaded : List ℕ → ℕ → List ℕ → List ℕ
offsets_loaded f n v = each (links_below f) (n + 1) ++ drop (n + 1) v

-- the links are listed frame by frame
pub record FramesRise (f : List ℕ) : Type 0 where
  pub no_lower : (s t : ℕ) → s < t → t < whole_links f → link_from f s ≤ link_from f t
