-- The sums of the Kullback-Leibler figure: over pairs of frames for an exact run, over links for a Barnes-Hut run. Definitions only.
use Rattle.std.specs.Prelude.{List, cond, ℕ, ◌+◌, ◌-◌, ◌*◌, ◌<◌, eqb, set, Float}
use Rattle.std.specs.Float.{binary64}
use Rattle.std.specs.Float.Ieee.{add, mul, div, lt}
use Rattle.laws.specs.Loops.{loop}
use Rattle.laws.specs.Area.{at, num, zero64, one64}
use Rattle.elementary.specs.Limits.{unless_above}
use Rattle.elementary.specs.Ln.{ln_of}
use Rattle.tree_bodies.specs.Bodies.{gap_of}
use Rattle.gradient_pairs.specs.Exact.{share_floor, on_map, num_of}
use Rattle.gradient.specs.Forces.{Linked}

-- one pair more on a sum: p·ln(p / q) with q at least 2^-52, where p is above 0; else nothing
unfoldable pub kl_term : Float → Float → Float → Float
unfolding unless_above ln_of
kl_term p q s = cond (lt zero64 p) (add binary64 s (mul binary64 p (ln_of (div binary64 p (unless_above share_floor q))))) s

-- ---- exact: over all pairs

-- what the map says of frames i and j
unfoldable pub kl_share : List Float → Float → ℕ → ℕ → ℕ → Float
unfolding num_of
kl_share y total c i j = div binary64 (num_of y c i j) total

-- frames i and j, of whom the map says q: p = affinity·exaggeration, rounded first; a frame and itself are skipped
unfoldable pub kl_pair : List Float → Float → ℕ → ℕ → ℕ → Float → Float → Float
unfolding kl_term
kl_pair P exaggeration n i j q s = cond (eqb i j) s (kl_term (mul binary64 (at P (i * n + j)) exaggeration) q s)

-- one frame more of row i
abbrev pub kl_step : List Float → List Float → Float → Float → ℕ → ℕ → ℕ → ℕ → Float → Float
kl_step y P exaggeration total n c i j s = kl_pair P exaggeration n i j (kl_share y total c i j) s

-- row i: by rising j, from +0.0
unfoldable pub kl_row : List Float → List Float → Float → Float → ℕ → ℕ → ℕ → Float
unfolding loop kl_pair kl_share
kl_row y P exaggeration total n c i = loop (kl_step y P exaggeration total n c i) n 0 zero64

-- a row in parts: place k gets the share of frames i and j + k
abbrev pub kl_share_step : List Float → Float → ℕ → ℕ → ℕ → ℕ → List Float → List Float
kl_share_step y total c i j k l = set l k (kl_share y total c i (j + k))

-- .. from which it is taken
abbrev pub kl_shared_step : List Float → List Float → Float → ℕ → ℕ → ℕ → ℕ → Float → Float
kl_shared_step shares P exaggeration n i j k s = kl_pair P exaggeration n i (j + k) (at shares k) s

-- one row's sum more
abbrev pub kl_row_step : List Float → List Float → Float → Float → ℕ → ℕ → ℕ → Float → Float
kl_row_step y P exaggeration total n c i s = add binary64 s (kl_row y P exaggeration total n c i)

-- the rows' sums, by rising row, from +0.0
unfoldable pub kl_dense : List Float → List Float → Float → Float → ℕ → ℕ → Float
unfolding loop kl_row
kl_dense y P exaggeration total n c = loop (kl_row_step y P exaggeration total n c) n 0 zero64

-- ---- Barnes-Hut: over all links

-- frame i's link at a place: p = weight·exaggeration, rounded first, q = (1 / (1 + d²)) / z
unfoldable pub kl_link : List Float → List Float → List ℕ → Float → Float → ℕ → ℕ → ℕ → Float → Float
unfolding kl_term gap_of
kl_link y W I exaggeration z c i place s = kl_term (mul binary64 (at W place) exaggeration)
    (div binary64 (div binary64 one64 (add binary64 one64 (gap_of c (on_map y c i) (on_map y c (num I place))))) z) s

-- the link at a place counted from a
abbrev pub kl_link_step : List Float → List Float → List ℕ → Float → Float → ℕ → ℕ → ℕ → ℕ → Float → Float
kl_link_step y W I exaggeration z c i a k s = kl_link y W I exaggeration z c i (a + k) s

-- list i, by rising place, onto what the lists before it came to
unfoldable pub kl_list : List Float → List Float → List ℕ → List ℕ → Float → Float → ℕ → ℕ → Float → Float
unfolding loop kl_link
kl_list y W I O exaggeration z c i s = loop (kl_link_step y W I exaggeration z c i (num O i)) (num O (i + 1) - num O i) 0 s

-- all lists: one running sum, from +0.0
unfoldable pub kl_lists : List Float → List Float → List ℕ → List ℕ → Float → Float → ℕ → ℕ → Float
unfolding loop kl_list
kl_lists y W I O exaggeration z n c = loop (kl_list y W I O exaggeration z c) n 0 zero64

-- every list lies within both areas, and names frames that there are
abbrev pub AllLinked : ℕ → List Float → List ℕ → List ℕ → Type 0
AllLinked n W I O = (i : ℕ) → i < n → Linked n W I O i
