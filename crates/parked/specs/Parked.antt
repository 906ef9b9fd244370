-- What each word of a parked run is. Definitions only.
use Rattle.std.specs.Prelude.{List, [], ◌∷◌, ◌≡◌, Bool, true, false, cond, ℕ, ◌-◌, ◌≤◌, eqb, ltb, length}
use Rattle.laws.specs.Area.{num}
use Rattle.parked.specs.declared.Layout.{Layout}
use Rattle.parked.specs.Layout.{layout_of}

-- a run as it lies in memory: the record's words, the areas' values by their bits, indices and offsets
pub record Stored : Type 0 where
  pub run : List ℕ
  pub positions : List ℕ
  pub increments : List ℕ
  pub gains : List ℕ
  pub affinities : List ℕ
  pub indices : List ℕ
  pub offsets : List ℕ

abbrev pub stored_of : List ℕ → List ℕ → List ℕ → List ℕ → List ℕ → List ℕ → List ℕ → Stored
stored_of w p i g a x o = record { run = w; positions = p; increments = i; gains = g; affinities = a; indices = x; offsets = o }

-- the links that are listed: none of an exact run
unfoldable pub links_in : Bool → ℕ → List ℕ → ℕ
links_in t n off = cond t (num off n) 0

-- how the run with these record words and offsets lies
unfoldable pub layout_in : List ℕ → List ℕ → Layout
layout_in w off = layout_of (eqb (num w 3) 1) (num w 0) (num w 2) (links_in (eqb (num w 3) 1) (num w 0) off)

-- the first three records: method, n, f, c; perplexity, rate, iterations, angle; minimum norm, iterations done, state, links
unfoldable pub head_of : Layout → List ℕ → List ℕ
head_of l w =
    num w 3 ∷ num w 0 ∷ num w 1 ∷ num w 2 ∷
    num w 4 ∷ num w 5 ∷ num w 6 ∷ cond l.tree (num w 7) 0 ∷
    num w 8 ∷ num w 10 ∷ num w 9 ∷ l.links ∷ []

-- word w, in an area of m words that starts at word b: the area's, then zeros
unfoldable pub area_word : List ℕ → ℕ → ℕ → ℕ → ℕ
area_word v b m w = cond (ltb (w - b) m) (num v (w - b)) 0

unfoldable pub state_word : Layout → List ℕ → List ℕ → List ℕ → ℕ → ℕ
state_word l p i g w =
    cond (ltb w l.increments) (area_word p 12 l.cells w)
    (cond (ltb w l.gains) (area_word i l.increments l.cells w)
    (area_word g l.gains l.cells w))

unfoldable pub affinity_word : Layout → List ℕ → List ℕ → List ℕ → ℕ → ℕ
affinity_word l a x o w =
    cond (ltb w l.indices) (area_word (cond l.tree o a) l.affinities l.held w)
    (cond (ltb w l.weights) (area_word x l.indices l.links w)
    (area_word a l.weights l.links w))

-- word w of the file
unfoldable pub parked_word : Layout → Stored → ℕ → ℕ
parked_word l d w =
    cond (ltb w 12) (num (head_of l d.run) w)
    (cond (ltb w l.affinities) (state_word l d.positions d.increments d.gains w)
    (affinity_word l d.affinities d.indices d.offsets w))

-- what is read lies within the areas
pub record StoredRoom (l : Layout) (d : Stored) : Type 0 where
  pub run_long : 14 ≤ length d.run
  pub positions-long : l.cells ≤ length d.positions
  pub increments-long : l.cells ≤ length d.increments
  pub gains-long : l.cells ≤ length d.gains
  pub matrix-long : l.tree ≡ false → l.held ≤ length d.affinities
  pub offsets-long : l.tree ≡ true → l.held ≤ length d.offsets
  pub indices-long : l.links ≤ length d.indices
  pub weights-long : l.links ≤ length d.affinities
