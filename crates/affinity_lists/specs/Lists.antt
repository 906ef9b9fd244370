-- The Barnes-Hut neighbour lists: which frames stand in list i, in which order, with which weights, and the whole areas. Definitions only.
-- At first frame i names k frames: row i, at i·k of the index area J, by rising index; its shares of them, already divided by 2n, stand at the same places of S.
-- Afterwards list i, from offset i up to offset i + 1, has every frame that i names or that names i, by rising index.
use Rattle.std.specs.Prelude.{◌≡◌, List, [], ◌∷◌, ◌++◌, map, Bool, cond, ◌||◌, ℕ, suc, ◌+◌, ◌*◌, ◌<◌, ◌≤◌, ltb, length, drop, Float}
use Rattle.laws.specs.Domain.{most_frames}
use Rattle.laws.specs.Area.{num, zero64}
use Rattle.laws.specs.Joined.{those, joined}
use Rattle.areas.specs.Filled.{filled}
use Rattle.affinity_links.specs.Links.{Rising, found, plus_of}

-- ---- rows

-- the first m rows of k: each rises, names frames that there are, and not the frame itself
pub record Rowed (m n k : ℕ) (J : List ℕ) : Type 0 where
  pub rising : (i : ℕ) → i < m → Rising J (i * k) k
  pub inside : (i t : ℕ) → i < m → t < k → num J (i * k + t) < n
  pub other : (i t : ℕ) → i < m → t < k → num J (i * k + t) ≡ i → ⊥

-- the rows of all n frames
abbrev pub Rows : ℕ → ℕ → List ℕ → Type 0
Rows n k J = Rowed n n k J

-- the place of frame j in row i; k if i does not name j
abbrev pub place : ℕ → List ℕ → ℕ → ℕ → ℕ
place k J i j = found J (i * k) k j

-- frame i names frame j
abbrev pub names : ℕ → List ℕ → ℕ → ℕ → Bool
names k J i j = ltb (place k J i j) k

-- ---- links

-- two frames are linked if one names the other
abbrev pub linked : ℕ → List ℕ → ℕ → ℕ → Bool
linked k J i j = names k J i j || names k J j i

-- w, and frame i's share of frame j if i names j: the Rust's `+=`
abbrev pub plus_share : ℕ → List ℕ → List Float → ℕ → ℕ → Float → Float
plus_share k J S i j w = plus_of S (i * k) k (place k J i j) w

-- of a lower frame a and a higher frame b: +0.0, then a's share of b, then b's share of a
abbrev pub joint : ℕ → List ℕ → List Float → ℕ → ℕ → Float
joint k J S a b = plus_share k J S b a (plus_share k J S a b zero64)

-- the weight of the link of i with j, and so of j with i
unfoldable pub weight : ℕ → List ℕ → List Float → ℕ → ℕ → Float
weight k J S i j = cond (ltb i j) (joint k J S i j) (joint k J S j i)

-- ---- lists

-- list i: the frames that are linked with i, by rising index
abbrev pub list_of : ℕ → ℕ → List ℕ → ℕ → List ℕ
list_of n k J i = those (linked k J i) n

-- their weights
abbrev pub weights_of : ℕ → ℕ → List ℕ → List Float → ℕ → List Float
weights_of n k J S i = map (weight k J S i) (list_of n k J i)

-- where list i begins: the links of the lists before it
abbrev pub list_start : ℕ → ℕ → List ℕ → ℕ → ℕ
list_start n k J i = length (joined (list_of n k J) i)

-- the links of all lists
abbrev pub links_of : ℕ → ℕ → List ℕ → ℕ
links_of n k J = list_start n k J n

-- ---- the areas afterwards, each with what stood past the part that is written

abbrev pub indices_of : ℕ → ℕ → List ℕ → List ℕ
indices_of n k J = joined (list_of n k J) n ++ drop (links_of n k J) J

abbrev pub weights_all : ℕ → ℕ → List ℕ → List Float → List Float
weights_all n k J S = joined (weights_of n k J S) n ++ drop (links_of n k J) S

-- the beginnings of the n lists, and the end of the last
abbrev pub offsets_of : ℕ → ℕ → List ℕ → List ℕ → List ℕ
offsets_of n k J O = joined (λ i. list_start n k J i ∷ []) (suc n) ++ drop (suc n) O

-- place p belongs to list i
abbrev pub InList : List ℕ → ℕ → ℕ → Type 0
InList O i p = (num O i ≤ p) × (p < num O (i + 1))

-- ---- all areas together

pub record Areas : Type 0 where
  pub weights : List Float
  pub indices : List ℕ
  pub offsets : List ℕ
  pub row_values : List Float
  pub row_indices : List ℕ

abbrev pub areas : List Float → List ℕ → List ℕ → List Float → List ℕ → Areas
areas W I O X R = record { weights = W; indices = I; offsets = O; row_values = X; row_indices = R }

-- what the rows of n frames become; the preparation rows are zero again in their first n places
abbrev pub lists_made : ℕ → ℕ → Areas → Areas
lists_made n k a =
    areas
    (weights_all n k a.indices a.weights)
    (indices_of n k a.indices)
    (offsets_of n k a.indices a.offsets)
    (filled zero64 n a.row_values)
    (filled 0 n a.row_indices)

-- what is asked of them: their sizes, and the rows
pub record Prepared (n k : ℕ) (a : Areas) : Type 0 where
  pub frames : (n ≤ most_frames) × (k < n)
  pub weights : 2 * (n * k) ≤ length a.weights
  pub indices : 2 * (n * k) ≤ length a.indices
  pub offsets : n + 1 ≤ length a.offsets
  pub row_values : n ≤ length a.row_values
  pub row_indices : n ≤ length a.row_indices
  pub rows : Rows n k a.indices
