-- What stands past the links in the areas of the lists is what stood there before the rows were made: the rows lie below the last link. Assumes nothing.
use mathlib.Core.Path.{◌≡◌, ap}
use mathlib.Core.List.{List, ◌++◌}
use Prim.Native.Nat.{ℕ, ◌*◌, ◌<◌, ◌≤◌}
use lib.ListN.{drop}
use lib.Seq.{drop_at}
use lib.Ieee.{Float}
use Rattle.laws.specs.Joined.{joined, laid}
use Rattle.laws.proofs.Changed.{drop-later}
use Rattle.laws.proofs.Laid.{laid-size}
use Rattle.elementary.specs.Limits.{neighbours_of}
use Rattle.affinity_near.specs.Near.{Pair}
use Rattle.affinity_lists.specs.Lists.{list_of, weights_of, links_of, Areas}
use Rattle.affinity_lists.proofs.Linked.{links-least}
use Rattle.affinity.specs.Neighbours.{rows_of, neighbours_listed}
use Rattle.affinity.proofs.Named.{rows, rows-size, rows_named}
use Rattle.affinity.proofs.Listed.{not-all-neighbours}

module _ (t : List Float) (n f : ℕ) (perplexity : Float) (two : 2 ≤ n) (a : Areas) where
  abbrev k : ℕ
  k = neighbours_of perplexity n

  hk : k < n
  hk = not-all-neighbours perplexity n two

  -- the areas when the rows are made
  abbrev made : Areas
  made = rows_of t n f k perplexity a

  abbrev links : ℕ
  links = links_of n k made.indices

  past : {B : Type 0} (g : Pair → B) (l : List B) → drop links (laid (rows g t n f k perplexity hk) k n l) ≡ drop links l
  past g l = drop-later (laid (rows g t n f k perplexity hk) k n l) l (n * k) links (links-least n k made.indices (rows_named t n f k perplexity a.indices hk))
      (drop_at (joined (rows g t n f k perplexity hk) n) (drop (n * k) l) (n * k) (laid-size k (rows g t n f k perplexity hk) n (rows-size g t n f k perplexity hk)))

  pub weights-kept : (neighbours_listed t n f perplexity a).weights ≡ joined (weights_of n k made.indices made.weights) n ++ drop links a.weights
  unfolding neighbours_listed
  weights-kept = ap (λ (l : List Float). joined (weights_of n k made.indices made.weights) n ++ l) (past (λ (x : Pair). x.value) a.weights)

  pub indices-kept : (neighbours_listed t n f perplexity a).indices ≡ joined (list_of n k made.indices) n ++ drop links a.indices
  unfolding neighbours_listed
  indices-kept = ap (λ (l : List ℕ). joined (list_of n k made.indices) n ++ l) (past (λ (x : Pair). x.index) a.indices)
