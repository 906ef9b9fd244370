-- `affinity_links::find` meets its contract: what std's search finds in a rising part.
use Prim.Native.Nat.{ℕ, ◌+◌, ◌-◌}
use mathlib.Core.Path.{◌≡◌, ◌∙◌, subst}
use native.Mathlib.Omega.{arith}
use lib.ListN.{take, drop}
use Rattle.std.specs.List.Sorted.{IsBinarySearchResult}
use Rattle.std.specs.Ordering.{nat_cmp}
use Rattle.affinity_links.proofs.Search.{sought}
use Rattle.affinity_links.proofs.find.Goals as goal

all_of : (a k : ℕ) → a + k - a ≡ k
all_of a k = omega arith

pub returns : goal.returns
returns c =
    c.ok.ensures.value ∙ sought _ _ c.args.k c.args.j c.requires.0 c.requires.1 _
    (subst (λ (n : ℕ). IsBinarySearchResult (λ y. nat_cmp y c.args.j) (take n (drop c.args.a c.args.indices.now)) c.binary_search.result)
    (all_of c.args.a c.args.k) c.binary_search.ensures.position)
