-- The lists that pass the entry tests: none falls, none passes the slots, each names frames that there are. Assumes nothing.
use mathlib.Core.List.{List}
use mathlib.Core.Path.{◌≡◌}
use mathlib.Core.Bool.{true, ◌&&◌}
use Prim.Native.Nat.{ℕ, zero, suc, ◌+◌, ◌-◌, ◌<◌, ◌≤◌}
use native.Mathlib.Omega.{arith}
use native.Mathlib.Nat.{le_trans, le_refl}
use lib.Dec.{leb}
use lib.ListN.{length}
use lib.Ieee.{Float}
use borrow.Author.Tests.{ltb-true, leb-true, ne_eqb}
use Rattle.laws.specs.Area.{num}
use Rattle.laws.proofs.Bools.{and_left, and_right}
use Rattle.run_record.specs.declared.Run.{Run}
use Rattle.run_record.specs.Record.{sizes_of}
use Rattle.gradient.specs.Forces.{Linked}
use Rattle.tree_node.specs.declared.Node.{Node}
use Rattle.run_entry.specs.Entry.{offset_fine, index_fine, listed, GoodContents, TreeAreas}
use Rattle.run_entry.proofs.Laws.{links-is}

module _ {m : ℕ} (r : Run) (xs off : List ℕ) (ns : List Node) (g : GoodContents m r xs off ns) where
  -- an offset past the first is not below the one before it, and passes no slot
  pub offset-rises : (i : ℕ) → i < r.settings.n → (num off i ≤ num off (i + 1)) × (num off (i + 1) ≤ (sizes_of r.settings).links)
  unfolding offset_fine
  offset-rises i h =
      let l = (sizes_of r.settings).links in
      let e = g.each-offset (i + 1) (omega arith) in
      let f : leb (num off (i + 1 - 1)) (num off (i + 1)) && leb (num off (i + 1)) l ≡ true = rw (ne_eqb (i + 1) 0 (λ q. omega arith)) at e in
      let a = leb-true (num off (i + 1 - 1)) (num off (i + 1)) (and_left (leb (num off (i + 1 - 1)) (num off (i + 1))) (leb (num off (i + 1)) l) f) in
      let z : i + 1 - 1 ≡ i = omega arith in
      (rw z at a, leb-true (num off (i + 1)) l (and_right (leb (num off (i + 1 - 1)) (num off (i + 1))) (leb (num off (i + 1)) l) f))

  -- so none is above the last
  pub offset-listed : (d i : ℕ) → i + d ≡ r.settings.n → num off i ≤ listed r.settings off
  offset-listed zero i h = let e : i ≡ r.settings.n = omega arith in rw e (le_refl (num off r.settings.n))
  offset-listed (suc d) i h = le_trans (offset-rises i (omega arith)).0 (offset-listed d (i + 1) (omega arith))

  pub index_below : (k : ℕ) → k < listed r.settings off → num xs k < r.settings.n
  unfolding index_fine
  index_below k h = ltb-true (num xs k) r.settings.n (g.each_index k h)

  -- so every list lies within both areas, and names frames that there are
  pub linked-at : (W : List Float) → TreeAreas r.settings (length W) (length xs) (length off) (length ns) → (i : ℕ) → i < r.settings.n → Linked r.settings.n W xs off i
  linked-at W a i h =
      let o = offset-rises i h in
      let l = links-is r.settings in
      let last = offset-listed (r.settings.n - (i + 1)) (i + 1) (omega arith) in
      record {
        offsets = omega (arith, a.offsets-most);
        rises = o.0;
        weights = omega (arith, o.1, l, a.links-most);
        indices = omega (arith, o.1, l, a.indices-most);
        frames = λ k q. index_below k (omega (arith, q, last));
      }
