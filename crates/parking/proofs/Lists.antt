-- The lists of a Barnes-Hut run in good order, as its file asks them. Assumes nothing.
use mathlib.Core.Path.{◌≡◌, subst}
use mathlib.Core.List.{List}
use Prim.Native.Nat.{ℕ, ◌+◌, ◌-◌, ◌*◌, ◌<◌, ◌≤◌}
use native.Mathlib.Omega.{arith}
use borrow.Author.Tests.{eqb-true}
use Rattle.laws.specs.Area.{num}
use Rattle.tree_node.specs.declared.Node.{Node}
use Rattle.run_record.specs.declared.Run.{Run}
use Rattle.run_record.specs.Record.{k_of}
use Rattle.run_entry.specs.Entry.{offset_fine, GoodContents}
use Rattle.run_entry.proofs.Laws.{links-is}
use Rattle.run_rooms.proofs.Lists.{offset-rises, offset-listed, index_below}

-- n frames and at most so many links: offsets start at 0, none falls, none is above the last, and each index names a frame
pub record Lists (n most : ℕ) (xs off : List ℕ) : Type 0 where
  pub starts : num off 0 ≡ 0
  pub rises : (i : ℕ) → 1 ≤ i → i ≤ n → num off (i - 1) ≤ num off i
  pub below : (i : ℕ) → i ≤ n → num off i ≤ num off n
  pub most-links : num off n ≤ most
  pub frames : (i : ℕ) → i < num off n → num xs i < n

module _ {m : ℕ} (r : Run) (xs off : List ℕ) (ns : List Node) (g : GoodContents m r xs off ns) where
  pub lists_of : 1 ≤ r.settings.n → Lists r.settings.n (2 * r.settings.n * k_of r.settings) xs off
  unfolding offset_fine
  lists_of h = record {
    starts = eqb-true (num off 0) 0 (g.each-offset 0 (omega arith));
    rises = λ i a b. subst (λ (x : ℕ). num off (i - 1) ≤ num off x) (up i a) (offset-rises r xs off ns g (i - 1) (omega arith)).0;
    below = λ i b. offset-listed r xs off ns g (r.settings.n - i) i (omega arith);
    most-links = subst (λ (x : ℕ). num off x ≤ 2 * r.settings.n * k_of r.settings) (up r.settings.n h)
        (subst (λ (x : ℕ). num off (r.settings.n - 1 + 1) ≤ x) (links-is r.settings) (offset-rises r xs off ns g (r.settings.n - 1) (omega arith)).1);
    frames = λ i a. index_below r xs off ns g i a;
  }
    where
      up : (i : ℕ) → 1 ≤ i → i - 1 + 1 ≡ i
      up i a = omega arith
