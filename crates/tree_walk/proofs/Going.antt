-- What the loops of `walk` and `deeper` cite, whatever the number of levels: what a turn asks, and what it does to the invariant of `Pending.antt`.
--     WalkNeeds        what `walk` and `deeper` ask
--     starts, asks     the invariant at the start, and what the turn asks
--     onward, resumes  where the loop goes on: after a turn, and after a turn whose children had no room on the stack, once they are walked
--     smaller, again   the children lie further on, and a walk from them may be asked for
-- Assumes nothing.
use mathlib.Core.Path.{◌≡◌, sym, subst}
use mathlib.Core.List.{List}
use Prim.Native.Nat.{ℕ, ◌+◌, ◌-◌, ◌*◌, ◌^◌, ◌<◌, ◌≤◌}
use native.Mathlib.Omega.{arith}
use lib.ListN.{length, get_or}
use Rattle.std.proofs.lemmas.List.{get_or_default}
use Rattle.laws.specs.Domain.{most_word}
use Rattle.tree_node.specs.declared.Cell.{Cell}
use Rattle.tree_node.specs.Node.{Axes}
use Rattle.tree_node.specs.Arena.{void, cell_at, nodes_of}
use Rattle.tree_bodies.specs.declared.Acc.{Acc}
use Rattle.tree_walk.specs.declared.Eye.{Eye}
use Rattle.tree_walk.specs.declared.Spot.{Spot}
use Rattle.tree_walk.specs.Repel.{Blocks}
use Rattle.tree_walk.specs.Turn.{fresh_spot}
use Rattle.tree_walk.proofs.Turned.{TurnLeaves}
use Rattle.tree_walk.proofs.Walked.{over-cells, first_fits}
use Rattle.tree_walk.proofs.Pending.{Going, Goes, Deep, going_start, going-first, going_next, going-deep}

-- what `walk` and `deeper` ask of an arena ys, of which `used` cells are in use, and of where the last walk starts
abbrev pub WalkNeeds : List Cell → ℕ → Eye → ℕ → Type 0
WalkNeeds ys used eye to = (Axes eye.c) × (to ≤ used) × (used ≤ length ys) × (used ≤ most_word) × Blocks used eye.c (nodes_of ys)

module _ (levels used : ℕ) (eye : Eye) (ys : List Cell) (low to : ℕ) (acc : Acc) (req : WalkNeeds ys used eye to) where
  abbrev pub aim : Acc
  aim = over-cells used eye ys low (to - low) acc

  -- nothing is on the stack yet
  pub starts : (st : List ℕ) → length st ≡ 2 * levels → (s : Spot) → s ≡ fresh_spot acc low to 0 → Going levels used eye ys low aim st s
  starts st n s e = subst (Going levels used eye ys low aim st) (sym e) (going_start levels used eye ys low to acc st n req.1)

  -- the cell at which the loop stands is one of those in use; d is what stands past the arena's end
  module _ (st : List ℕ) (s : Spot) (g : Going levels used eye ys low aim st s) (less : s.at < s.end) where
    pub inside : s.at < used
    inside = (going-first levels used eye ys req.4 req.0 g less).1

    module _ (d : Cell) where
      there : get_or ys s.at d ≡ cell_at ys s.at
      there = get_or_default ys s.at d void (omega (arith, inside, req.2))

      pub asks : (Axes eye.c) × (s.at < s.end) × (s.level ≤ levels) × ((get_or ys s.at d).first + 2 ^ eye.c ≤ most_word)
      asks = (req.0, less, g.sound.room, rw there (first_fits used eye ys req.4 req.0 req.3 s.at inside))

      -- a turn there gave r, and zs on the stack
      module _ (r : Spot) (zs : List ℕ) (e : TurnLeaves levels eye (get_or ys s.at d) st s r zs) where
        left-there : TurnLeaves levels eye (cell_at ys s.at) st s r zs
        left-there = subst (λ (w : Cell). TurnLeaves levels eye w st s r zs) there e

        pub onward : r.stop ≤ r.deep → Goes levels used eye ys low aim st s r zs
        onward m = going_next levels used eye ys req.4 req.0 g less left-there.0 left-there.1 (λ l. omega (arith, l, m))

        deep : r.deep < r.stop → Deep levels used eye ys low aim st s r zs
        deep l = going-deep levels used eye ys req.4 req.0 g less left-there.0 left-there.1 l

        pub resumes : r.deep < r.stop → (a : Acc) → a ≡ over-cells used eye ys r.deep (r.stop - r.deep) r.acc → (w : Spot)
            → w ≡ fresh_spot a r.at r.end r.level → Goes levels used eye ys low aim st s w zs
        resumes l a ea w ew = subst (λ (u : Spot). Goes levels used eye ys low aim st s u zs) (sym ew) ((deep l).onto a ea)

        pub smaller : r.deep < r.stop → used - r.deep < used - low
        smaller l = omega (arith, (deep l).further, (deep l).within, l)

        pub again : r.deep < r.stop → WalkNeeds ys used eye r.stop
        again l = (req.0, (deep l).within, req.2, req.3, req.4)
