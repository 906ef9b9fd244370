-- The longer arena as it lies: the cells that a call left, with further cells behind them. Assumes nothing.
use mathlib.Core.Path.{◌≡◌, sym, ap, subst, ◌∙◌}
use mathlib.Core.List.{List, ◌++◌}
use Prim.Native.Nat.{ℕ}
use Rattle.tree_node.specs.declared.Node.{Node}
use Rattle.tree_node.specs.declared.Cell.{Cell}
use Rattle.tree_node.specs.Arena.{nodes_of}
use Rattle.tree_node.proofs.Told.{nodes-append}
use Rattle.run_entry.specs.State.{State}
use Rattle.descent.specs.Descent.{work}
use Rattle.descent.specs.Honest.{Honest}
use Rattle.descent.specs.Longer.{in_arena, longer, Holds, lent_arena}
use Rattle.descent.proofs.Longer.{GoesOn, works-on-longer}

lent_longer : (more cs : List Cell) (s : State) → Holds cs s → longer (nodes_of more) s ≡ lent_arena (cs ++ more) s
lent_longer more cs s h = ap (λ (ns : List Node). in_arena ns s) (ap (λ (ns : List Node). ns ++ nodes_of more) h ∙ sym (nodes-append cs more))

-- THEOREM: a call leaves the arena in the cells ds; further cells are put behind them, and the run goes on.
-- It does what a run does that had them behind its arena from the start
pub goes-on-lent : (more : List Cell) (b c : ℕ) (s : State) → Honest s → (cs ds : List Cell) → Holds cs s → Holds ds (work b s).left →
    GoesOn b c s (lent_arena (ds ++ more) (work b s).left) (lent_arena (cs ++ more) s)
goes-on-lent more b c s g cs ds h h' =
    let t = (work b s).left in
    subst (λ (x : State). GoesOn b c s x (lent_arena (cs ++ more) s)) (lent_longer more ds t h')
    (subst (λ (x : State). GoesOn b c s (longer (nodes_of more) t) x) (lent_longer more cs s h) (works-on-longer (nodes_of more) b c s g))
