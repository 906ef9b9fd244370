-- The states that calls and removals lead to, in any order. Definition only.
use Rattle.std.specs.Prelude.{List, ℕ}
use Rattle.run_record.specs.declared.Run.{Run}
use Rattle.tree_node.specs.declared.Node.{Node}
use Rattle.run_entry.specs.State.{State}
use Rattle.take_out.specs.TakeOut.{Holdings, state_held, take_out, left_behind}
use Rattle.descent.specs.Descent.{works}

-- from s: work calls with any budgets, and removals of any list, refused or not. A removal is lent areas that are the state there, with any words for its values and any table and old places
pub data Reached (s : State) : State → Type 0 where
  begun : Reached s s
  called : {x : State} (bs : List ℕ) → Reached s x → Reached s (works bs x)
  thinned_to : (g : List ℕ) (r : Run) (h : Holdings) (ns : List Node) → Reached s (state_held r h ns) → Reached s (left_behind (take_out g r h ns) ns)
