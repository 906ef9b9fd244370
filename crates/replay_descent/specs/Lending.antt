-- What a work call leaves, with the record and the arena by value. Definitions only.
use Rattle.std.specs.Prelude.{List}
use Rattle.run_record.specs.declared.Run.{Run}
use Rattle.run_budget.specs.declared.Answer.{Answer}
use Rattle.tree_node.specs.declared.Cell.{Cell}
use Rattle.replay_descent.specs.declared.Left.{Left}

abbrev pub left_of : Run → Answer → List Cell → Left
left_of r a cs = record { run = r; answer = a; cells = cs }
