-- What is worked on: the run record and every area. Definitions only.
use Rattle.std.specs.Prelude.{List, ℕ, Float}
use Rattle.run_record.specs.declared.Run.{Run}
use Rattle.tree_node.specs.declared.Node.{Node}
use Rattle.tree_node.specs.declared.Cell.{Cell}
use Rattle.tree_node.specs.Arena.{nodes_of}

-- the areas; the arena as the nodes that lie in its cells, which tell the cells whole (`cells_told`)
pub record Memory : Type 0 where
  pub positions : List Float
  pub increments : List Float
  pub gains : List Float
  pub affinities : List Float
  pub indices : List ℕ
  pub offsets : List ℕ
  pub forces : List Float
  pub nodes : List Node

pub record State : Type 0 where
  pub run : Run
  pub memory : Memory

abbrev pub memory : List Float → List Float → List Float → List Float → List ℕ → List ℕ → List Float → List Cell → Memory
memory p i g a x o f cs = record { positions = p; increments = i; gains = g; affinities = a; indices = x; offsets = o; forces = f; nodes = nodes_of cs }

abbrev pub state : Run → Memory → State
state r m = record { run = r; memory = m }
