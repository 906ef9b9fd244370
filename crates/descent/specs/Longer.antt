-- A state whose arena has been made longer. Definitions only.
use Rattle.std.specs.Prelude.{◌≡◌, List, ◌++◌}
use Rattle.tree_node.specs.declared.Node.{Node}
use Rattle.tree_node.specs.declared.Cell.{Cell}
use Rattle.tree_node.specs.Arena.{nodes_of}
use Rattle.run_entry.specs.State.{State}

-- s with another arena; the record and the other areas are as they are
abbrev pub in_arena : List Node → State → State
in_arena ns s =
    let m = s.memory in
    record {
      run = s.run;
      memory = record {
        positions = m.positions;
        increments = m.increments;
        gains = m.gains;
        affinities = m.affinities;
        indices = m.indices;
        offsets = m.offsets;
        forces = m.forces;
        nodes = ns;
      };
    }

-- behind the nodes of the arena there are more, whatever they hold
abbrev pub longer : List Node → State → State
longer more s = in_arena (s.memory.nodes ++ more) s

-- the cells cs hold the arena of s
abbrev pub Holds : List Cell → State → Type 0
Holds cs s = s.memory.nodes ≡ nodes_of cs

-- the cells cs are lent as the arena
abbrev pub lent_arena : List Cell → State → State
lent_arena cs s = in_arena (nodes_of cs) s
