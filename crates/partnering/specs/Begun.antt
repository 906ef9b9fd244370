-- A run begun from a partner's list, as the work calls see it. Definitions only.
use Rattle.std.specs.Prelude.{List, map}
use Rattle.laws.specs.Area.{bits}
use Rattle.tree_node.specs.declared.Node.{Node}
use Rattle.run_record.specs.declared.Run.{Run}
use Rattle.run_entry.specs.State.{State}
use Rattle.partner_import.specs.Import.{Loading}

-- record, areas by their values, and the nodes of the arena
abbrev pub state_loaded : Run → Loading → List Node → State
state_loaded r l ns = record {
  run = r;
  memory = record {
    positions = map bits l.positions;
    increments = map bits l.increments;
    gains = map bits l.gains;
    affinities = map bits l.affinities;
    indices = l.indices;
    offsets = l.offsets;
    forces = map bits l.forces;
    nodes = ns;
  };
}
