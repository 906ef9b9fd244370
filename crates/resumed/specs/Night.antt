-- A run that is parked, and read again from the bytes that were written. Definitions only.
use Rattle.std.specs.Prelude.{◌≡◌, List, true, ℕ, ◌≤◌, length, Float}
use Rattle.tree_node.specs.declared.Node.{Node}
use Rattle.run_entry.specs.State.{State}
use Rattle.run_entry.specs.Entry.{areas_fit}
use Rattle.record_words.specs.RecordWords.{settings_of}
use Rattle.parked.specs.Parked.{Stored}
use Rattle.std.specs.Prelude.{Ok}
use Rattle.park.specs.Park.{park_of}
use Rattle.unpark.specs.Unpark.{Unparking, unpark_of}
use Rattle.parking.specs.Held.{InWords, state_in, first_records}

-- the run d, with these forces and nodes, is parked as the first k records of a target; they are read into e, its forces and its arena
module _ (d : Stored) (forces : List Float) (nodes : List Node) (target : List ℕ) (k : ℕ) (e : Stored) (into : List Float) (arena : List Node) where
  -- the bytes in between
  abbrev pub night_bytes : List ℕ
  night_bytes = first_records k (park_of d (length forces) nodes target).target

  abbrev pub morning : Unparking
  morning = unpark_of night_bytes e into (length arena)

  -- the state that is read
  abbrev pub morning_state : State
  morning_state = state_in morning.left morning.forces arena

  -- k records are written; a record of fourteen words, areas as a work call on d asks for them, and an arena as long as before are there to read them into
  pub record Night : Type 0 where
    pub in_words : InWords d
    pub written : (park_of d (length forces) nodes target).answer ≡ Ok k
    pub words_long : 14 ≤ length e.run
    pub areas-long : areas_fit (settings_of d.run) (length e.positions) (length e.increments) (length e.gains) (length e.affinities)
        (length e.indices) (length e.offsets) (length into) (length arena) ≡ true
    pub same-arena : length arena ≡ length nodes
