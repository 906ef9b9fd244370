-- A run as it lies in memory: what its words can be, and the state that it is. Definitions only.
use Rattle.std.specs.Prelude.{◌≡◌, List, map, true, ℕ, ◌*◌, ◌≤◌, length, take, Float, Ok}
use Rattle.laws.specs.Area.{bits}
use Rattle.little.specs.Little.{AllBelow}
use Rattle.tree_node.specs.declared.Node.{Node}
use Rattle.run_entry.specs.State.{State}
use Rattle.record_words.specs.RecordWords.{run_of}
use Rattle.parked.specs.Parked.{Stored}
use Rattle.park.specs.Park.{parking, park_of}
use Rattle.parked_file.specs.File.{is_parked}

-- a byte, a word of 32 bits, one of 64: the numbers that each has
abbrev pub bytes_most : ℕ
bytes_most = 256

abbrev pub halves_most : ℕ
halves_most = 4294967296

abbrev pub words_most : ℕ
words_most = 18446744073709551616

-- record and values are words of 64 bits, indices and offsets of 32
pub record InWords (d : Stored) : Type 0 where
  pub run : AllBelow words_most d.run
  pub positions : AllBelow words_most d.positions
  pub increments : AllBelow words_most d.increments
  pub gains : AllBelow words_most d.gains
  pub affinities : AllBelow words_most d.affinities
  pub indices : AllBelow halves_most d.indices
  pub offsets : AllBelow halves_most d.offsets

-- the state that is stored so, with these forces and nodes
abbrev pub state_in : Stored → List Float → List Node → State
state_in d F ns = record {
  run = run_of d.run;
  memory = record {
    positions = map bits d.positions;
    increments = map bits d.increments;
    gains = map bits d.gains;
    affinities = map bits d.affinities;
    indices = d.indices;
    offsets = d.offsets;
    forces = F;
    nodes = ns;
  };
}

-- the bytes of the first k records
abbrev pub first_records : ℕ → List ℕ → List ℕ
first_records k t = take (32 * k) t

-- some run that memory can hold is written so: into a target of just these bytes
pub record WrittenAs (f : List ℕ) : Type 0 where
  pub run : Stored
  pub forces : ℕ
  pub nodes : List Node
  pub target : List ℕ
  pub records : ℕ
  pub in_words : InWords run
  pub same : park_of run forces nodes target ≡ parking (Ok records) f
  pub whole : length f ≡ 32 * records

-- some parked run starts with the first n records of f
pub record Begins (f : List ℕ) (n : ℕ) : Type 0 where
  pub file : List ℕ
  pub in_bytes : AllBelow bytes_most file
  pub stands : is_parked file ≡ true
  pub long : 32 * n ≤ length file
  pub same : first_records n file ≡ first_records n f
