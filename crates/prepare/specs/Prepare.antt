-- Preparation: the tests 1 to 12 in their order, the areas as a run begins, and its record. Definitions only.
use Rattle.std.specs.Prelude.{List, Bool, cond, not, ◌&&◌, ℕ, ◌+◌, ◌*◌, eqb, leb, length, Float, Result, Ok, Err}
use Rattle.laws.specs.Loops.{every}
use Rattle.laws.specs.Area.{at, zero64, one64}
use Rattle.laws.specs.Joined.{pasted}
use Rattle.elementary.specs.Limits.{in_domain}
use Rattle.areas.specs.Filled.{filled}
use Rattle.affinity_lists.specs.Lists.{Areas, areas}
use Rattle.affinity.specs.Exact.{exact_of}
use Rattle.affinity.specs.Neighbours.{neighbours_listed}
use Rattle.run_record.specs.declared.Settings.{Settings}
use Rattle.run_record.specs.declared.Run.{Run}
use Rattle.run_record.specs.Record.{is_tree, early_fault, late_fault, fresh_run}
use Rattle.tree_node.specs.declared.Cell.{Cell}
use Rattle.run_entry.specs.State.{Memory, memory}
use Rattle.run_entry.specs.Entry.{areas_fit}
use Rattle.prepare.specs.declared.Lengths.{Lengths}

-- ---- the areas that are lent

pub record Lent : Type 0 where
  pub positions : List Float
  pub increments : List Float
  pub gains : List Float
  pub affinities : List Float
  pub indices : List ℕ
  pub offsets : List ℕ
  pub forces : List Float
  pub row_values : List Float
  pub row_indices : List ℕ

abbrev pub lent : List Float → List Float → List Float → List Float → List ℕ → List ℕ → List Float → List Float → List ℕ → Lent
lent p i g a x o f v w = record { positions = p; increments = i; gains = g; affinities = a; indices = x; offsets = o; forces = f; row_values = v; row_indices = w }

-- their lengths; of the arena the number of its nodes
abbrev pub lengths_of : Lent → ℕ → Lengths
lengths_of l nodes = record {
  areas = record {
    positions = length l.positions;
    increments = length l.increments;
    gains = length l.gains;
    affinities = length l.affinities;
    forces = length l.forces;
  };
  indices = length l.indices;
  offsets = length l.offsets;
  nodes = nodes;
  values = length l.row_values;
  places = length l.row_indices;
}

-- ---- the tests

-- the first m values are in the domain
abbrev pub all_inside : List Float → ℕ → Bool
all_inside t m = every (λ i. in_domain (at t i)) m

-- no area is too short; preparation rows have n values and n indices
unfoldable pub lengths_fit : Settings → Lengths → Bool
lengths_fit s l = areas_fit s l.areas.positions l.areas.increments l.areas.gains l.areas.affinities l.indices l.offsets l.areas.forces l.nodes && leb s.n l.values && leb s.n l.places

-- the number of the first test that fails; 0: none
unfoldable pub prepare_fault : Settings → List Float → List Float → Lengths → ℕ
prepare_fault s table start l =
    cond (not (eqb (early_fault s) 0)) (early_fault s)
    (cond (not (eqb (length table) (s.n * s.f))) 7
    (cond (not (all_inside table (s.n * s.f))) 8
    (cond (not (eqb (late_fault s) 0)) (late_fault s)
    (cond (not (eqb (length start) (s.n * s.c))) 11
    (cond (not (all_inside start (s.n * s.c))) 11
    (cond (lengths_fit s l) 0 12))))))

-- ---- what a run begins with

-- the affinities by method; the preparation rows end as zeros
unfoldable pub routed : Settings → List Float → Areas → Areas
routed s table a =
    cond (is_tree s.method) (neighbours_listed table s.n s.f s.perplexity a)
    (areas (exact_of table s.n s.f s.perplexity a.weights) a.indices a.offsets (filled zero64 s.n a.row_values) (filled 0 s.n a.row_indices))

abbrev pub routed_in : Settings → List Float → Lent → Areas
routed_in s table l = routed s table (areas l.affinities l.indices l.offsets l.row_values l.row_indices)

-- positions are the start, increments and forces 0, gains 1; tails are kept
abbrev pub begun_areas : Settings → List Float → List Float → Lent → Lent
begun_areas s table start l =
    let r = routed_in s table l in
    lent
    (pasted start 0 (s.n * s.c) l.positions)
    (filled zero64 (s.n * s.c) l.increments)
    (filled one64 (s.n * s.c) l.gains)
    r.weights
    r.indices
    r.offsets
    (filled zero64 (s.n * (2 * s.c + 1)) l.forces)
    r.row_values
    r.row_indices

-- ---- preparation

pub record PrepareOutcome : Type 0 where
  pub answer : Result Run ℕ
  pub areas : Lent

abbrev pub prepare_outcome : Result Run ℕ → Lent → PrepareOutcome
prepare_outcome a l = record { answer = a; areas = l }

-- refused, nothing is changed and there is no record
unfoldable pub prepared : Settings → List Float → List Float → ℕ → Lent → PrepareOutcome
prepared s table start nodes l =
    cond (eqb (prepare_fault s table start (lengths_of l nodes)) 0)
    (prepare_outcome (Ok (fresh_run s)) (begun_areas s table start l))
    (prepare_outcome (Err (prepare_fault s table start (lengths_of l nodes))) l)

-- the lent areas and the arena, as the work call has them
abbrev pub memory_of : Lent → List Cell → Memory
memory_of l cs = memory l.positions l.increments l.gains l.affinities l.indices l.offsets l.forces cs

-- the scope paper's number of an answer; 0 where it is no refusal
unfoldable pub prepare_number : Result Run ℕ → ℕ
prepare_number (Err k) = k
prepare_number (Ok r) = 0
