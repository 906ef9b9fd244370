-- A run begun from a partner's list: the order of the tests, and every area afterwards. Areas of values are lent by their bits. Definitions only.
use Rattle.std.specs.Prelude.{List, Bool, cond, not, ℕ, ◌+◌, ◌*◌, eqb, length, Result, Ok, Err}
use Rattle.laws.specs.Loops.{every}
use Rattle.laws.specs.Area.{num, bits}
use Rattle.laws.specs.Joined.{pasted}
use Rattle.elementary.specs.Limits.{in_domain}
use Rattle.areas.specs.Filled.{filled}
use Rattle.run_record.specs.declared.Method.TheVariants.{BarnesHut}
use Rattle.run_record.specs.declared.Settings.{Settings}
use Rattle.run_record.specs.Record.{settings_fault, sizes_of, fresh_run}
use Rattle.run_entry.specs.Entry.{areas_fit}
use Rattle.partner.specs.Partner.{first_bad_link, is_partner}
use Rattle.partner_load.specs.Loaded.{indices_loaded, weights_loaded, offsets_loaded}
use Rattle.refusal.specs.Refusal.{refusal_number, refusal_of, number_told}
use Rattle.run_record.specs.declared.Run.{Run}
use Rattle.partner_import.specs.declared.ImportFault.{ImportFault}
use Rattle.partner_import.specs.declared.ImportFault.TheVariants.{Refused, BadRecord}
use Rattle.partner_import.specs.declared.LentLengths.{LentLengths}

-- ---- the areas that are lent

pub record Loading : Type 0 where
  pub positions : List ℕ
  pub increments : List ℕ
  pub gains : List ℕ
  pub affinities : List ℕ
  pub indices : List ℕ
  pub offsets : List ℕ
  pub forces : List ℕ

abbrev pub loading : List ℕ → List ℕ → List ℕ → List ℕ → List ℕ → List ℕ → List ℕ → Loading
loading p i g a x o f = record { positions = p; increments = i; gains = g; affinities = a; indices = x; offsets = o; forces = f }

-- their lengths; of the arena the number of its nodes
abbrev pub lent_lengths : Loading → ℕ → LentLengths
lent_lengths l nodes = record {
  positions = length l.positions;
  increments = length l.increments;
  gains = length l.gains;
  affinities = length
      l.affinities;
  indices = length l.indices;
  offsets = length l.offsets;
  forces = length l.forces;
  nodes = nodes;
}

-- ---- the tests

-- the run is Barnes-Hut, whatever else is said
abbrev pub tree_settings : Settings → Settings
tree_settings s = record { n = s.n; f = s.f; c = s.c; perplexity = s.perplexity; rate = s.rate; iterations = s.iterations; minimum = s.minimum; angle = s.angle; method = BarnesHut }

-- the first m values are in the domain
abbrev pub start_fine : List ℕ → ℕ → Bool
start_fine start m = every (λ i. in_domain (bits (num start i))) m

-- 1 to 6, 7 for n and f, 9, 10, then 11, then 12; 0: none
unfoldable pub import_fault : Settings → List ℕ → LentLengths → ℕ
import_fault s start l =
    cond (not (eqb (settings_fault s) 0)) (settings_fault s)
    (cond (not (eqb (length start) (s.n * s.c))) 11
    (cond (not (start_fine start (s.n * s.c))) 11
    (cond (areas_fit s l.positions l.increments l.gains l.affinities l.indices l.offsets l.forces l.nodes) 0 12)))

-- ---- what a run begins with

-- the value 1
abbrev pub one_bits : ℕ
one_bits = 0x3ff0000000000000

-- the lists are the file's, positions the start, increments and forces 0, gains 1; what lies past them is kept
unfoldable pub loaded_areas : Settings → List ℕ → List ℕ → Loading → Loading
loaded_areas s start file l =
    loading
    (pasted start 0 (s.n * s.c) l.positions)
    (filled 0 (s.n * s.c) l.increments)
    (filled one_bits (s.n * s.c) l.gains)
    (weights_loaded file l.affinities)
    (indices_loaded file l.indices)
    (offsets_loaded file s.n l.offsets)
    (filled 0 (s.n * (2 * s.c + 1)) l.forces)

-- ---- the whole call

pub record ImportOutcome : Type 0 where
  pub answer : Result Run ImportFault
  pub areas : Loading

abbrev pub import_outcome : Result Run ImportFault → Loading → ImportOutcome
import_outcome a l = record { answer = a; areas = l }

-- once the tests up to 12 have passed: 19 with the first record at which a rule fails, or the list is loaded
unfoldable pub judged_list : Settings → List ℕ → List ℕ → Loading → ImportOutcome
judged_list s start file l =
    cond (is_partner s.n (sizes_of s).links file)
    (import_outcome (Ok (fresh_run s)) (loaded_areas s start file l))
    (import_outcome (Err (BadRecord (first_bad_link s.n (sizes_of s).links file))) l)

-- refused, nothing is changed and there is no record
unfoldable pub import_of : Settings → List ℕ → List ℕ → ℕ → Loading → ImportOutcome
import_of s start file nodes l =
    let t = tree_settings s in
    let k = import_fault t start (lent_lengths l nodes) in
    cond (eqb k 0) (judged_list t start file l) (import_outcome (Err (Refused (refusal_of k))) l)

-- the number of a refusal; 0 where there is none
abbrev pub import_fault_number : ImportFault → ℕ
import_fault_number (Refused r) = refusal_number r
import_fault_number (BadRecord p) = 19

abbrev pub import_number : Result Run ImportFault → ℕ
import_number a = number_told import_fault_number a
