-- Why a run is refused at its entry, in words: a condition for each kind of fault, asked only where what comes before it in the order is good, with the place that is told. Definitions only.
use Rattle.std.specs.Prelude.{Ok, Err, ◌≡◌, List, Bool, true, false, ◌||◌, ◌⊎◌, ℕ, ◌+◌, ◌<◌, ◌≤◌, min, eqb, ltb, length, Float}
use Rattle.laws.specs.Area.{num}
use Rattle.tree_node.specs.declared.Node.{Node}
use Rattle.tree_node.specs.Arena.{nameable}
use Rattle.tree.specs.Insert.{tree}
use Rattle.tree.specs.Contents.{faulty}
use Rattle.run_record.specs.declared.Settings.{Settings}
use Rattle.run_record.specs.declared.Run.{Run}
use Rattle.run_record.specs.Record.{is_tree, settings_fault, counters_ok, sizes_of}
use Rattle.refusal.specs.Refusal.{refusal_number, number_told}
use Rattle.run_entry.specs.State.{Memory, State}
use Rattle.run_entry.specs.declared.Fault.TheVariants.{Settings as BadSettings, Counters, Areas, Offsets, Index, Tree as BadTree}
use Rattle.run_entry.specs.Entry.{Found, areas_fit, offset_fine, index_fine, listed, fault_at, fault_number}
use Rattle.record_words.specs.RecordWords.{settings_fine, settings_of, run_of}
use Rattle.fault_words.specs.FaultWords.{fault_value}
use Rattle.take_out.specs.TakeOut.{Holdings, lent_positions}

-- ---- what the tests look at: the record, of the areas of values their lengths alone, the lists, the nodes

pub record Shown : Type 0 where
  pub run : Run
  pub positions : ℕ
  pub increments : ℕ
  pub gains : ℕ
  pub affinities : ℕ
  pub forces : ℕ
  pub indices : List ℕ
  pub offsets : List ℕ
  pub nodes : List Node

-- what they find
abbrev pub found_in : Shown → Found
found_in s = fault_at s.run s.positions s.increments s.gains s.affinities s.forces s.indices s.offsets s.nodes

-- ---- what is good so far, in the order of the tests

pub record RecordPasses (s : Shown) : Type 0 where
  pub settings-pass : settings_fault s.run.settings ≡ 0
  pub counters-pass : counters_ok s.run ≡ true

-- no area is too short
abbrev pub areas_long : Shown → Bool
areas_long s = areas_fit s.run.settings s.positions s.increments s.gains s.affinities (length s.indices) (length s.offsets) s.forces (length s.nodes)

-- .. and the run has lists
pub record AreasPass (s : Shown) : Type 0 where
  pub record-passes : RecordPasses s
  pub areas-pass : areas_long s ≡ true
  pub lists-there : is_tree s.run.settings.method ≡ true

-- offset i starts the list of frame i and ends that of the frame before: the first is 0, none falls, none passes 2·n·k
abbrev pub offset_at : Shown → ℕ → Bool
offset_at s i = offset_fine s.offsets (sizes_of s.run.settings).links i

pub record OffsetsPass (s : Shown) : Type 0 where
  pub areas-before : AreasPass s
  pub offsets-pass : (i : ℕ) → i < s.run.settings.n + 1 → offset_at s i ≡ true

abbrev pub links_listed : Shown → ℕ
links_listed s = listed s.run.settings s.offsets

-- the link at place p names a frame
abbrev pub index_at : Shown → ℕ → Bool
index_at s p = index_fine s.indices s.run.settings.n p

pub record IndicesPass (s : Shown) : Type 0 where
  pub offsets-before : OffsetsPass s
  pub indices-pass : (p : ℕ) → p < links_listed s → index_at s p ≡ true

-- the number of nodes in use is 0 or above the arena
abbrev pub used_bad : Shown → Bool
used_bad s = eqb s.run.used 0 || ltb (nameable (length s.nodes)) s.run.used

abbrev pub node_bad : Shown → ℕ → Bool
node_bad s i = faulty s.run.settings.n s.run.settings.c (tree s.run.used s.nodes) i

-- ---- what is bad

-- settings get the number k
pub record SettingsNumber (v : Settings) (k : ℕ) : Type 0 where
  pub number_is : settings_fault v ≡ k
  pub some_number : k ≡ 0 → ⊥

abbrev pub SettingsFail : Shown → ℕ → Type 0
SettingsFail s k = SettingsNumber s.run.settings k

-- counters or phase
pub record CountersFail (s : Shown) : Type 0 where
  pub settings-pass : settings_fault s.run.settings ≡ 0
  pub counters-fail : counters_ok s.run ≡ false

-- an area is too short
pub record AreasFail (s : Shown) : Type 0 where
  pub record-passes : RecordPasses s
  pub areas-fail : areas_long s ≡ false

-- frame i is the first whose list's end falls or passes 2·n·k
pub record EndFails (s : Shown) (i : ℕ) : Type 0 where
  pub frame-within : i < s.run.settings.n
  pub end-fails : offset_at s (i + 1) ≡ false
  pub ends-before : (j : ℕ) → j < i + 1 → offset_at s j ≡ true

-- the offsets: a bad start tells 0, else the frame
pub record OffsetsFail (s : Shown) (i : ℕ) : Type 0 where
  pub areas-before : AreasPass s
  pub start-or-end : ((offset_at s 0 ≡ false) × (i ≡ 0)) ⊎ EndFails s i

-- place p of the indices is the lowest that names no frame
pub record IndexFail (s : Shown) (p : ℕ) : Type 0 where
  pub offsets-before : OffsetsPass s
  pub place-within : p < links_listed s
  pub place-fails : index_at s p ≡ false
  pub lowest-place : (q : ℕ) → q < p → index_at s q ≡ true

-- node i is the lowest faulty one
pub record NodeFails (s : Shown) (i : ℕ) : Type 0 where
  pub used-good : used_bad s ≡ false
  pub node-within : i < s.run.used
  pub node-fails : node_bad s i ≡ true
  pub nodes-before : (j : ℕ) → j < i → node_bad s j ≡ false

-- between an iteration's box and finish: the number in use is bad, which tells 0, or a node is
pub record TreeFail (s : Shown) (i : ℕ) : Type 0 where
  pub indices-before : IndicesPass s
  pub inside : s.run.phase ≡ 0 → ⊥
  pub used-or-node : ((used_bad s ≡ true) × (i ≡ 0)) ⊎ NodeFails s i

-- nothing is
pub record AllPass (s : Shown) : Type 0 where
  pub record-passes : RecordPasses s
  pub areas-pass : areas_long s ≡ true
  pub lists-pass : is_tree s.run.settings.method ≡ true → IndicesPass s
  pub tree-passes : is_tree s.run.settings.method ≡ true → (s.run.phase ≡ 0 → ⊥) → (used_bad s ≡ false) × ((j : ℕ) → j < s.run.used → node_bad s j ≡ false)

-- ---- the reason for each answer of the entry tests

abbrev pub Reason : Shown → Found → Type 0
Reason s (Ok t) = AllPass s
Reason s (Err (BadSettings r)) = SettingsFail s (refusal_number r)
Reason s (Err Counters) = CountersFail s
Reason s (Err Areas) = AreasFail s
Reason s (Err (Offsets i)) = OffsetsFail s i
Reason s (Err (Index p)) = IndexFail s p
Reason s (Err (BadTree i)) = TreeFail s i

-- ---- what each call shows the tests

-- the work call, with the run and the areas of s
abbrev pub shown_by : State → Shown
shown_by s = record {
  run = s.run;
  positions = length s.memory.positions;
  increments = length s.memory.increments;
  gains = length
      s.memory.gains;
  affinities = length s.memory.affinities;
  forces = length
      s.memory.forces;
  indices = s.memory.indices;
  offsets = s.memory.offsets;
  nodes = s.memory.nodes;
}

-- the divergence: the copy is an area like the positions, the shorter of the two counts
abbrev pub shown_copy : Run → Memory → List Float → Shown
shown_copy r m y = record {
  run = r;
  positions = min (length m.positions) (length y);
  increments = length m.increments;
  gains = length
      m.gains;
  affinities = length m.affinities;
  forces = length m.forces;
  indices = m.indices;
  offsets = m.offsets;
  nodes = m.nodes;
}

-- a removal: where table or old places are too short, so are the positions
abbrev pub shown_held : Run → Holdings → List Node → Shown
shown_held r h ns = record {
  run = r;
  positions = lent_positions r.settings (length h.positions) (length h.table) (length h.old);
  increments = length
      h.increments;
  gains = length h.gains;
  affinities = length h.affinities;
  forces = length
      h.forces;
  indices = h.indices;
  offsets = h.offsets;
  nodes = ns;
}

-- parking, lists and strip: the run that the words w say, with areas of these lengths
abbrev pub shown_words : List ℕ → ℕ → ℕ → ℕ → ℕ → ℕ → List ℕ → List ℕ → List Node → Shown
shown_words w p i g a f xs off ns = record { run = run_of w; positions = p; increments = i; gains = g; affinities = a; forces = f; indices = xs; offsets = off; nodes = ns }

-- ---- words that are no record

-- the settings, told with k: the method is none of the two, or they would get the number k of 1 to 10
pub record UnreadSettings (w : List ℕ) (k : ℕ) : Type 0 where
  pub words-enough : 14 ≤ length w
  pub method-or-number : ((settings_fine w ≡ false) × (k ≡ 21)) ⊎ ((settings_fine w ≡ true) × SettingsNumber (settings_of w) k)

-- the state is none of the three; the settings before it are good
pub record UnreadState (w : List ℕ) : Type 0 where
  pub words-enough : 14 ≤ length w
  pub method-there : settings_fine w ≡ true
  pub settings-pass : settings_fault (settings_of w) ≡ 0
  pub no-such-state : 2 < num w 9

-- too few words, or the state
abbrev pub UnreadCounters : List ℕ → Type 0
UnreadCounters w = (length w < 14) ⊎ UnreadState w

-- ---- the numbers

-- the number is told exactly where a condition on its place holds, and with that place
pub record Tells (found : Found) (number : ℕ) (Fails : ℕ → Type 0) : Type 0 where
  pub so-where-told : number_told fault_number found ≡ number → Fails (number_told fault_value found)
  pub told-where-so : (p : ℕ) → Fails p → (number_told fault_number found ≡ number) × (number_told fault_value found ≡ p)

-- a condition that has no place tells 0
abbrev pub Placeless : Type 0 → ℕ → Type 0
Placeless P p = P × (p ≡ 0)
