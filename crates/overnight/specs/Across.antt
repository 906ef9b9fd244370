-- A run that was parked, and read back at the border of two iterations, beside the run that was not. Definitions only.
use Rattle.std.specs.Prelude.{◌≡◌, List, true, false, cond, ℕ, ◌+◌, ◌*◌, ◌<◌, ◌≤◌, length, Float}
use Rattle.laws.specs.Area.{at, num}
use Rattle.run_record.specs.declared.Settings.{Settings}
use Rattle.run_record.specs.declared.Run.{Run}
use Rattle.run_record.specs.Record.{is_tree}
use Rattle.tree_node.specs.declared.Node.{Node}
use Rattle.tree_node.specs.Arena.{node_at}
use Rattle.run_entry.specs.State.{State}

-- ---- the record

-- other settings of the same run: the angle, which an exact run does not look at
abbrev pub reangled : Float → Settings → Settings
reangled a s = record { n = s.n; f = s.f; c = s.c; perplexity = s.perplexity; rate = s.rate; iterations = s.iterations; minimum = s.minimum; angle = a; method = s.method }

-- the same record but for its angle and its nodes in use
abbrev pub reread : Float → ℕ → Run → Run
reread a used r = record { settings = reangled a r.settings; standing = r.standing; done = r.done; phase = r.phase; units = r.units; used = used }

-- ---- the areas

-- two areas hold the same at the first m places
abbrev pub SameTo : ℕ → List Float → List Float → Type 0
SameTo m l l' = (k : ℕ) → k < m → at l k ≡ at l' k

-- l and l' hold the same wherever a and a' did
abbrev pub SameAs : List Float → List Float → List Float → List Float → Type 0
SameAs a a' l l' = (k : ℕ) → at a k ≡ at a' k → at l k ≡ at l' k

-- .. and are as long as each other where these were
pub record Kept (a a' l l' : List Float) : Type 0 where
  pub each : SameAs a a' l l'
  pub long : length a ≡ length a' → length l ≡ length l'

-- offsets, and the links listed; slots past them may hold anything
pub record SameLists (n : ℕ) (W W' : List Float) (I I' O O' : List ℕ) : Type 0 where
  pub offsets : (k : ℕ) → k ≤ n → num O k ≡ num O' k
  pub indices : (k : ℕ) → k < num O n → num I k ≡ num I' k
  pub weights : SameTo (num O n) W W'

-- as many nodes in use, and the same ones; the others may hold anything
pub record SameNodes (used used' : ℕ) (ns ns' : List Node) : Type 0 where
  pub number : used ≡ used'
  pub each : (k : ℕ) → k < used → node_at ns k ≡ node_at ns' k

-- the places of the forces that an iteration writes: of an exact run the gradients and the total
abbrev pub force_places : Settings → ℕ
force_places s = cond (is_tree s.method) (s.n * (2 * s.c + 1)) (s.n * s.c + 1)

-- ---- what a run and one that was read from its file have in common

pub record SameRun (s t : State) : Type 0 where
  pub record_same : t.run ≡ reread t.run.settings.angle t.run.used s.run
  pub angle : is_tree s.run.settings.method ≡ true → t.run.settings.angle ≡ s.run.settings.angle
  pub positions : SameTo (s.run.settings.n * s.run.settings.c) s.memory.positions t.memory.positions
  pub increments : SameTo (s.run.settings.n * s.run.settings.c) s.memory.increments t.memory.increments
  pub gains : SameTo (s.run.settings.n * s.run.settings.c) s.memory.gains t.memory.gains
  pub lists : is_tree s.run.settings.method ≡ true → SameLists s.run.settings.n s.memory.affinities t.memory.affinities s.memory.indices
      t.memory.indices s.memory.offsets t.memory.offsets
  pub matrix : is_tree s.run.settings.method ≡ false → SameTo (s.run.settings.n * s.run.settings.n) s.memory.affinities t.memory.affinities
  -- an arena as long as before
  pub arena : length s.memory.nodes ≡ length t.memory.nodes

-- s is parked between two iterations, and t is what was read
pub record ReadBack (s t : State) : Type 0 where
  pub same : SameRun s t
  pub border : s.run.phase ≡ 0

-- forces and used nodes are the same, too; of a Barnes-Hut run the whole record is
pub record SameForces (s t : State) : Type 0 where
  pub places : SameTo (force_places s.run.settings) s.memory.forces t.memory.forces
  pub nodes : is_tree s.run.settings.method ≡ true → SameNodes s.run.used t.run.used s.memory.nodes t.memory.nodes
  pub whole-record : is_tree s.run.settings.method ≡ true → t.run ≡ s.run

-- s was parked and t read; s' and t' are what calls have left of them
pub record Across (s t s' t' : State) : Type 0 where
  pub same : SameRun s' t'
  -- from the next finish unit on
  pub finished : s.run.done < s'.run.done → SameForces s' t'
  -- areas whose tails were the same have the same tails: where they were one, they are one (`kept_whole`)
  pub kept-positions : Kept s.memory.positions t.memory.positions s'.memory.positions t'.memory.positions
  pub kept-increments : Kept s.memory.increments t.memory.increments s'.memory.increments t'.memory.increments
  pub kept-gains : Kept s.memory.gains t.memory.gains s'.memory.gains t'.memory.gains
  pub kept-forces : Kept s.memory.forces t.memory.forces s'.memory.forces t'.memory.forces
  -- an exact run writes no nodes in use
  pub kept-used : s.run.used ≡ t.run.used → s'.run.used ≡ t'.run.used
