-- Request 2026-13: a state beside the one that the mirror shows of it. Definitions only.
use Rattle.std.specs.Prelude.{◌≡◌, List, Bool, false, ℕ, ◌*◌, ◌%◌, ◌<◌, ◌≤◌, length, Float}
use Rattle.laws.specs.Area.{at}
use Rattle.run_record.specs.Record.{is_tree}
use Rattle.run_entry.specs.State.{Memory, State}
use Rattle.run_units.specs.Units.{Turned}
use Rattle.descent.specs.Descent.{work, works, told_all}
use Rattle.mirror_values.specs.Values.{Opposite}
use Rattle.mirror_values.specs.Shown.{ShowsAll}

-- n points in c components: positions, increments and gradients with the components turned, all else equal to the bit.
-- The total stands in the forces area past the n·c gradients
pub record ShowsMemory (turns : ℕ → Bool) (n c : ℕ) (x y : Memory) : Type 0 where
  pub positions : ShowsAll turns c (n * c) x.positions y.positions
  pub increments : ShowsAll turns c (n * c) x.increments y.increments
  pub forces : ShowsAll turns c (n * c) x.forces y.forces
  pub total : at x.forces (n * c) ≡ at y.forces (n * c)
  pub gains : x.gains ≡ y.gains
  pub affinities : x.affinities ≡ y.affinities
  pub indices : x.indices ≡ y.indices
  pub offsets : x.offsets ≡ y.offsets
  pub nodes : x.nodes ≡ y.nodes

-- exact runs with the same record
pub record ShowsState (turns : ℕ → Bool) (s t : State) : Type 0 where
  pub same-record : s.run ≡ t.run
  pub exact : is_tree s.run.settings.method ≡ false
  pub areas : ShowsMemory turns s.run.settings.n s.run.settings.c s.memory t.memory

-- what a unit leaves and why
pub record ShowsUnit (turns : ℕ → Bool) (x y : Turned) : Type 0 where
  pub why : x.why ≡ y.why
  pub now : ShowsState turns x.now y.now

-- after calls with the budgets bs: the states, the units told, and the answer of any further call
pub record ShowsCalls (turns : ℕ → Bool) (bs : List ℕ) (s t : State) : Type 0 where
  pub left : ShowsState turns (works bs s) (works bs t)
  pub units : told_all bs s ≡ told_all bs t
  pub answer : (b : ℕ) → (work b (works bs s)).answer ≡ (work b (works bs t)).answer

-- ---- one component

-- the first m places in c components: component d turned, all else equal to the bit
pub record TurnedIn (d c m : ℕ) (xs ys : List Float) : Type 0 where
  pub long : length xs ≡ length ys
  pub here : (i : ℕ) → i < m → i % c ≡ d → Opposite (at xs i) (at ys i)
  pub elsewhere : (i : ℕ) → i < m → (i % c ≡ d → ⊥) → at xs i ≡ at ys i
  pub past : (i : ℕ) → m ≤ i → at xs i ≡ at ys i

-- so two states stand beside each other
pub record TurnedState (d : ℕ) (s t : State) : Type 0 where
  pub same-record : s.run ≡ t.run
  pub positions : TurnedIn d s.run.settings.c (s.run.settings.n * s.run.settings.c) s.memory.positions t.memory.positions
  pub increments : TurnedIn d s.run.settings.c (s.run.settings.n * s.run.settings.c) s.memory.increments t.memory.increments
  pub gradients : TurnedIn d s.run.settings.c (s.run.settings.n * s.run.settings.c) s.memory.forces t.memory.forces
  pub total : at s.memory.forces (s.run.settings.n * s.run.settings.c) ≡ at t.memory.forces (s.run.settings.n * s.run.settings.c)
  pub gains : s.memory.gains ≡ t.memory.gains
  pub affinities : s.memory.affinities ≡ t.memory.affinities

-- after calls with the budgets bs: the states, the units told, and the answer of any further call
pub record TurnedCalls (d : ℕ) (bs : List ℕ) (s t : State) : Type 0 where
  pub left : TurnedState d (works bs s) (works bs t)
  pub units : told_all bs s ≡ told_all bs t
  pub answer : (b : ℕ) → (work b (works bs s)).answer ≡ (work b (works bs t)).answer
