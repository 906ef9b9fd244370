-- Request 2026-13: Barnes-Hut runs in one component that the mirror does not show, a point lying on a centre line, where a tie goes low. Definitions only.
use Rattle.std.specs.Prelude.{◌≡◌, List, [], ◌∷◌, false, ℕ, replicate, Float, Ok}
use Rattle.std.specs.Float.Ieee.{neg}
use Rattle.laws.specs.Loops.{loop}
use Rattle.laws.specs.Area.{at, bits, zero64, one64}
use Rattle.tree_node.specs.Arena.{blank, void}
use Rattle.tree_bounds.specs.Bounds.{box_of}
use Rattle.tree.specs.Insert.{Tree, built}
use Rattle.tree.specs.Box.{boxed}
use Rattle.gradient.specs.Forces.{forces_of}
use Rattle.gradient.specs.Element.{gradients_of}
use Rattle.run_record.specs.declared.Settings.{Settings}
use Rattle.run_record.specs.declared.Method.TheVariants.{BarnesHut}
use Rattle.run_record.specs.Record.{fresh_run}
use Rattle.run_entry.specs.State.{State, state}
use Rattle.run_budget.specs.declared.Answer.TheVariants.{Finished}
use Rattle.run_budget.specs.Budget.{Worked}
use Rattle.prepare.specs.Prepare.{Lent, lent, PrepareOutcome, prepared, memory_of}
use Rattle.descent.specs.Descent.{work}
use Rattle.mirror_values.specs.Shown.{just_one, turned_start}

-- a start in one component, turned
abbrev pub line_turned : List Float → List Float
line_turned start = turned_start (just_one 0) 1 start

-- ---- two points, the fewest that a run may have
-- The first lies on the root's centre line and goes low, the second is above it. In the mirror both go low, and stay together down to the deepest leaf, which acts as one body on each of them

-- 2^-37 and the next value above it: half their sum is rounded to the first
abbrev pub close_pair : List Float
close_pair = bits 0x3da0000000000000 ∷ bits 0x3da0000000000001 ∷ []

-- perplexity, rate and iterations 1, no early stop, angle 0.75
abbrev pub pair_settings : Settings
pair_settings = record { n = 2; f = 1; c = 1; perplexity = one64; rate = one64; iterations = 1; minimum = zero64; angle = bits 0x3fe8000000000000; method = BarnesHut }

-- room for two frames with one neighbour each
abbrev pub pair_areas : Lent
pair_areas = lent (replicate 2 zero64) (replicate 2 zero64) (replicate 2 zero64) (replicate 4 zero64) (replicate 4 0) (replicate 3 0) (replicate 6 zero64) (replicate 2 zero64) (replicate 2 0)

-- the frames 0 and 1, with an arena of 101 nodes
abbrev pub pair_prepared : List Float → PrepareOutcome
pair_prepared start = prepared pair_settings (zero64 ∷ one64 ∷ []) start 101 pair_areas

-- record and areas as preparation leaves them
abbrev pub pair_begun : List Float → State
pair_begun start = state (fresh_run pair_settings) (memory_of (pair_prepared start).areas (replicate 101 void))

-- the one iteration, of 6 units, and what it leaves
abbrev pub pair_worked : List Float → Worked
pair_worked start = work 6 (pair_begun start)

abbrev pub pair_left : List Float → State
pair_left start = (pair_worked start).left

abbrev pub pair_gradient : List Float → ℕ → Float
pair_gradient start e = gradients_of false (pair_left start).memory.forces 2 1 e

-- ---- three points, evenly spaced
-- The middle one lies on the root's centre line and goes low: so it makes one body with the lowest, as the highest sees them. In the mirror it goes low again, and makes one body with the other

abbrev pub three : List Float
three = neg one64 ∷ zero64 ∷ one64 ∷ []

abbrev pub three_tree : List Float → Tree
three_tree y = (built y 1 3 (boxed y 3 1 (replicate 5 blank))).tree

-- the forces of all three, without links, at angle 0.75: attraction, repulsion and share of each
abbrev pub three_forces : List Float → List Float
three_forces y = loop (λ i F. forces_of one64 (bits 0x3fe8000000000000) 1 y [] [] (replicate 4 0) (three_tree y).used (three_tree y).nodes i F) 3 0 (replicate 9 zero64)

-- ---- what the checker computes

-- of a start and of the start turned
pub record PairTold : Type 0 where
  -- both are prepared
  pub ready : ((pair_prepared close_pair).answer ≡ Ok (fresh_run pair_settings)) × ((pair_prepared (line_turned close_pair)).answer ≡ Ok (fresh_run pair_settings))
  -- the call answers that the run has finished, with 6 units, in both
  pub answer : ((pair_worked close_pair).answer ≡ Finished 6) × ((pair_worked (line_turned close_pair)).answer ≡ Finished 6)
  -- the first point lies on the centre line in both
  pub line : (at (box_of close_pair 2 1).centre 0 ≡ at close_pair 0) × (at (box_of (line_turned close_pair) 2 1).centre 0 ≡ at (line_turned close_pair) 0)
  -- nodes in use
  pub nodes : ((pair_left close_pair).run.used ≡ 3) × ((pair_left (line_turned close_pair)).run.used ≡ 101)
  -- the gradients are -22 and 22 times 2^-89; turned they would be 22 and -22, and are 24 and -22
  pub gradient : (pair_gradient close_pair 0 ≡ bits 0xbaa6000000000000) × (pair_gradient (line_turned close_pair) 0 ≡ bits 0x3aa8000000000000)
  pub other : (pair_gradient close_pair 1 ≡ bits 0x3aa6000000000000) × (pair_gradient (line_turned close_pair) 1 ≡ bits 0xbaa6000000000000)
  -- the positions after the iteration are 26 and -25.5 times 2^-89; turned they would be -26 and 25.5, and are -27 and 27.5
  pub positions : (pair_left close_pair).memory.positions ≡ bits 0x3aaa000000000000 ∷ bits 0xbaa9800000000000 ∷ []
  pub positions-turned : (pair_left (line_turned close_pair)).memory.positions ≡ bits 0xbaab000000000000 ∷ bits 0x3aab800000000000 ∷ []

-- the repulsion on the first of the three: -0.33, and in the mirror 2·1.5 / 3.25², 0.284..
pub record ThreeTold : Type 0 where
  pub forward : at (three_forces three) 1 ≡ bits 0xbfd51eb851eb851f
  pub reversed : at (three_forces (line_turned three)) 1 ≡ bits 0x3fd22d719c060f26
