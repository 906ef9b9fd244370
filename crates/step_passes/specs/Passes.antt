-- The areas before a step, each element's new values, and the three passes over them. Definitions only.
use Rattle.std.specs.Prelude.{List, Bool, ◌&&◌, ℕ, ◌+◌, ◌*◌, ◌%◌, ◌<◌, ◌≤◌, pos, set, length, Float}
use Rattle.std.specs.Float.{binary64}
use Rattle.std.specs.Float.Ieee.{of_int, add, sub, div}
use Rattle.laws.specs.Loops.{loop, every}
use Rattle.laws.specs.Area.{at, zeros8}
use Rattle.elementary.specs.Limits.{calm}
use Rattle.gradient.specs.Element.{gradient_of}
use Rattle.step_gains.specs.declared.Element.{Element}
use Rattle.step_gains.specs.Gains.{new_of}
use Rattle.step_passes.specs.declared.Areas.{Areas}
use Rattle.step_passes.specs.declared.Pace.{Pace}

-- ---- the areas before the step, and an element's new values

pub record Before : Type 0 where
  pub momentum : Float
  pub rate : Float
  pub gradients : ℕ → Float
  pub positions : List Float
  pub increments : List Float
  pub gains : List Float

abbrev pub before : Float → Float → (ℕ → Float) → List Float → List Float → List Float → Before
before m r d y v g = record { momentum = m; rate = r; gradients = d; positions = y; increments = v; gains = g }

-- the same, with the gradients that the forces area F gives
abbrev pub paced : Pace → ℕ → List Float → List Float → List Float → List Float → Before
paced p c F y v g = before p.momentum p.rate (gradient_of p.exact F p.z c) y v g

-- the same, of the areas that a step is given
abbrev pub areas_before : Areas → Before
areas_before a = paced a.pace a.c a.forces.now a.positions.now a.increments.now a.gains.now

-- there are one to eight components, and the areas are long enough for n frames
abbrev pub AreasFit : ℕ → ℕ → List Float → List Float → List Float → List Float → Type 0
AreasFit n c F y v g = (0 < c) × (c ≤ 8) × (n * (2 * c + 1) ≤ length F) × (n * c ≤ length y) × (n * c ≤ length v) × (n * c ≤ length g)

unfoldable pub element_at : Before → ℕ → Element
unfolding new_of
element_at b e = new_of b.momentum b.rate (b.gradients e) (at b.positions e) (at b.increments e) (at b.gains e)

-- ---- centring: element e belongs to component e % c

abbrev pub sum_step : Before → ℕ → ℕ → List Float → List Float
sum_step b c e s = set s (e % c) (add binary64 (at s (e % c)) (element_at b e).moved)

-- each component's sum starts at +0.0 and runs by rising index
abbrev pub sums_of : Before → ℕ → ℕ → List Float
sums_of b n c = loop (sum_step b c) (n * c) 0 zeros8

abbrev pub mean_step : Float → ℕ → List Float → List Float
mean_step count d s = set s d (div binary64 (at s d) count)

-- the means: the c sums divided by the count
abbrev pub means_of : Before → ℕ → ℕ → List Float
means_of b n c = loop (mean_step (of_int binary64 (pos n))) c 0 (sums_of b n c)

-- a moved position less the mean of its component
unfoldable pub centred_by : List Float → Before → ℕ → ℕ → Float
unfolding element_at
centred_by means b c e = sub binary64 (element_at b e).moved (at means (e % c))

-- ---- the tests and the writing

abbrev pub calm_at : Before → ℕ → Bool
calm_at b e = calm (element_at b e).gain && calm (element_at b e).increment

abbrev pub calm_moves : Before → ℕ → Bool
calm_moves b m = every (calm_at b) m

abbrev pub calm_centred : List Float → Before → ℕ → ℕ → Bool
calm_centred means b c m = every (λ e. calm (centred_by means b c e)) m

abbrev pub position_step : List Float → Before → ℕ → ℕ → List Float → List Float
position_step means b c e y = set y e (centred_by means b c e)

abbrev pub increment_step : Before → ℕ → List Float → List Float
increment_step b e v = set v e (element_at b e).increment

abbrev pub gain_step : Before → ℕ → List Float → List Float
gain_step b e g = set g e (element_at b e).gain
