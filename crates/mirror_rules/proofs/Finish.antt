-- The finish in the mirror: the tests of 15 and the largest gradient are equal to the bit, increments and centred positions are shown as they were. Assumes nothing.
use mathlib.Core.Path.{◌≡◌, refl, sym, ap, ◌∙◌}
use mathlib.Core.List.{List}
use mathlib.Core.Bool.{Bool, cond, ◌&&◌}
use Prim.Native.Nat.{ℕ, ◌*◌, ◌%◌, ◌<◌}
use native.Mathlib.Omega.{arith}
use native.Mathlib.Nat.{mod-lt, mod-mod, mul-zero}
use native.Mathlib.Decide.{ℕ_discrete}
use lib.IntN.{pos}
use lib.ListN.{set}
use lib.Ieee.{Float, binary64, of_int, add, sub, mul, div}
use Rattle.laws.specs.Loops.{loop}
use Rattle.laws.specs.Area.{at, zero64, zeros8}
use Rattle.laws.proofs.Loops.{loop-same}
use Rattle.laws.proofs.Every.{every-same}
use Rattle.laws.proofs.Bools.{by_bool}
use Rattle.elementary.specs.Limits.{unless_above, huge, calm}
use Rattle.gradient.specs.Element.{norm_step, norm_of}
use Rattle.step_gains.specs.Gains.{gain_of, increment_of, new_of}
use Rattle.step_passes.specs.Passes.{Before, element_at, sum_step, sums_of, mean_step, means_of, centred_by, calm_at, calm_moves, calm_centred, position_step, increment_step, gain_step}
use Rattle.std.specs.Prelude.{Ok, Err}
use Rattle.step.specs.Step.{StepOutcome, step_outcome, finish_of}
use Rattle.mirror_values.specs.Values.{Shows}
use Rattle.mirror_values.specs.Shown.{ShowsAll}
use Rattle.mirror_values.proofs.Shows.{shows-add, shows-sub, shows-scaled, shows-div, shows-up-to, shows-abs}
use Rattle.mirror_values.proofs.Areas.{loop-both, put-shown}
use Rattle.mirror_rules.specs.Sides.{ShowsElement, ShowsBefore, ShowsOutcome}
use Rattle.mirror_rules.proofs.Gradients.{zeros-shown}
use Rattle.mirror_rules.proofs.Steps.{gain-same}

-- ---- one element

pub increment-shown : {b : Bool} {d d' v v' : Float} (m r g : Float) → Shows b d d' → Shows b v v' → Shows b (increment_of m r g d v) (increment_of m r g d' v')
unfolding increment_of
increment-shown m r g p q = shows-sub (shows-scaled m q) (shows-scaled (mul binary64 r g) p)

-- ---- a whole step

-- what it leaves, done and refused
abbrev went : ℕ → ℕ → Before → StepOutcome
went n c b = step_outcome (Ok tt) (loop (position_step (means_of b n c) b c) (n * c) 0 b.positions) (loop (increment_step b) (n * c) 0 b.increments) (loop (gain_step b) (n * c) 0 b.gains)

abbrev unmoved : Before → StepOutcome
unmoved b = step_outcome (Err 15) b.positions b.increments b.gains

module _ (turns : ℕ → Bool) (n c : ℕ) (b b' : Before) (r : ShowsBefore turns n c b b') where
  gain-is : (b : Before) (e : ℕ) → (element_at b e).gain ≡ gain_of (at b.gains e) (b.gradients e) (at b.increments e)
  unfolding element_at new_of
  gain-is b e = refl

  increment-is : (b : Before) (e : ℕ) → (element_at b e).increment ≡ increment_of b.momentum b.rate (element_at b e).gain (b.gradients e) (at b.increments e)
  unfolding element_at new_of
  increment-is b e = refl

  moved-is : (b : Before) (e : ℕ) → (element_at b e).moved ≡ add binary64 (at b.positions e) (element_at b e).increment
  unfolding element_at new_of
  moved-is b e = refl

  pub element-shown : (e : ℕ) → e < n * c → ShowsElement (turns (e % c)) (element_at b e) (element_at b' e)
  element-shown e h =
      let d = r.gradients e h in
      let v = r.increments.shown e h in
      let g : (element_at b e).gain ≡ (element_at b' e).gain = gain-is b e ∙
      ap (λ (l : List Float). gain_of (at l e) (b.gradients e) (at b.increments e)) r.gains ∙ gain-same (at b'.gains e) d v ∙ sym (gain-is b' e) in
      let i : Shows (turns (e % c)) (element_at b e).increment (element_at b' e).increment = rw (increment-is b e, increment-is b' e, g, r.momentum, r.rate)
      (increment-shown b'.momentum b'.rate (element_at b' e).gain d v) in
      record { gain = g; increment = i; moved = rw (moved-is b e, moved-is b' e) (shows-add (r.positions.shown e h) i) }

  -- ---- centring

  -- there are components where there are elements
  some : {e : ℕ} → e < n * c → 0 < c
  some {e} h = elim (ℕ_discrete c 0) [
    | yes q ↦ absurd (let z : n * c ≡ 0 = rw (q, mul-zero n) in omega arith)
    | no q ↦ omega arith
  ]

  sums-shown : ShowsAll turns c c (sums_of b n c) (sums_of b' n c)
  sums-shown = loop-both (ShowsAll turns c c) (sum_step b c) (sum_step b' c) (n * c) 0 zeros8 zeros8
      (λ e s s' _ l z. add-one e s s' (omega arith) z)
      (zeros-shown turns c)
    where
      add-one : (e : ℕ) (s s' : List Float) → e < n * c → ShowsAll turns c c s s' → ShowsAll turns c c (sum_step b c e s) (sum_step b' c e s')
      add-one e s s' h z =
          let m : e % c < c = mod-lt e (some h) in
          put-shown z (e % c) (add binary64 (at s (e % c)) (element_at b e).moved) (add binary64 (at s' (e % c)) (element_at b' e).moved) m
          (shows-add (z.shown (e % c) m) (rw (mod-mod e c) (element-shown e h).moved))

  pub means-shown : ShowsAll turns c c (means_of b n c) (means_of b' n c)
  means-shown = loop-both (ShowsAll turns c c) (mean_step (of_int binary64 (pos n))) (mean_step (of_int binary64 (pos n))) c 0 (sums_of b n c) (sums_of b' n c)
      (λ d s s' _ l z. put-shown z d (div binary64 (at s d) (of_int binary64 (pos n))) (div binary64 (at s' d) (of_int binary64 (pos n))) (omega arith)
      (shows-div (of_int binary64 (pos n)) (z.shown d (omega arith))))
      sums-shown

  centred-is : (b : Before) (means : List Float) (e : ℕ) → centred_by means b c e ≡ sub binary64 (element_at b e).moved (at means (e % c))
  unfolding centred_by
  centred-is b means e = refl

  pub centred-shown : (e : ℕ) → e < n * c → Shows (turns (e % c)) (centred_by (means_of b n c) b c e) (centred_by (means_of b' n c) b' c e)
  centred-shown e h =
      let m : e % c < c = mod-lt e (some h) in
      let p : Shows (turns (e % c)) (at (means_of b n c) (e % c)) (at (means_of b' n c) (e % c)) = rw (mod-mod e c) at (means-shown.shown (e % c) m) in
      rw (centred-is b (means_of b n c) e, centred-is b' (means_of b' n c) e) (shows-sub (element-shown e h).moved p)

  -- ---- 15 is met by both or by neither

  pub calm-same : (calm_moves b (n * c) && calm_centred (means_of b n c) b c (n * c)) ≡ (calm_moves b' (n * c) && calm_centred (means_of b' n c) b' c (n * c))
  calm-same = rw (
    every-same (calm_at b) (calm_at b') (n * c) (λ e l. let x = element-shown e l in rw (x.gain, shows-up-to x.increment huge)),
    every-same (λ e. calm (centred_by (means_of b n c) b c e)) (λ e. calm (centred_by (means_of b' n c) b' c e)) (n * c) (λ e l. shows-up-to (centred-shown e l) huge),
  )

  -- ---- what is written

  gains-same : loop (gain_step b) (n * c) 0 b.gains ≡ loop (gain_step b') (n * c) 0 b'.gains
  gains-same = ap (loop (gain_step b) (n * c) 0) r.gains ∙ loop-same (gain_step b) (gain_step b') (n * c) 0 b'.gains (λ e l _ h. ap (set l e) (element-shown e (omega arith)).gain)

  finish-shape : (b : Before) → finish_of b n c ≡ cond (calm_moves b (n * c) && calm_centred (means_of b n c) b c (n * c)) (went n c b) (unmoved b)
  unfolding finish_of
  finish-shape b = refl

  pub step-shown : ShowsOutcome turns n c (finish_of b n c) (finish_of b' n c)
  step-shown = rw (finish-shape b, finish-shape b') (by_bool
      (ShowsOutcome turns n c
      (cond (calm_moves b (n * c) && calm_centred (means_of b n c) b c (n * c)) (went n c b) (unmoved b))
      (cond (calm_moves b' (n * c) && calm_centred (means_of b' n c) b' c (n * c)) (went n c b') (unmoved b')))
      (calm_moves b' (n * c) && calm_centred (means_of b' n c) b' c (n * c))
      (λ t. rw (calm-same, t) (record {
        answer = refl;
        positions = loop-both (ShowsAll turns c (n * c)) (position_step (means_of b n c) b c) (position_step (means_of b' n c) b' c) (n * c) 0 b.positions b'.positions
            (λ e y y' _ l z. put-shown z e (centred_by (means_of b n c) b c e) (centred_by (means_of b' n c) b' c e) (omega arith) (centred-shown e (omega arith)))
            r.positions;
        increments = loop-both (ShowsAll turns c (n * c)) (increment_step b) (increment_step b') (n * c) 0 b.increments b'.increments
            (λ e v v' _ l z. put-shown z e (element_at b e).increment (element_at b' e).increment (omega arith) (element-shown e (omega arith)).increment)
            r.increments;
        gains = gains-same;
      }))
      (λ t. rw (calm-same, t) (record { answer = refl; positions = r.positions; increments = r.increments; gains = r.gains })))

-- ---- the largest gradient

pub norm-same : (turns : ℕ → Bool) (c m : ℕ) (g g' : ℕ → Float) → ((e : ℕ) → e < m → Shows (turns (e % c)) (g e) (g' e)) → norm_of g m ≡ norm_of g' m
unfolding norm_of
norm-same turns c m g g' h = loop-same (norm_step g) (norm_step g') m 0 zero64 (λ e x a l. ap (λ (z : Float). unless_above x z) (shows-abs (h e (omega arith))))
