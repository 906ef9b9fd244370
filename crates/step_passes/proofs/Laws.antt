-- What the three passes of the step keep, a record each: a turn, and the ends. Assumes nothing.
use mathlib.Core.Path.{◌≡◌, sym, ◌∙◌, ap}
use mathlib.Core.List.{List}
use mathlib.Core.Bool.{Bool, true, false, ◌&&◌}
use Prim.Native.Nat.{ℕ, ◌+◌, ◌%◌, ◌<◌, ◌≤◌}
use native.Mathlib.Omega.{arith}
use native.Mathlib.Nat.{mod-lt, lt_of_lt_of_le, le_antisymm}
use lib.ListN.{set}
use lib.Ieee.{Float, nan, binary64, add, sub}
use Rattle.laws.specs.Loops.{loop, every}
use Rattle.laws.proofs.Ahead.{Ahead, ahead-start, ahead-next}
use Rattle.laws.specs.Area.{at}
use Rattle.laws.proofs.Loops.{Loops, loop-start, loop-next, loop-done}
use Rattle.laws.proofs.Every.{every-none, every-step, every-next, every-no, every-done}
use Rattle.elementary.specs.Limits.{calm}
use Rattle.step_gains.specs.declared.Element.{Element}
use Rattle.step_passes.specs.Passes.{Before, before, element_at, centred_by, sum_step, calm_at, calm_moves, calm_centred, position_step, increment_step, gain_step}

pub component-in : (e c : ℕ) → 0 < c → c ≤ 8 → e % c < 8
component-in e c h l = lt_of_lt_of_le (mod-lt e h) l

-- ---- pass 1

pub record Summed (b : Before) (c m : ℕ) (s₀ : List Float) (e : ℕ) (s : List Float) (so_far : Bool) : Type 0 where
  pub calmly : so_far ≡ every (calm_at b) e
  pub sums : Loops (sum_step b c) m s₀ e s

pub summed-start : (b : Before) (c m : ℕ) (s : List Float) → Summed b c m s 0 s true
summed-start b c m s = record { calmly = sym (every-none _); sums = loop-start _ _ _ }

pub summed-next : {b : Before} {c m : ℕ} {s₀ s : List Float} {e : ℕ} {so_far t : Bool} {x : Element} → Summed b c m s₀ e s so_far → e < m → x ≡ element_at b e
    → t ≡ so_far && (calm x.gain && calm x.increment) → Summed b c m s₀ (e + 1) (set s (e % c) (add binary64 (at s (e % c)) x.moved)) t
summed-next {b} {c} {m} {s₀} {s} {e} {so_far} {t} {x} r l p q = record {
  calmly = rw (every-step (calm_at b) e, sym p, sym r.calmly) q;
  sums = rw p (loop-next r.sums l);
}

pub summed-done : {b : Before} {c m : ℕ} {s₀ s : List Float} {e : ℕ} {so_far : Bool} → Summed b c m s₀ e s so_far → m ≤ e → (so_far ≡ calm_moves b m) × (s ≡ loop (sum_step b c) m 0 s₀)
summed-done {b} {c} {m} {s₀} {s} {e} r l = (r.calmly ∙ ap (every (calm_at b)) (le_antisymm r.sums.within l), loop-done r.sums l)

-- ---- pass 2

pub record Tested (means : List Float) (b : Before) (c m e : ℕ) : Type 0 where
  pub within : e ≤ m
  pub calmly : every (λ e. calm (centred_by means b c e)) e ≡ true

pub tested-start : (means : List Float) (b : Before) (c m : ℕ) → Tested means b c m 0
tested-start means b c m = record { within = omega arith; calmly = every-none _ }

centred-is : (means : List Float) (b : Before) (c e : ℕ) {x : Element} → x ≡ element_at b e → sub binary64 x.moved (at means (e % c)) ≡ centred_by means b c e
unfolding centred_by
centred-is means b c e p = rw p

pub tested-next : {means : List Float} {b : Before} {c m e : ℕ} {x : Element} → Tested means b c m e → e < m → x ≡ element_at b e
    → calm (sub binary64 x.moved (at means (e % c))) ≡ true → Tested means b c m (e + 1)
tested-next {means} {b} {c} {m} {e} r l p h = record { within = omega arith; calmly = every-next (λ e. calm (centred_by means b c e)) e r.calmly (rw (sym (centred-is means b c e p)) h) }

pub tested-no : {means : List Float} {b : Before} {c m e : ℕ} {x : Element} → Tested means b c m e → e < m → x ≡ element_at b e
    → calm (sub binary64 x.moved (at means (e % c))) ≡ false → false ≡ calm_centred means b c m
tested-no {means} {b} {c} {m} {e} r l p h = sym (every-no (λ e. calm (centred_by means b c e)) m e l (rw (sym (centred-is means b c e p)) h))

pub tested-done : {means : List Float} {b : Before} {c m e : ℕ} → Tested means b c m e → m ≤ e → true ≡ calm_centred means b c m
tested-done {means} {b} {c} {m} {e} r l = every-done (λ e. calm (centred_by means b c e)) m e r.calmly r.within l

-- ---- pass 3: an area that is written from the front, and is as it was from e on

pub record Written (means : List Float) (b : Before) (c m e : ℕ) (y v g : List Float) : Type 0 where
  pub positions : Loops (position_step means b c) m b.positions e y
  pub increments : Loops (increment_step b) m b.increments e v
  pub gains : Loops (gain_step b) m b.gains e g
  pub ahead-y : Ahead nan b.positions y e
  pub ahead-v : Ahead nan b.increments v e
  pub ahead-g : Ahead nan b.gains g e

pub written_start : (means : List Float) (b : Before) (c m : ℕ) → Written means b c m 0 b.positions b.increments b.gains
written_start means b c m = record {
  positions = loop-start _ _ _;
  increments = loop-start _ _ _;
  gains = loop-start _ _ _;
  ahead-y = ahead-start _ _;
  ahead-v = ahead-start _ _;
  ahead-g = ahead-start _ _;
}

-- what stands ahead gives the same element
element-ahead : (b : Before) (e : ℕ) (y v g : List Float) → at y e ≡ at b.positions e → at v e ≡ at b.increments e → at g e ≡ at b.gains e →
    element_at (before b.momentum b.rate b.gradients y v g) e ≡ element_at b e
unfolding element_at
element-ahead b e y v g p q r = rw (p, q, r)

pub written_next : {means : List Float} {b : Before} {c m e : ℕ} {y v g : List Float} {x : Element} → Written means b c m e y v g → e < m
    → x ≡ element_at (before b.momentum b.rate b.gradients y v g) e
    → Written means b c m (e + 1) (set y e (sub binary64 x.moved (at means (e % c)))) (set v e x.increment) (set g e x.gain)
written_next {means} {b} {c} {m} {e} {y} {v} {g} {x} w l q =
    let p : x ≡ element_at b e = q ∙ element-ahead b e y v g (w.ahead-y.same e (omega arith)) (w.ahead-v.same e (omega arith)) (w.ahead-g.same e (omega arith)) in
    record {
      positions = rw (centred-is means b c e p) (loop-next w.positions l);
      increments = rw p (loop-next w.increments l);
      gains = rw p (loop-next w.gains l);
      ahead-y = ahead-next _ w.ahead-y;
      ahead-v = ahead-next _ w.ahead-v;
      ahead-g = ahead-next _ w.ahead-g;
    }

pub written-done : {means : List Float} {b : Before} {c m e : ℕ} {y v g : List Float} → Written means b c m e y v g → m ≤ e
    → (y ≡ loop (position_step means b c) m 0 b.positions) × (v ≡ loop (increment_step b) m 0 b.increments) × (g ≡ loop (gain_step b) m 0 b.gains)
written-done w l = (loop-done w.positions l, loop-done w.increments l, loop-done w.gains l)
