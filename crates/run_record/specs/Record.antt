-- Settings and run record: the tests of a work call, and what a unit does to the record. Definitions only.
use Rattle.std.specs.Prelude.{◌≡◌, Bool, true, false, cond, not, ◌&&◌, ◌||◌, ℕ, suc, ◌+◌, ◌*◌, ◌≤◌, eqb, ltb, leb, pos, Float}
use Rattle.std.specs.Float.{binary64}
use Rattle.std.specs.Float.Ieee.{of_int, lt, le}
use Rattle.laws.specs.Domain.{early_iterations, most_axes, most_components, most_features, most_frames, most_iterations}
use Rattle.laws.specs.Area.{bits, zero64, one64}
use Rattle.elementary.specs.Limits.{neighbours_of}
use Rattle.run_record.specs.declared.Method.{Method}
use Rattle.run_record.specs.declared.Method.TheVariants.{Exact, BarnesHut}
use Rattle.run_record.specs.declared.Standing.{Standing}
use Rattle.run_record.specs.declared.Standing.TheVariants.{Running, Stopped, Finished}
use Rattle.run_record.specs.declared.Settings.{Settings}
use Rattle.run_record.specs.declared.Run.{Run}
use Rattle.run_record.specs.declared.Sizes.{Sizes}

abbrev pub largest : Float
largest = bits 0x7fefffffffffffff

-- finite and above 0
unfoldable pub positive : Float → Bool
positive x = lt zero64 x && le x largest

unfoldable pub above_zero : Float → Bool
above_zero x = lt zero64 x

abbrev pub is_tree : Method → Bool
is_tree Exact = false
is_tree BarnesHut = true

abbrev pub is_ended : Standing → Bool
is_ended Running = false
is_ended Stopped = true
is_ended Finished = true

-- ---- settings

-- an angle in [0, 1); −0.0 is inside
unfoldable pub angle_fine : Float → Bool
angle_fine a = le zero64 a && lt a one64

-- 5 and 6
unfoldable pub angle_fault : Method → Float → ℕ → ℕ
angle_fault m a c = cond (is_tree m) (cond (not (angle_fine a)) 5 (cond (ltb most_axes c) 6 0)) 0

-- 1 to 6, and 7 for n or f: from the last test up
abbrev pub from7 : Settings → ℕ
from7 s = cond (eqb s.n 0 || ltb most_frames s.n || (eqb s.f 0 || ltb most_features s.f)) 7 0

abbrev pub from5 : Settings → ℕ
from5 s = cond (not (eqb (angle_fault s.method s.angle s.c) 0)) (angle_fault s.method s.angle s.c) (from7 s)

abbrev pub from4 : Settings → ℕ
from4 s = cond (eqb s.iterations 0 || ltb most_iterations s.iterations) 4 (from5 s)

abbrev pub from3 : Settings → ℕ
from3 s = cond (not (positive s.rate)) 3 (from4 s)

abbrev pub from2 : Settings → ℕ
from2 s = cond (not (positive s.perplexity)) 2 (from3 s)

unfoldable pub early_fault : Settings → ℕ
early_fault s = cond (eqb s.c 0 || ltb most_components s.c) 1 (from2 s)

-- 9, and 10 where the perplexity is not below n
unfoldable pub late_fault : Settings → ℕ
late_fault s = cond (eqb s.n 1) 9 (cond (lt s.perplexity (of_int binary64 (pos s.n))) 0 10)

-- the number that 1 to 6, 7 for n or f, 9 or 10 would give; 0: none
unfoldable pub settings_fault : Settings → ℕ
settings_fault s = cond (not (eqb (early_fault s) 0)) (early_fault s) (late_fault s)

-- ---- counters

-- the units of an iteration
unfoldable pub per_of : Method → ℕ → ℕ
per_of m n = cond (is_tree m) (2 * n + 2) (2 * n + 1)

-- the most that an iteration has, and a run
abbrev pub most_per : ℕ
most_per = 2 * most_frames + 2

abbrev pub most_units : ℕ
most_units = most_iterations * most_per

unfoldable pub state_fits : Standing → ℕ → ℕ → ℕ → Float → Bool
state_fits Running done set phase least = ltb done set
state_fits Stopped done set phase least = leb (suc early_iterations) done && leb done set && above_zero least && eqb phase 0
state_fits Finished done set phase least = eqb done set && eqb phase 0

unfoldable pub counters_ok : Run → Bool
counters_ok r =
    state_fits r.standing r.done r.settings.iterations r.phase r.settings.minimum
    && ltb r.phase (per_of r.settings.method r.settings.n)
    && eqb r.units (r.done * per_of r.settings.method r.settings.n + r.phase)

-- ---- where a run begins

-- no unit is done, no node in use
unfoldable pub fresh_run : Settings → Run
fresh_run s = record { settings = s; standing = Running; done = 0; phase = 0; units = 0; used = 0 }

-- ---- what a unit does to the record

unfoldable pub advanced_of : Run → ℕ → Run
advanced_of r used = record { settings = r.settings; standing = r.standing; done = r.done; phase = r.phase + 1; units = r.units + 1; used = used }

-- the norm is below the minimum, from iteration 250 on
unfoldable pub stops_now : Run → Float → Bool
stops_now r norm = leb early_iterations r.done && above_zero r.settings.minimum && lt norm r.settings.minimum

-- how a run stands after an iteration more
abbrev pub standing_after : Run → Float → Standing
standing_after r norm = cond (stops_now r norm) Stopped (cond (eqb (r.done + 1) r.settings.iterations) Finished Running)

unfoldable pub closed_of : Run → Float → Run
closed_of r norm = record {
  settings = r.settings;
  standing = cond (stops_now r norm) Stopped (cond (eqb (r.done + 1) r.settings.iterations) Finished Running);
  done = r.done + 1;
  phase = 0;
  units = r.units + 1;
  used = r.used;
}

-- ---- sizes

-- neighbours in a list
abbrev pub k_of : Settings → ℕ
k_of s = neighbours_of s.perplexity s.n

unfoldable pub sizes_of : Settings → Sizes
sizes_of s = record { cells = s.n * s.c; forces = s.n * (2 * s.c + 1); links = 2 * s.n * k_of s; square = s.n * s.n }

-- ---- settings in good order

pub record GoodSettings (s : Settings) : Type 0 where
  pub c-some : 1 ≤ s.c
  pub c-most : s.c ≤ most_components
  pub perplexity-positive : positive s.perplexity ≡ true
  pub rate-positive : positive s.rate ≡ true
  pub iterations-some : 1 ≤ s.iterations
  pub iterations-most : s.iterations ≤ most_iterations
  pub tree-fine : angle_fault s.method s.angle s.c ≡ 0
  pub n-some : 2 ≤ s.n
  pub n-most : s.n ≤ most_frames
  pub f-some : 1 ≤ s.f
  pub f-most : s.f ≤ most_features
  pub perplexity-below : lt s.perplexity (of_int binary64 (pos s.n)) ≡ true
