-- The first three records are fine exactly where settings and counters are in good order. Assumes nothing.
use mathlib.Core.Path.{◌≡◌, refl, ◌∙◌}
use mathlib.Core.Bool.{Bool, true, false, cond, not, ◌&&◌}
use Prim.Native.Nat.{ℕ, ◌*◌, ◌≤◌}
use native.Mathlib.Omega.{arith}
use lib.Dec.{eqb, ltb, leb}
use borrow.Author.Tests.{le-leb}
use Rattle.laws.specs.Domain.{most_axes, most_components, most_features, most_frames, most_iterations}
use Rattle.laws.specs.Area.{bits}
use Rattle.laws.proofs.Bools.{and_left, and_right}
use Rattle.elementary.specs.Limits.{neighbours_of}
use Rattle.run_record.specs.declared.Settings.{Settings}
use Rattle.run_record.specs.Record.{angle_fine, angle_fault, state_fits, GoodSettings}
use Rattle.run_entry.proofs.Laws.{axes}
use Rattle.record_words.specs.RecordWords.{method_of, standing_of}
use Rattle.record_words.proofs.Laws.{method-tree}
use Rattle.parked.specs.Fine.{first_fine, second_fine, third_fine}
use Rattle.parked_file.proofs.Heads.{FirstIn, SecondIn, tree-fine, components-few}

module _ (m n f c p r i a g : ℕ) where
  abbrev pub settings_with : Settings
  settings_with = record { n = n; f = f; c = c; perplexity = bits p; rate = bits r; iterations = i; minimum = bits g; angle = bits a; method = method_of m }

  -- ---- good order is fine

  axes-most : m ≤ 1 → GoodSettings settings_with → c ≤ cond (eqb m 1) most_axes most_components
  axes-most h s = by (eqb m 1) refl
    where
      by : (b : Bool) → eqb m 1 ≡ b → c ≤ cond b most_axes most_components
      by true e = (axes settings_with s (method-tree m h ∙ e)).1
      by false e = s.c-most

  pub first_good : m ≤ 1 → GoodSettings settings_with → first_fine m n f c ≡ true
  unfolding first_fine
  first_good h s = rw (
    le-leb m 1 h,
    le-leb 2 n s.n-some,
    le-leb n most_frames s.n-most,
    le-leb 1 f s.f-some,
    le-leb f most_features s.f-most,
    le-leb 1 c s.c-some,
    le-leb c (cond (eqb m 1) most_axes most_components) (axes-most h s),
  )

  angle-good : m ≤ 1 → GoodSettings settings_with → cond (eqb m 1) (angle_fine (bits (cond (eqb m 1) a 0))) (eqb (cond (eqb m 1) a 0) 0) ≡ true
  unfolding angle_fault
  angle-good h s = by (eqb m 1) refl
    where
      fine : (b : Bool) → ◌≡◌ {A = ℕ} (cond (not b) 5 (cond (ltb most_axes c) 6 0)) 0 → b ≡ true
      fine true e = refl
      fine false e = absurd (omega (arith, e))

      by : (b : Bool) → eqb m 1 ≡ b → cond b (angle_fine (bits (cond b a 0))) (eqb (cond b a 0) 0) ≡ true
      by true e = fine (angle_fine (bits a)) (rw (method-tree m h ∙ e) at s.tree-fine)
      by false e = refl

  -- of an exact run the angle is written as zero bits
  pub second-good : m ≤ 1 → GoodSettings settings_with → second_fine m n p r i (cond (eqb m 1) a 0) ≡ true
  unfolding second_fine
  second-good h s = rw (s.perplexity-positive, s.perplexity-below, s.rate-positive, le-leb 1 i s.iterations-some, le-leb i most_iterations s.iterations-most) (angle-good h s)

  -- ---- fine is good order

  pub good-settings : FirstIn m n f c → SecondIn m n p r i a → GoodSettings settings_with
  good-settings x y = record {
    c-some = x.c-some;
    c-most = components-few m c x.c-most;
    perplexity-positive = y.perplexity-positive;
    rate-positive = y.rate-positive;
    iterations-some = y.iterations-some;
    iterations-most = y.iterations-most;
    tree-fine = tree-fine m c a x.c-most y.angle-fine x.method;
    n-some = x.n-some;
    n-most = x.n-most;
    f-some = x.f-some;
    f-most = x.f-most;
    perplexity-below = y.perplexity-below;
  }

-- ---- the third record

module _ (m n p i g d s k : ℕ) where
  pub record ThirdFacts : Type 0 where
    pub s-most : leb s 2 ≡ true
    pub state-fits : state_fits (standing_of s) d i 0 (bits g) ≡ true
    pub links-most : cond (eqb m 1) (leb k (2 * n * neighbours_of (bits p) n)) (eqb k 0) ≡ true

  pub third-facts : third_fine m n p i g d s k ≡ true → ThirdFacts
  unfolding third_fine
  third-facts e =
      let S = leb s 2 in
      let T = state_fits (standing_of s) d i 0 (bits g) in
      let L = cond (eqb m 1) (leb k (2 * n * neighbours_of (bits p) n)) (eqb k 0) in
      record {
        s-most = and_left S T (and_left (S && T) L e);
        state-fits = and_right S T (and_left (S && T) L e);
        links-most = and_right (S && T) L e;
      }

  pub third-good : ThirdFacts → third_fine m n p i g d s k ≡ true
  unfolding third_fine
  third-good x = rw (x.s-most, x.state-fits, x.links-most)
