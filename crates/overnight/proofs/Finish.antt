-- The finish does the same on both: the same gradients, means, tests and norm, and so the same step or the same refusal. Assumes nothing.
use mathlib.Core.Path.{◌≡◌, refl, sym, ap, ◌∙◌}
use mathlib.Core.List.{List}
use mathlib.Core.Bool.{Bool, true, false, not, ◌&&◌}
use Prim.Native.Nat.{ℕ, ◌+◌, ◌*◌, ◌%◌, ◌<◌, ◌≤◌}
use native.Mathlib.Omega.{arith}
use native.Mathlib.Nat.{le_refl}
use lib.IntN.{pos}
use lib.ListN.{length, set}
use lib.Ieee.{Float, binary64, of_int, add, sub, mul, div}
use Rattle.laws.specs.Area.{at, zero64, zeros8}
use Rattle.laws.specs.Loops.{loop}
use Rattle.laws.proofs.Loops.{loop-same}
use Rattle.laws.proofs.Bools.{by_bool}
use Rattle.laws.proofs.Every.{every-same}
use Rattle.laws.proofs.Numbers.{row_in}
use Rattle.laws.proofs.Written.{written-size}
use Rattle.elementary.specs.Limits.{unless_above, abs_of, calm}
use Rattle.run_record.specs.declared.Run.{Run}
use Rattle.run_record.specs.Record.{is_tree, closed_of}
use Rattle.run_plan.specs.Plan.{momentum_of}
use Rattle.gradient_pairs.specs.Exact.{share_floor}
use Rattle.gradient.specs.Exact.{four64}
use Rattle.gradient.specs.Forces.{place_of}
use Rattle.gradient.specs.Element.{share_step, normaliser_of, spot_of, gradient_of, gradients_of, norm_step, norm_of}
use Rattle.gradient.proofs.Spots.{spot-of}
use Rattle.step_gains.specs.declared.Element.{Element}
use Rattle.step_passes.specs.Passes.{Before, element_at, sum_step, mean_step, means_of, centred_by, calm_at, calm_moves, calm_centred, position_step, increment_step, gain_step}
use Rattle.step.specs.Step.{finish_of}
use Rattle.run_finish.specs.declared.Halt.TheVariants.{Wild}
use Rattle.std.specs.Prelude.{Ok, Err}
use Rattle.run_finish.specs.Finish.{is_exact, before_of, FinishTurn, finish_turn, finish_unit}
use Rattle.overnight.specs.Across.{reread, SameTo, Kept}
use Rattle.overnight.proofs.Writes.{puts-alike, puts-there}

-- ---- gradients

module _ (n c : ℕ) (F F' : List Float) (some : 0 < c) (same : SameTo (n * (2 * c + 1)) F F') where
  normaliser-same : normaliser_of F n c ≡ normaliser_of F' n c
  unfolding normaliser_of
  normaliser-same = ap (unless_above share_floor)
      (loop-same (share_step F c) (share_step F' c) n 0 zero64 (λ i s a b. ap (add binary64 s)
      (same (place_of c i + 2 * c) (omega (arith, row_in i n (2 * c + 1) (n * (2 * c + 1)) (omega arith) (le_refl (n * (2 * c + 1))))))))

  element-tree : (e : ℕ) → e < n * c →
      mul binary64 four64 (sub binary64 (at F (spot_of c e)) (div binary64 (at F (spot_of c e + c)) (normaliser_of F n c))) ≡ mul binary64 four64
      (sub binary64 (at F' (spot_of c e)) (div binary64 (at F' (spot_of c e + c)) (normaliser_of F' n c)))
  element-tree e l =
      let s = spot-of n c e (n * (2 * c + 1)) some l (le_refl (n * (2 * c + 1))) in
      rw (same (spot_of c e) (omega (arith, s.row, s.part)), same (spot_of c e + c) (omega (arith, s.row, s.part)), normaliser-same)

gradients-same : (b : Bool) (n c : ℕ) (F F' : List Float) → 0 < c → (b ≡ false → SameTo (n * (2 * c + 1)) F F') → (b ≡ true → SameTo (n * c) F F') → (e : ℕ) →
    e < n * c → gradients_of b F n c e ≡ gradients_of b F' n c e
unfolding gradient_of
gradients-same true n c F F' some t x e l = x refl e l
gradients-same false n c F F' some t x e l = element-tree n c F F' some (t refl) e l

norm-same : (g g' : ℕ → Float) (m : ℕ) → ((e : ℕ) → e < m → g e ≡ g' e) → norm_of g m ≡ norm_of g' m
unfolding norm_of
norm-same g g' m h = loop-same (norm_step g) (norm_step g') m 0 zero64 (λ e x a b. ap (λ (z : Float). unless_above x (abs_of z)) (h e (omega arith)))

-- ---- the step

module _ (b b' : Before) (n c : ℕ) (same : (e : ℕ) → e < n * c → element_at b e ≡ element_at b' e) where
  means-same : means_of b n c ≡ means_of b' n c
  means-same = ap (loop (mean_step (of_int binary64 (pos n))) c 0)
      (loop-same (sum_step b c) (sum_step b' c) (n * c) 0 zeros8 (λ e s _ l. ap (λ (x : Element). set s (e % c) (add binary64 (at s (e % c)) x.moved))
      (same e (omega arith))))

  centred-same : (e : ℕ) → e < n * c → centred_by (means_of b n c) b c e ≡ centred_by (means_of b' n c) b' c e
  unfolding centred_by
  centred-same e l = rw means-same (ap (λ (x : Element). sub binary64 x.moved (at (means_of b' n c) (e % c))) (same e l))

  calm-same : (calm_moves b (n * c) && calm_centred (means_of b n c) b c (n * c)) ≡ (calm_moves b' (n * c) && calm_centred (means_of b' n c) b' c (n * c))
  calm-same = rw (
    every-same (calm_at b) (calm_at b') (n * c) (λ e l. ap (λ (x : Element). calm x.gain && calm x.increment) (same e l)),
    every-same (λ e. calm (centred_by (means_of b n c) b c e)) (λ e. calm (centred_by (means_of b' n c) b' c e)) (n * c) (λ e l. ap calm (centred-same e l)),
  )

-- Y and Y' are what the same step makes of the areas y and y'
pub record Moves (m : ℕ) (y y' Y Y' : List Float) : Type 0 where
  pub here : SameTo m Y Y'
  pub kept : Kept y y' Y Y'

moves : (m : ℕ) (v v' : ℕ → Float) → ((e : ℕ) → e < m → v e ≡ v' e) → (y y' : List Float) → m ≤ length y → m ≤ length y' →
    Moves m y y' (loop (λ e l. set l e (v e)) m 0 y) (loop (λ e l. set l e (v' e)) m 0 y')
moves m v v' s y y' h h' =
    let q : loop (λ e l. set l e (v e)) m 0 y' ≡ loop (λ e l. set l e (v' e)) m 0 y' = loop-same (λ e l. set l e (v e)) (λ e l. set l e (v' e)) m 0 y' (λ e l _ x. ap (set l e) (s e (omega arith))) in
    rw (sym q) (record {
      here = λ e l. puts-there (λ e. e) v m 0 y y' (λ e _ l. omega (arith, l, h)) (λ e _ l. omega (arith, l, h')) e (omega arith) (omega (arith, l));
      kept = record {
        each = puts-alike (λ e. e) v m 0 y y' (λ e _ l. omega (arith, l, h)) (λ e _ l. omega (arith, l, h'));
        long = λ e. written-size v m y ∙ (e ∙ sym (written-size v m y'));
      };
    })

module _ (r : Run) (angle : Float) (used' : ℕ) (y y' v v' g g' F F' : List Float) where
  abbrev n : ℕ
  n = r.settings.n

  abbrev c : ℕ
  c = r.settings.c

  abbrev m : ℕ
  m = n * c

  -- both units step alike, or both are refused
  pub by_both : 0 < c → SameTo m y y' → SameTo m v v' → SameTo m g g' → (is_tree r.settings.method ≡ true → SameTo (n * (2 * c + 1)) F F') → (is_tree r.settings.method ≡ false → SameTo m F F')
      → m ≤ length y → m ≤ length y' → m ≤ length v → m ≤ length v' → m ≤ length g → m ≤ length g'
      → (P : FinishTurn → FinishTurn → Type 0)
      → ((norm : Float) (Y Y' I I' G G' : List Float) → Moves m y y' Y Y' → Moves m v v' I I' → Moves m g g' G G' →
      P (finish_turn (closed_of r norm) Y I G (Ok tt)) (finish_turn (closed_of (reread angle used' r) norm) Y' I' G' (Ok tt)))
      → P (finish_turn r y v g (Err Wild)) (finish_turn (reread angle used' r) y' v' g' (Err Wild))
      → P (finish_unit r y v g F) (finish_unit (reread angle used' r) y' v' g' F')
  unfolding finish_unit finish_of element_at momentum_of
  by_both some sy sv sg tree exact ly ly' lv lv' lg lg' P moved wild =
      let r' = reread angle used' r in
      let b = before_of r y v g F in
      let b' = before_of r' y' v' g' F' in
      let gr : (e : ℕ) → e < m → b.gradients e ≡ b'.gradients e = gradients-same (is_exact r) n c F F' some (λ q. tree
      (not-no (is_tree r.settings.method) q)) (λ q. exact (not_yes (is_tree r.settings.method) q)) in
      let el : (e : ℕ) → e < m → element_at b e ≡ element_at b' e = λ e l. rw (gr e l, sy e l, sv e l, sg e l) in
      let calm-is = calm-same b b' n c el in
      by_bool (P (finish_unit r y v g F) (finish_unit r' y' v' g' F')) (calm_moves b m && calm_centred (means_of b n c) b c m)
      (λ q.
      let q' = sym calm-is ∙ q in
      rw (q, q', sym (norm-same b.gradients b'.gradients m gr))
      (moved (norm_of b.gradients m)
      (loop (position_step (means_of b n c) b c) m 0 y) (loop (position_step (means_of b' n c) b' c) m 0 y')
      (loop (increment_step b) m 0 v) (loop (increment_step b') m 0 v')
      (loop (gain_step b) m 0 g) (loop (gain_step b') m 0 g')
      (moves m (λ e. centred_by (means_of b n c) b c e) (λ e. centred_by (means_of b' n c) b' c e) (centred-same b b' n c el) y y' ly ly')
      (moves m (λ e. (element_at b e).increment) (λ e. (element_at b' e).increment) (λ e l. ap (λ (x : Element). x.increment) (el e l)) v v' lv lv')
      (moves m (λ e. (element_at b e).gain) (λ e. (element_at b' e).gain) (λ e l. ap (λ (x : Element). x.gain) (el e l)) g g' lg lg')))
      (λ q. let q' = sym calm-is ∙ q in rw (q, q') wild)
    where
      not-no : (b : Bool) → not b ≡ false → b ≡ true
      not-no true e = refl
      not-no false e = sym e

      not_yes : (b : Bool) → not b ≡ true → b ≡ false
      not_yes true e = sym e
      not_yes false e = refl
