-- The exact gradient in the mirror: numerators, the total and the weights are equal to the bit, so each row of the gradient is shown as the positions are. Assumes nothing.
use mathlib.Core.Path.{◌≡◌, refl, sym, ap, ◌∙◌}
use mathlib.Core.Logic.{inl, inr}
use mathlib.Core.List.{List}
use mathlib.Core.Bool.{Bool, cond}
use Prim.Native.Nat.{ℕ, ◌+◌, ◌*◌, ◌%◌, ◌<◌}
use native.Mathlib.Omega.{arith}
use native.Mathlib.Nat.{le_refl, mod-eq_of_lt, mul-add-mod_self_right}
use lib.Dec.{eqb}
use lib.ListN.{get_or-replicate, get_or-eq_default, set}
use lib.Ieee.{Float, nan, binary64, add, sub, mul, div}
use Rattle.laws.specs.Loops.{loop}
use Rattle.laws.specs.Area.{at, zero64, one64, zeros8}
use Rattle.laws.proofs.Loops.{loop-same}
use Rattle.laws.proofs.Numbers.{order, row_in}
use Rattle.tree_bodies.specs.Bodies.{gap_of}
use Rattle.gradient_pairs.specs.declared.Pulls.{Pulls}
use Rattle.gradient_pairs.specs.Exact.{on_map, num_of, num_step, pulls, along_step, pull_by, push_at, pulls_of}
use Rattle.gradient.specs.Exact.{four64, total_row, slope_step, gradient_row}
use Rattle.mirror_values.specs.Values.{Shows}
use Rattle.mirror_values.specs.Shown.{ShowsAll}
use Rattle.mirror_values.proofs.Shows.{shows-zero, shows-nan, shows-add, shows-sub, shows-scaled, shows-times}
use Rattle.mirror_values.proofs.Areas.{loop-both, put-shown, put-past}
use Rattle.mirror_rules.specs.Sides.{ShowsPulls}
use Rattle.mirror_rules.proofs.Rows.{gap_same}

-- ---- sums that start at +0.0 in each component

pub zeros-shown : (turns : ℕ → Bool) (c : ℕ) → ShowsAll turns c c zeros8 zeros8
zeros-shown turns c = record { long = refl; shown = λ i h. each (turns (i % c)) i; past = λ i h. refl }
  where
    each : (b : Bool) (i : ℕ) → Shows b (at zeros8 i) (at zeros8 i)
    each b i = elim (order i 8) [
      | inl l ↦ rw (get_or-eq_default zeros8 nan {n = i} l) (shows-nan b)
      | inr l ↦ rw (get_or-replicate 8 i zero64 nan l) (shows-zero b)
    ]

-- component d of point i
point-part : (i c d : ℕ) → d < c → (i * c + d) % c ≡ d
point-part i c d h = mul-add-mod_self_right i c d ∙ mod-eq_of_lt h

point-in : (i n c d : ℕ) → i < n → d < c → i * c + d < n * c
point-in i n c d h k = omega (arith, row_in i n c (n * c) h (le_refl (n * c)))

module _ (turns : ℕ → Bool) (n c : ℕ) (y y' : List Float) (r : ShowsAll turns c (n * c) y y') where
  point-shown : (i d : ℕ) → i < n → d < c → Shows (turns d) (at y (i * c + d)) (at y' (i * c + d))
  point-shown i d h k = rw (point-part i c d k) at (r.shown (i * c + d) (point-in i n c d h k))

  -- ---- numerators and the total are equal to the bit

  num-shape : (y : List Float) (i j : ℕ) → num_of y c i j ≡ cond (eqb i j) zero64 (div binary64 one64 (add binary64 one64 (gap_of c (on_map y c i) (on_map y c j))))
  unfolding num_of
  num-shape y i j = refl

  pub num-same : (i j : ℕ) → i < n → j < n → num_of y c i j ≡ num_of y' c i j
  num-same i j h k =
      num-shape y i j
      ∙ ap (λ (g : Float). cond (eqb i j) zero64 (div binary64 one64 (add binary64 one64 g)))
      (gap_same turns c (on_map y c i) (on_map y c j) (on_map y' c i) (on_map y' c j) (λ d l. point-shown i d h l) (λ d l. point-shown j d k l))
      ∙ sym (num-shape y' i j)

  module _ (F F' : List Float) (q : ShowsAll turns c (n * c) F F') where
    total-now : at F (n * c) ≡ at F' (n * c)
    total-now = q.past (n * c) (le_refl (n * c))

    total_shape : (y F : List Float) (i : ℕ) → total_row y n c i F ≡ set F (n * c) (loop (num_step y c i) n 0 (cond (eqb i 0) zero64 (at F (n * c))))
    unfolding total_row
    total_shape y F i = refl

    pub total-shown : (i : ℕ) → i < n → ShowsAll turns c (n * c) (total_row y n c i F) (total_row y' n c i F')
    total-shown i h = rw (total_shape y F i, total_shape y' F' i, sums, total-now) (put-past q (n * c) (loop (num_step y' c i) n 0 (cond (eqb i 0) zero64 (at F' (n * c)))) (le_refl (n * c)))
      where
        sums : loop (num_step y c i) n 0 (cond (eqb i 0) zero64 (at F (n * c))) ≡ loop (num_step y' c i) n 0 (cond (eqb i 0) zero64 (at F (n * c)))
        sums = loop-same (num_step y c i) (num_step y' c i) n 0 (cond (eqb i 0) zero64 (at F (n * c))) (λ j s _ l. ap (add binary64 s) (num-same i j h (omega arith)))

    -- ---- a row of the gradient

    push-same : (P : List Float) (w : Float) (i j : ℕ) → i < n → j < n → push_at y P w (at F (n * c)) n c i j ≡ push_at y' P w (at F' (n * c)) n c i j
    push-same P w i j h k = rw (num-same i j h k, total-now)

    along-shown : (w : Float) (j : ℕ) (t t' : List Float) → j < n → ShowsAll turns c c t t' → ShowsAll turns c c (loop (along_step w y (j * c)) c 0 t) (loop (along_step w y' (j * c)) c 0 t')
    along-shown w j t t' k p = loop-both (ShowsAll turns c c) (along_step w y (j * c)) (along_step w y' (j * c)) c 0 t t'
        (λ d u u' _ l z. let m : d < c = omega arith in put-shown z d (add binary64 (at u d) (mul binary64 w (at y (j * c + d)))) (add binary64 (at u' d) (mul binary64 w (at y' (j * c + d)))) m
        (shows-add (z.shown d m) (rw (mod-eq_of_lt m) (shows-scaled w (point-shown j d k m)))))
        p

    pull-shape : (y : List Float) (w : Float) (j : ℕ) (x : Pulls) → pull_by w y c j x ≡ pulls (add binary64 x.sum w) (loop (along_step w y (j * c)) c 0 x.along)
    unfolding pull_by
    pull-shape y w j x = refl

    pulls-shape : (y P : List Float) (w total : Float) (i : ℕ) → pulls_of y P w total n c i ≡ loop (λ j x. pull_by (push_at y P w total n c i j) y c j x) n 0 (pulls zero64 zeros8)
    unfolding pulls_of
    pulls-shape y P w total i = refl

    pub pulls-shown : (P : List Float) (w : Float) (i : ℕ) → i < n → ShowsPulls turns c (pulls_of y P w (at F (n * c)) n c i) (pulls_of y' P w (at F' (n * c)) n c i)
    pulls-shown P w i h = rw (pulls-shape y P w (at F (n * c)) i, pulls-shape y' P w (at F' (n * c)) i) (loop-both (ShowsPulls turns c)
        (λ j x. pull_by (push_at y P w (at F (n * c)) n c i j) y c j x) (λ j x. pull_by (push_at y' P w (at F' (n * c)) n c i j) y' c j x) n 0 (pulls zero64 zeros8) (pulls zero64 zeros8)
        (λ j x x' _ l z. step j x x' (omega arith) z)
        (record { sum = refl; along = zeros-shown turns c }))
      where
        step : (j : ℕ) (x x' : Pulls) → j < n → ShowsPulls turns c x x' →
            ShowsPulls turns c (pull_by (push_at y P w (at F (n * c)) n c i j) y c j x) (pull_by (push_at y' P w (at F' (n * c)) n c i j) y' c j x')
        step j x x' k z =
            let u = push_at y' P w (at F' (n * c)) n c i j in
            rw (push-same P w i j h k, pull-shape y u j x, pull-shape y' u j x')
            (record { sum = ap (λ (v : Float). add binary64 v u) z.sum; along = along-shown u j x.along x'.along k z.along })

    row-shape : (y P : List Float) (w : Float) (i : ℕ) (F : List Float) → gradient_row y P w n c i F ≡ loop (slope_step (pulls_of y P w (at F (n * c)) n c i) y (i * c)) c 0 F
    unfolding gradient_row
    row-shape y P w i F = refl

    pub row-shown : (P : List Float) (w : Float) (i : ℕ) → i < n → ShowsAll turns c (n * c) (gradient_row y P w n c i F) (gradient_row y' P w n c i F')
    row-shown P w i h =
        let x = pulls_of y P w (at F (n * c)) n c i in
        let x' = pulls_of y' P w (at F' (n * c)) n c i in
        let p = pulls-shown P w i h in
        rw (row-shape y P w i F, row-shape y' P w i F') (loop-both (ShowsAll turns c (n * c)) (slope_step x y (i * c)) (slope_step x' y' (i * c)) c 0 F F'
        (λ d u u' _ l z. slope x x' p d u u' (omega arith) z)
        q)
      where
        slope : (x x' : Pulls) → ShowsPulls turns c x x' → (d : ℕ) (u u' : List Float) → d < c → ShowsAll turns c (n * c) u u' →
            ShowsAll turns c (n * c) (slope_step x y (i * c) d u) (slope_step x' y' (i * c) d u')
        slope x x' p d u u' k z =
            let a : Shows (turns d) (mul binary64 (at y (i * c + d)) x.sum) (mul binary64 (at y' (i * c + d)) x'.sum) = rw p.sum (shows-times x'.sum (point-shown i d h k)) in
            let b : Shows (turns d) (at x.along d) (at x'.along d) = rw (mod-eq_of_lt k) at (p.along.shown d k) in
            put-shown z (i * c + d) (mul binary64 (sub binary64 (mul binary64 (at y (i * c + d)) x.sum) (at x.along d)) four64)
            (mul binary64 (sub binary64 (mul binary64 (at y' (i * c + d)) x'.sum) (at x'.along d)) four64) (point-in i n c d h k)
            (rw (point-part i c d k) (shows-times four64 (shows-sub a b)))
