-- What units read of the positions: the n points' coordinates alone. Where two areas hold the same at these places, points, box, numerators and pulls are the same. Assumes nothing.
use mathlib.Core.Path.{◌≡◌, ap, ◌∙◌}
use mathlib.Core.List.{List}
use mathlib.Core.Bool.{true, false, cond}
use Prim.Native.Nat.{ℕ, ◌+◌, ◌-◌, ◌*◌, ◌<◌, ◌≤◌}
use native.Mathlib.Omega.{arith}
use native.Mathlib.Nat.{le_refl}
use lib.ListN.{set}
use lib.Dec.{eqb}
use lib.Ieee.{Float, inf, binary64, add, mul, div}
use Rattle.laws.specs.Area.{at, num, zero64, one64, zeros8}
use Rattle.laws.specs.Loops.{loop}
use Rattle.laws.proofs.Loops.{loop-same}
use Rattle.laws.proofs.Numbers.{row_in}
use Rattle.tree_node.specs.Node.{zeros3, point_step, point_of}
use Rattle.tree_bounds.specs.declared.Span.{Span}
use Rattle.tree_bounds.specs.Bounds.{widened, span_step, span_of, middle_of, middle_step, reach_of, reach_step, box_of}
use Rattle.tree_bodies.specs.Bodies.{gap_step, gap_of}
use Rattle.gradient_pairs.specs.declared.Pulls.{Pulls}
use Rattle.gradient_pairs.specs.Exact.{on_map, num_of, num_step, push_of, along_step, pulls, pull_by, push_at, pulls_of}
use Rattle.gradient_pairs.specs.Links.{pulled}
use Rattle.gradient.specs.Forces.{link_step, attraction_of, Linked}
use Rattle.overnight.specs.Across.{SameTo, SameLists}

module _ (n c : ℕ) (y y' : List Float) (same : SameTo (n * c) y y') where
  coordinate : (j d : ℕ) → j < n → d < c → at y (j * c + d) ≡ at y' (j * c + d)
  coordinate j d h l = same (j * c + d) (omega (arith, row_in j n c (n * c) h (le_refl (n * c)), l))

  pub point-same : (j : ℕ) → j < n → point_of y c j ≡ point_of y' c j
  unfolding point_of
  point-same j h = loop-same (point_step y (j * c)) (point_step y' (j * c)) c 0 zeros3 (λ d p a b. ap (set p d) (coordinate j d h (omega arith)))

  -- ---- the box

  span_same : (d : ℕ) → d < c → span_of y n c d ≡ span_of y' n c d
  unfolding span_of
  span_same d l = loop-same (span_step y c d) (span_step y' c d) n 0 (record { low = inf false; high = inf true }) (λ i s a b. ap (widened s) (coordinate i d (omega arith) l))

  pub box-same : box_of y n c ≡ box_of y' n c
  unfolding box_of
  box-same = rw (
    loop-same (middle_step y n c) (middle_step y' n c) c 0 zeros3 (λ d z a b. ap (λ (s : Span). set z d (middle_of s)) (span_same d (omega arith))),
    loop-same (reach_step y n c) (reach_step y' n c) c 0 zeros3 (λ d z a b. ap (λ (s : Span). set z d (reach_of s)) (span_same d (omega arith))),
  )

  -- ---- an exact run's rows

  gap_same : (i j : ℕ) → i < n → j < n → gap_of c (on_map y c i) (on_map y c j) ≡ gap_of c (on_map y' c i) (on_map y' c j)
  unfolding gap_of
  gap_same i j h l = loop-same (gap_step (on_map y c i) (on_map y c j)) (gap_step (on_map y' c i) (on_map y' c j)) c 0 zero64
      (λ d s a b. rw (coordinate i d h (omega arith), coordinate j d l (omega arith)))

  numerator-same : (i j : ℕ) → i < n → j < n → num_of y c i j ≡ num_of y' c i j
  unfolding num_of
  numerator-same i j h l = ap (λ (g : Float). cond (eqb i j) zero64 (div binary64 one64 (add binary64 one64 g))) (gap_same i j h l)

  pub total-same : (i : ℕ) (x : Float) → i < n → loop (num_step y c i) n 0 x ≡ loop (num_step y' c i) n 0 x
  total-same i x h = loop-same (num_step y c i) (num_step y' c i) n 0 x (λ j s a b. ap (add binary64 s) (numerator-same i j h (omega arith)))

  pull-same : (w : Float) (j : ℕ) (x : Pulls) → j < n → pull_by w y c j x ≡ pull_by w y' c j x
  unfolding pull_by
  pull-same w j x h = ap (pulls (add binary64 x.sum w))
      (loop-same (along_step w y (j * c)) (along_step w y' (j * c)) c 0 x.along (λ d t a b. ap (λ (v : Float). set t d
      (add binary64 (at t d) (mul binary64 w v))) (coordinate j d h (omega arith))))

  pub pulls-same : (P P' : List Float) → SameTo (n * n) P P' → (e total : Float) (i : ℕ) → i < n → pulls_of y P e total n c i ≡ pulls_of y' P' e total n c i
  unfolding pulls_of
  pulls-same P P' f e total i h = loop-same (λ j x. pull_by (push_at y P e total n c i j) y c j x) (λ j x. pull_by (push_at y' P' e total n c i j) y' c j x) n 0 (pulls zero64 zeros8)
      (λ j x a b.
      let l : j < n = omega arith in
      let q : at P (i * n + j) ≡ at P' (i * n + j) = f (i * n + j) (omega (arith, row_in i n n (n * n) h (le_refl (n * n)), l)) in
      pull-same (push_at y P e total n c i j) j x l
      ∙ ap (λ (v : Float). pull_by (push_of v e (num_of y c i j) total) y' c j x) q
      ∙ ap (λ (v : Float). pull_by (push_of (at P' (i * n + j)) e v total) y' c j x) (numerator-same i j h l))

  -- ---- a point's attraction

  pub attraction-same : (W W' : List Float) (I I' O O' : List ℕ) → SameLists n W W' I I' O O' → (e : Float) (i : ℕ) → i < n → Linked n W I O i →
      num O (i + 1) ≤ num O n → attraction_of e c y W I O i ≡ attraction_of e c y' W' I' O' i
  unfolding attraction_of
  attraction-same W W' I I' O O' f e i h k last =
      let a = num O i in
      let m = num O (i + 1) - num O i in
      let step = loop-same (link_step e c y W I (point_of y c i) a) (link_step e c y' W' I' (point_of y' c i) a) m 0 zeros3
      (λ j t _ l.
      let q : a + j < num O (i + 1) = omega (arith, l, k.rises) in
      let b : a + j < num O n = omega (arith, q, last) in
      rw (point-same i h, f.weights (a + j) b, f.indices (a + j) b)
      (ap (λ (p : List Float). pulled e c (point_of y' c i) p (at W' (a + j)) t)
      (rw (f.indices (a + j) b) at (point-same (num I (a + j)) (k.frames (a + j) q))))) in
      step ∙ rw (f.offsets i (omega (arith, h)), f.offsets (i + 1) (omega (arith, h)))
