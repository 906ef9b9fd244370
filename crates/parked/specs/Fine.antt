-- Which words a parked run can have: g w is word w of the file. A record is bad where no run can hold it after the records before it. Definitions only.
use Rattle.std.specs.Prelude.{Bool, true, cond, not, ◌&&◌, ◌||◌, ℕ, ◌+◌, ◌-◌, ◌*◌, eqb, ltb, leb, pos}
use Rattle.std.specs.Float.{binary64}
use Rattle.std.specs.Float.Ieee.{of_int, lt}
use Rattle.laws.specs.Domain.{most_axes, most_components, most_features, most_frames, most_iterations}
use Rattle.laws.specs.Loops.{every}
use Rattle.laws.specs.Area.{bits}
use Rattle.elementary.specs.Limits.{calm, neighbours_of}
use Rattle.run_record.specs.Record.{positive, angle_fine, state_fits}
use Rattle.record_words.specs.RecordWords.{standing_of}
use Rattle.parked.specs.declared.Layout.{Layout}
use Rattle.parked.specs.Layout.{layout_of}

-- ---- the first three records

-- method m (1 Barnes-Hut), n, f, c
unfoldable pub first_fine : ℕ → ℕ → ℕ → ℕ → Bool
first_fine m n f c =
    leb m 1
    && (leb 2 n && leb n most_frames)
    && (leb 1 f && leb f most_features)
    && (leb 1 c && leb c (cond (eqb m 1) most_axes most_components))

-- perplexity, rate, iterations, angle: an exact run's is zero bits
unfoldable pub second_fine : ℕ → ℕ → ℕ → ℕ → ℕ → ℕ → Bool
second_fine m n perplexity rate iterations angle =
    (positive (bits perplexity) && lt (bits perplexity) (of_int binary64 (pos n)))
    && positive (bits rate)
    && (leb 1 iterations && leb iterations most_iterations)
    && cond (eqb m 1) (angle_fine (bits angle)) (eqb angle 0)

-- minimum norm, iterations done, state, links: at most 2·n·k, of an exact run none
unfoldable pub third_fine : ℕ → ℕ → ℕ → ℕ → ℕ → ℕ → ℕ → ℕ → Bool
third_fine m n perplexity iterations minimum done state links =
    leb state 2
    && state_fits (standing_of state) done iterations 0 (bits minimum)
    && cond (eqb m 1) (leb links (2 * n * neighbours_of (bits perplexity) n)) (eqb links 0)

module _ (g : ℕ → ℕ) where
  unfoldable pub head_fine : ℕ → Bool
  head_fine q =
      cond (eqb q 0) (first_fine (g 0) (g 1) (g 2) (g 3))
      (cond (eqb q 1) (second_fine (g 0) (g 1) (g 4) (g 5) (g 6) (g 7))
      (third_fine (g 0) (g 1) (g 4) (g 6) (g 8) (g 9) (g 10) (g 11)))

  -- how the file lies, by its first records
  unfoldable pub layout_by : Layout
  layout_by = layout_of (eqb (g 0) 1) (g 1) (g 3) (g 11)

  -- ---- the words of the areas

  -- filling is zero bits
  abbrev pub is_filling : ℕ → Bool
  is_filling w = eqb (g w) 0

  -- a position, increment or gain in an area that starts at word b: 15 does not bar it
  unfoldable pub value_fits : Layout → ℕ → ℕ → Bool
  value_fits l b w = cond (ltb (w - b) l.cells) (calm (bits (g w))) (is_filling w)

  -- offset k: 0 at the start, none falls or passes the links, and the last is their number
  unfoldable pub offset_fits : Layout → ℕ → ℕ → Bool
  offset_fits l k w = cond (eqb k 0) (eqb (g w) 0) (leb (g (w - 1)) (g w) && leb (g w) l.links && (not (eqb k l.n) || eqb (g w) l.links))

  -- an offset, or an affinity, which may be anything
  unfoldable pub held_fits : Layout → ℕ → Bool
  held_fits l w = cond (ltb (w - l.affinities) l.held) (cond l.tree (offset_fits l (w - l.affinities) w) true) (is_filling w)

  -- a listed index: below n
  unfoldable pub index_fits : Layout → ℕ → Bool
  index_fits l w = cond (ltb (w - l.indices) l.links) (ltb (g w) l.n) (is_filling w)

  -- a weight may be anything
  unfoldable pub weight_fits : Layout → ℕ → Bool
  weight_fits l w = cond (ltb (w - l.weights) l.links) true (is_filling w)

  unfoldable pub state_fine : Layout → ℕ → Bool
  state_fine l w =
      cond (ltb w l.increments) (value_fits l 12 w)
      (cond (ltb w l.gains) (value_fits l l.increments w)
      (value_fits l l.gains w))

  unfoldable pub affinity_fine : Layout → ℕ → Bool
  affinity_fine l w =
      cond (ltb w l.indices) (held_fits l w)
      (cond (ltb w l.weights) (index_fits l w) (weight_fits l w))

  unfoldable pub word_fine : Layout → ℕ → Bool
  word_fine l w = cond (ltb w l.affinities) (state_fine l w) (affinity_fine l w)

  -- record q
  unfoldable pub record_fine : ℕ → Bool
  record_fine q = cond (ltb q 3) (head_fine q) (every (λ k. word_fine layout_by (4 * q + k)) 4)
