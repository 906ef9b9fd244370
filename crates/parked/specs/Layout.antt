-- How a parked run lies in its file: records of four little-endian 8-byte words; three records of settings and counters, then the areas, each from a record of its own on. Definitions only.
use Rattle.std.specs.Prelude.{Bool, cond, ℕ, ◌+◌, ◌*◌, ◌/◌}
use Rattle.parked.specs.declared.Layout.{Layout}

-- m words, filled up to whole records
unfoldable pub filled_up : ℕ → ℕ
filled_up m = (m + 3) / 4 * 4

-- positions, increments and gains of n·c words each, from word 12 on; then exact, the matrix, Barnes-Hut, n + 1 offsets, the links' indices, their weights (of an exact run no links are listed)
unfoldable pub layout_of : Bool → ℕ → ℕ → ℕ → Layout
layout_of t n c links =
    let cells = n * c in
    let held = cond t (n + 1) (n * n) in
    let increments = 12 + filled_up cells in
    let gains = increments + filled_up cells in
    let affinities = gains + filled_up cells in
    let indices = affinities + filled_up held in
    let weights = indices + filled_up links in
    record {
      tree = t;
      n = n;
      cells = cells;
      held = held;
      links = links;
      increments = increments;
      gains = gains;
      affinities = affinities;
      indices = indices;
      weights = weights;
      end = weights + filled_up links;
    }

-- the records that it comes to
abbrev pub records_in : Layout → ℕ
records_in l = l.end / 4
