-- The numbers of the scope paper, each named once. Definitions only.
use Rattle.std.specs.Prelude.{ℕ}

-- ---- the domain: frames n, features f, components c, of a Barnes-Hut run at most 3, and iterations

abbrev pub most_frames : ℕ
most_frames = 4096

abbrev pub most_features : ℕ
most_features = 256

abbrev pub most_components : ℕ
most_components = 8

abbrev pub most_axes : ℕ
most_axes = 3

abbrev pub most_iterations : ℕ
most_iterations = 65535

-- ---- the descent

-- the first iterations: exaggeration 12, momentum 0.5, and no early stop
abbrev pub early_iterations : ℕ
early_iterations = 250

-- ---- the tree

-- an occupied leaf at this depth or deeper is not split
abbrev pub deepest : ℕ
deepest = 50

-- ---- words

-- the largest number that a word of 32 bits holds: points, counts and nodes are named by such words, and a budget is one
abbrev pub most_word : ℕ
most_word = 4294967295
