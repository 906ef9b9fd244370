-- What the parts of the reader say and ask. Definitions only.
use Rattle.std.specs.Prelude.{List, ◌≡◌, Bool, true, false, ◌&&◌, ℕ, ◌+◌, ◌*◌, ◌<◌, ◌≤◌, leb, set}
use Rattle.laws.specs.Domain.{most_word}
use Rattle.little.specs.Little.{word_in}
use Rattle.run_record.specs.Record.{per_of}
use Rattle.run_entry.specs.Entry.{areas_fit}
use Rattle.record_words.specs.RecordWords.{method_of}
use Rattle.parked.specs.declared.Layout.{Layout}
use Rattle.unpark.specs.Unpark.{settings_read}

-- room by lengths: run is that of the record's words
abbrev pub room_for : List ℕ → ℕ → ℕ → ℕ → ℕ → ℕ → ℕ → ℕ → ℕ → ℕ → Bool
room_for f run p i g a x o forces nodes = leb 14 run && areas_fit (settings_read (word_in f)) p i g a x o forces nodes

-- the m words from word b on are numbers that 32 bits hold
abbrev pub Narrow : List ℕ → ℕ → ℕ → Type 0
Narrow f b m = (i : ℕ) → i < m → word_in f (b + i) < most_word + 1

-- ---- the record's words, one after the other

abbrev pub units_read : (ℕ → ℕ) → ℕ
units_read g = g 9 * per_of (method_of (g 0)) (g 1)

abbrev pub settings_told : (ℕ → ℕ) → List ℕ → List ℕ
settings_told g w = set (set (set (set (set (set (set (set (set w 0 (g 1)) 1 (g 2)) 2 (g 3)) 3 (g 0)) 4 (g 4)) 5 (g 5)) 6 (g 6)) 7 (g 7)) 8 (g 8)

abbrev pub counters_told : (ℕ → ℕ) → List ℕ → List ℕ
counters_told g w = set (set (set (set (set w 9 (g 10)) 10 (g 9)) 11 0) 12 (units_read g)) 13 0

-- ---- the lists

-- what is written of affinities, indices and offsets lies within them
pub record ListsRoom (l : Layout) (a x o : ℕ) : Type 0 where
  pub indices-long : l.links ≤ x
  pub matrix-long : l.tree ≡ false → l.held ≤ a
  pub weights-long : l.tree ≡ true → l.links ≤ a
  pub offsets-long : l.tree ≡ true → l.held ≤ o
