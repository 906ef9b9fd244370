-- When 20 refuses words, and what is left then. Assumes nothing.
use mathlib.Core.Path.{◌≡◌}
use mathlib.Core.List.{List}
use mathlib.Core.Bool.{Bool, true, false, cond, not, ◌&&◌}
use Prim.Native.Nat.{ℕ}
use lib.Dec.{eqb}
use lib.Ieee.{Float}
use Rattle.prepare.specs.Prepare.{Lent, lengths_of, prepare_fault}
use Rattle.prepare_strip.specs.PrepareStrip.{strip_bars}
use Rattle.record_words.specs.RecordWords.{settings_fine, settings_of}
use Rattle.desk_prepare.specs.HostPrepare.{host_prepared, host_prepare}
use Rattle.desk_prepare_strip.specs.HostPrepareStrip.{host_prepare_strip}

-- a number of 20's test, which is 0 where 20 does not refuse
pub bars-told : (b : Bool) (k : ℕ) → k ≡ cond b 20 0 → not (eqb k 0) ≡ b
bars-told true k q = rw q
bars-told false k q = rw q

module _ (s : List ℕ) (table start : List Float) (nodes : ℕ) (l : Lent) (w : List ℕ) where
  -- the words are settings, and 20 refuses these
  abbrev pub words_barred : Bool
  words_barred = settings_fine s && strip_bars (settings_of s) (prepare_fault (settings_of s) table start (lengths_of l nodes))

  -- refused by 20, areas and record are as they were
  pub barred-words : words_barred ≡ true → host_prepared 20 w l ≡ host_prepare_strip s table start nodes l w
  unfolding host_prepare_strip
  barred-words e = rw e

  -- else it is the host's preparation
  pub words-passed-on : words_barred ≡ false → host_prepare s table start nodes l w ≡ host_prepare_strip s table start nodes l w
  unfolding host_prepare_strip
  words-passed-on e = rw e
