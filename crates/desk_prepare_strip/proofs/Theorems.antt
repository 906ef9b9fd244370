-- What the host's preparation of a strip is, by its words: all cases. Assumes nothing.
use mathlib.Core.Path.{◌≡◌, sym, ap, ◌∙◌}
use mathlib.Core.List.{List}
use mathlib.Core.Bool.{Bool, true, false}
use Prim.Native.Nat.{ℕ}
use native.Mathlib.Omega.{arith}
use lib.Dec.{ltb}
use lib.ListN.{length}
use lib.Ieee.{Float}
use Rattle.laws.proofs.Bools.{by_bool}
use Rattle.prepare.specs.Prepare.{Lent, lengths_of, prepare_fault, prepare_number}
use Rattle.prepare_strip.specs.PrepareStrip.{strip_bars, strip_fault, prepared_strip}
use Rattle.record_words.specs.RecordWords.{settings_fine, settings_of, short_number}
use Rattle.desk_prepare.specs.HostPrepare.{HostPrepared, host_prepared, prepared_in, host_prepare}
use Rattle.desk_prepare_strip.specs.HostPrepareStrip.{host_prepare_strip}
use Rattle.desk_prepare_strip.proofs.Laws.{words_barred, barred-words, words-passed-on}

module _ (s : List ℕ) (table start : List Float) (nodes : ℕ) (l : Lent) (w : List ℕ) where
  abbrev barred : Bool
  barred = strip_bars (settings_of s) (prepare_fault (settings_of s) table start (lengths_of l nodes))

  -- words that are no settings: 21, and nothing is changed
  pub strip-unread : settings_fine s ≡ false → host_prepare_strip s table start nodes l w ≡ host_prepared 21 w l
  unfolding host_prepare_strip host_prepare
  strip-unread e = rw e

  -- settings, and room for the record: what preparation of a strip leaves, with its answer's number and its record as words
  pub host-is-strip : settings_fine s ≡ true → ltb (length w) 14 ≡ false → host_prepare_strip s table start nodes l w ≡ prepared_in (prepared_strip (settings_of s) table start nodes l) w
  unfolding host_prepare_strip host_prepare prepared_strip prepare_number
  host-is-strip e h = by_bool (host_prepare_strip s table start nodes l w ≡ prepared_in (prepared_strip (settings_of s) table start nodes l) w) barred (λ b. rw (e, b)) (λ b. rw (e, h, b))

  -- fewer than 14 words for the record: the number of the first test that fails, 12 where none does, and nothing is changed
  pub short-record : settings_fine s ≡ true → ltb (length w) 14 ≡ true →
      host_prepare_strip s table start nodes l w ≡ host_prepared (short_number (strip_fault (settings_of s) table start (lengths_of l nodes))) w l
  unfolding host_prepare_strip host_prepare strip_fault
  short-record e h = by_bool (host_prepare_strip s table start nodes l w ≡ host_prepared
      (short_number (strip_fault (settings_of s) table start (lengths_of l nodes))) w l) barred (λ b. rw (e, b)) (λ b. rw (e, h, b))

  -- 0: it is the host's preparation, word for word and area for area, so that all that holds of its runs holds of strips
  pub host-strip-begun : (host_prepare_strip s table start nodes l w).number ≡ 0 → host_prepare_strip s table start nodes l w ≡ host_prepare s table start nodes l w
  host-strip-begun e = by_bool (host_prepare_strip s table start nodes l w ≡ host_prepare s table start nodes l w) (words_barred s table start nodes l w)
      (λ b. absurd (let q : ◌≡◌ {A = ℕ} 20 0 = ap (λ (x : HostPrepared). x.number) (barred-words s table start nodes l w b) ∙ e in omega arith))
      (λ b. sym (words-passed-on s table start nodes l w b))
