-- What preparation of a strip leaves and answers, with settings and record as plain words. Definitions only.
use Rattle.std.specs.Prelude.{List, cond, ◌&&◌, ℕ, Float}
use Rattle.prepare.specs.Prepare.{Lent, lengths_of, prepare_fault}
use Rattle.prepare_strip.specs.PrepareStrip.{strip_bars}
use Rattle.record_words.specs.RecordWords.{settings_fine, settings_of}
use Rattle.desk_prepare.specs.HostPrepare.{HostPrepared, host_prepared, host_prepare}

-- words that are no settings: 21; 20 after 1 to 11, and nothing is changed; else as preparation has it
unfoldable pub host_prepare_strip : List ℕ → List Float → List Float → ℕ → Lent → List ℕ → HostPrepared
host_prepare_strip s table start nodes l w =
    cond (settings_fine s && strip_bars (settings_of s) (prepare_fault (settings_of s) table start (lengths_of l nodes)))
    (host_prepared 20 w l)
    (host_prepare s table start nodes l w)
