-- Preparation of a strip: as preparation, and by 20 the settings must be in the profile. Definitions only.
use Rattle.std.specs.Prelude.{List, Bool, cond, not, ◌&&◌, ◌||◌, ℕ, eqb, Float, Err}
use Rattle.run_record.specs.declared.Settings.{Settings}
use Rattle.strip_profile.specs.Profile.{in_profile}
use Rattle.prepare.specs.declared.Lengths.{Lengths}
use Rattle.prepare.specs.Prepare.{Lent, lengths_of, prepare_fault, PrepareOutcome, prepare_outcome, prepared}

-- 20: tests 1 to 11 let the settings pass, and they are outside the profile; k is the number of the first test of preparation that fails
unfoldable pub strip_bars : Settings → ℕ → Bool
strip_bars s k = (eqb k 0 || eqb k 12) && not (in_profile s)

-- the number of the first test that fails: 20 stands after 11 and before 12
unfoldable pub strip_fault : Settings → List Float → List Float → Lengths → ℕ
strip_fault s table start l = let k = prepare_fault s table start l in cond (strip_bars s k) 20 k

-- refused by 20, nothing is changed; else it is preparation
unfoldable pub prepared_strip : Settings → List Float → List Float → ℕ → Lent → PrepareOutcome
prepared_strip s table start nodes l = cond (strip_bars s (prepare_fault s table start (lengths_of l nodes))) (prepare_outcome (Err 20) l) (prepared s table start nodes l)
