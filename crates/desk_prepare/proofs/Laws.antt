-- What preparation leaves is what the definition names. Assumes nothing.
use mathlib.Core.Path.{◌≡◌, ap}
use mathlib.Core.List.{List}
use mathlib.Core.Bool.{true, false}
use Prim.Native.Nat.{ℕ, ◌<◌, ◌≤◌}
use lib.ListN.{length}
use lib.Ieee.{Float}
use borrow.Author.Tests.{lt-ltb, le-ltb}
use Rattle.run_record.specs.declared.Settings.{Settings}
use Rattle.run_record.specs.declared.Run.{Run}
use Rattle.std.specs.Prelude.{Result}
use Rattle.prepare.specs.Prepare.{Lent, lengths_of, prepare_fault, PrepareOutcome, prepare_outcome, prepared, prepare_number}
use Rattle.record_words.specs.RecordWords.{settings_fine, settings_of, short_number}
use Rattle.desk_prepare.specs.HostPrepare.{host_prepared, recorded, prepared_in, host_prepare}

module _ (s : List ℕ) (table start : List Float) (nodes : ℕ) (l : Lent) (w : List ℕ) where
  pub unread-begun : settings_fine s ≡ false → host_prepared 21 w l ≡ host_prepare s table start nodes l w
  unfolding host_prepare
  unread-begun e = rw e

  pub short-begun : {k : ℕ} {t : Settings} → settings_fine s ≡ true → length w < 14 → t ≡ settings_of s →
      k ≡ short_number (prepare_fault t table start (lengths_of l nodes)) → host_prepared k w l ≡ host_prepare s table start nodes l w
  unfolding host_prepare
  short-begun e h q ek = rw (e, lt-ltb (length w) 14 h, ek, q)

  module _ {p : Result Run ℕ} {l' : Lent} {t : Settings} (e : settings_fine s ≡ true) (h : 14 ≤ length w) (q : t ≡ settings_of s) (o : prepare_outcome p l' ≡ prepared t table start nodes l) where
    pub begun-is : {k : ℕ} {w' : List ℕ} → k ≡ prepare_number p → w' ≡ recorded p w → host_prepared k w' l' ≡ host_prepare s table start nodes l w
    unfolding host_prepare
    begun-is ek ew =
        let o' : prepare_outcome p l' ≡ prepared (settings_of s) table start nodes l = rw q at o in
        rw (e, le-ltb (length w) 14 h, ek, ew) (ap (λ (x : PrepareOutcome). prepared_in x w) o')
