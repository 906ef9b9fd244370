-- What the call that counts blind frames leaves is what the definition names. Assumes nothing.
use mathlib.Core.Path.{◌≡◌, ap}
use mathlib.Core.List.{List}
use mathlib.Core.Bool.{true, false}
use Prim.Native.Nat.{ℕ, ◌<◌, ◌≤◌}
use lib.ListN.{length}
use lib.Ieee.{Float}
use borrow.Author.Tests.{lt-ltb, le-ltb}
use Rattle.run_record.specs.declared.Settings.{Settings}
use Rattle.std.specs.Prelude.{Result}
use Rattle.blind.specs.declared.Seen.{Seen}
use Rattle.blind.specs.Blind.{SightRows, SightOutcome, sight_outcome, sight_fault, sighted, sight_number}
use Rattle.record_words.specs.RecordWords.{settings_fine, settings_of, short_number}
use Rattle.desk_blind.specs.HostBlind.{sight_words, host_seen, seen_in, host_blind}

module _ (s : List ℕ) (table : List Float) (r : SightRows) (a : List ℕ) where
  pub unread-seen : settings_fine s ≡ false → host_seen 21 a r ≡ host_blind s table r a
  unfolding host_blind
  unread-seen e = rw e

  pub short-seen : {k : ℕ} {t : Settings} → settings_fine s ≡ true → length a < 2 → t ≡ settings_of s → k ≡ short_number (sight_fault t table r)
      → host_seen k a r ≡ host_blind s table r a
  unfolding host_blind
  short-seen e h q ek = rw (e, lt-ltb (length a) 2 h, ek, q)

  module _ {o : Result Seen ℕ} {r' : SightRows} {t : Settings} (e : settings_fine s ≡ true) (h : 2 ≤ length a) (q : t ≡ settings_of s) (c : sight_outcome o r' ≡ sighted t table r) where
    pub seen-is : {k : ℕ} {a' : List ℕ} → (k ≡ sight_number o) × (a' ≡ sight_words o a) → host_seen k a' r' ≡ host_blind s table r a
    unfolding host_blind
    seen-is d =
        let c' : sight_outcome o r' ≡ sighted (settings_of s) table r = rw q at c in
        rw (e, le-ltb (length a) 2 h, d.0, d.1) (ap (λ (x : SightOutcome). seen_in x a) c')
