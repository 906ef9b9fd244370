-- What the call that salvages a frame file leaves is what the definition names. Assumes nothing.
use mathlib.Core.Path.{◌≡◌, ap}
use mathlib.Core.List.{List}
use Prim.Native.Nat.{ℕ, ◌<◌, ◌≤◌}
use lib.ListN.{length}
use borrow.Author.Tests.{lt-ltb, le-ltb}
use Rattle.std.specs.Prelude.{Result, Ok, Err}
use Rattle.salvage.specs.declared.Saved.{Saved}
use Rattle.salvage.specs.Salvage.{SalvageOutcome, salvage_outcome, salvage_of, salvage_number}
use Rattle.desk_salvage.specs.HostSalvage.{salvaged_words, host_salvaged, salvage_told, host_salvage}

module _ (f g p r a : List ℕ) where
  pub wordless-left : length a < 2 → host_salvaged 12 g p r a ≡ host_salvage f g p r a
  unfolding host_salvage
  wordless-left h = rw (lt-ltb (length a) 2 h)

  pub salvaged-left :
      2 ≤ length a → (s : Result Saved ℕ) (g' p' r' : List ℕ) → salvage_outcome s g' p' r' ≡ salvage_of f g p r
      → (k : ℕ) (a' : List ℕ) → (k ≡ salvage_number s) × (a' ≡ salvaged_words s a) → host_salvaged k g' p' r' a' ≡ host_salvage f g p r a
  unfolding host_salvage
  salvaged-left h s g' p' r' e k a' d = rw (le-ltb (length a) 2 h) (rw (d.0, d.1) (ap (λ (o : SalvageOutcome). salvage_told o a) e))
