-- What the reader's loop has found when it ends. Assumes nothing.
use mathlib.Core.Path.{◌≡◌, sym}
use mathlib.Core.List.{List}
use mathlib.Core.Bool.{true, false}
use Prim.Native.Nat.{ℕ, ◌%◌, ◌<◌, ◌≤◌}
use lib.Dec.{ltb}
use lib.ListN.{length}
use borrow.Author.Tests.{lt-ltb, le-ltb, eq-eqb, ne_eqb}
use Rattle.laws.specs.Loops.{first}
use Rattle.laws.proofs.First.{Seeks, seek_stop, seek-done}
use Rattle.std.specs.Prelude.{Ok, Err}
use Rattle.frames.specs.Frames.{record_bytes, bad_place, bad_at, whole_records, frames_of}

module _ (f : List ℕ) (i : ℕ) (s : Seeks (bad_at f) (whole_records f) i) where
  pub bad-one : i < whole_records f → bad_at f i ≡ true → Err (bad_place i) ≡ frames_of f
  unfolding frames_of
  bad-one h e = rw (sym (seek_stop s h e), lt-ltb i (whole_records f) h)

  passed : whole_records f ≤ i → ltb (first (bad_at f) (whole_records f)) (whole_records f) ≡ false
  passed h = rw (sym (seek-done s h)) (le-ltb i (whole_records f) h)

  pub all-good : whole_records f ≤ i → length f % record_bytes ≡ 0 → Ok (whole_records f) ≡ frames_of f
  unfolding frames_of
  all-good h e = rw (passed h, eq-eqb (length f % record_bytes) 0 e)

  pub stray : whole_records f ≤ i → (length f % record_bytes ≡ 0 → ⊥) → Err (bad_place (whole_records f)) ≡ frames_of f
  unfolding frames_of
  stray h e = rw (passed h, ne_eqb (length f % record_bytes) 0 e)
