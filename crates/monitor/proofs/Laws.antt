-- The bytes of a record: how many there are; and what the test of the areas of frames shows. Assumes nothing.
use mathlib.Core.Path.{◌≡◌, refl, sym, ◌∙◌}
use mathlib.Core.Bool.{true, ◌&&◌}
use Prim.Native.Nat.{ℕ, ◌*◌, ◌/◌}
use native.Mathlib.Omega.{arith}
use native.Mathlib.Decide.{dec_lt}
use lib.Dec.{leb}
use lib.ListN.{length}
use borrow.Author.Tests.{leb-true, le-leb, lt-leb}
use Rattle.laws.proofs.Bools.{and_left, and_right}
use Rattle.little.specs.Little.{little_bytes}
use Rattle.monitor.specs.Monitor.{monitor_record, frames_room, FramesLie}

pub record-size : (p s b x y : ℕ) → length (monitor_record p s b x y) ≡ 16
unfolding monitor_record little_bytes
record-size p s b x y = refl

pub halves-fit : (n x : ℕ) → leb n (x / 2) ≡ leb (2 * n) x
halves-fit n x = elim (dec_lt (x / 2) n) [
  | yes l ↦ lt-leb n (x / 2) l ∙ sym (lt-leb (2 * n) x (omega arith))
  | no m ↦ le-leb n (x / 2) (omega arith) ∙ sym (le-leb (2 * n) x (omega arith))
]

pub frames-lie : (n p s b x : ℕ) → frames_room n p s b x ≡ true → FramesLie n p s b x
unfolding frames_room
frames-lie n p s b x e =
    let A = leb n p in
    let B = leb n s in
    let C = leb n b in
    let D = leb (2 * n) x in
    let abc = and_left (A && B && C) D e in
    let ab = and_left (A && B) C abc in
    record {
      pictures-long = leb-true n p (and_left A B ab);
      sides-long = leb-true n s (and_right A B ab);
      fields-long = leb-true n b (and_right (A && B) C abc);
      positions-long = leb-true (2 * n) x (and_right (A && B && C) D e);
    }
