use Rattle.laws.proofs.Sums.{adds-room}
use mathlib.Core.Path.{◌≡◌, refl, ap, ◌∙◌}
use mathlib.Core.Bool.{Bool, true, false}
use mir.Val.{bool_byte}
use Rattle.laws.specs.Sums.{bit}
use Rattle.laws.proofs.Sums.{adds-start, adds-next, adds-done, bit_le}
use Rattle.laws.proofs.Parts.{scratch-start}
use Rattle.blind.proofs.Laws.{scratch-kept, kept_by, room-kept}
use native.Mathlib.Omega.{arith}
use Rattle.blind.proofs.looks.look_at_all.Goals as goal

byte-bit : (b : Bool) → bool_byte b ≡ bit b
unfolding bit
byte-bit true = refl
byte-bit false = refl

pub loop-i-init : goal.loop-i-init
loop-i-init c =
    (adds-start, adds-start, scratch-start, scratch-start, scratch-start)

pub look-l-requires : goal.look-l-requires
look-l-requires c =
    record { i_lt_n = (c.loop-i-test.true, c.requires.squared); sight_room = room-kept c.requires.sight_room c.loop-i.invariant.2.size c.loop-i.invariant.3.size c.loop-i.invariant.4.size }

pub overflow_add-blind : goal.overflow_add-blind
overflow_add-blind c =
    let e = c.from-blind.ensures ∙ byte-bit _ ∙ ap bit c.look-l.ensures.blind_value.0 in
    let m = adds-room (bit_le _) c.loop-i-test.true c.loop-i.invariant.0 in
    omega (arith, e, m, c.requires.sight_room.n-most)

pub overflow_add-alone : goal.overflow_add-alone
overflow_add-alone c =
    let e = c.from-alone.ensures ∙ byte-bit _ ∙ ap bit c.look-l.ensures.blind_value.1 in
    let m = adds-room (bit_le _) c.loop-i-test.true c.loop-i.invariant.1 in
    omega (arith, e, m, c.requires.sight_room.n-most)

pub loop-i-preserved : goal.loop-i-preserved
loop-i-preserved c = (
  adds-next (c.from-blind.ensures ∙ byte-bit _ ∙ ap bit c.look-l.ensures.blind_value.0) (bit_le _) c.loop-i-test.true c.loop-i.invariant.0,
  adds-next
      (c.from-alone.ensures ∙ byte-bit _ ∙ ap bit c.look-l.ensures.blind_value.1) (bit_le _) c.loop-i-test.true c.loop-i.invariant.1,
  scratch-kept c.look-l.auto.row_values
      c.look-l.ensures.kept_past.0 c.loop-i.invariant.2,
  scratch-kept c.look-l.auto.row_shares c.look-l.ensures.kept_past.1 c.loop-i.invariant.3,
  scratch-kept
      c.look-l.auto.row_indices c.look-l.ensures.kept_past.2 c.loop-i.invariant.4,
)

pub shape_of-row_values : goal.shape_of-row_values
shape_of-row_values c =
    c.loop-i.invariant.2.size

pub shape_of-row_shares : goal.shape_of-row_shares
shape_of-row_shares c =
    c.loop-i.invariant.3.size

pub shape_of-row_indices : goal.shape_of-row_indices
shape_of-row_indices c =
    c.loop-i.invariant.4.size

pub returns : goal.returns
returns c =
    record {
      blind_value = ((adds-done c.loop-i-test.false c.loop-i.invariant.0).0, (adds-done c.loop-i-test.false c.loop-i.invariant.1).0);
      kept_past =
          (kept_by c.loop-i.invariant.2, kept_by c.loop-i.invariant.3, kept_by c.loop-i.invariant.4);
    }
