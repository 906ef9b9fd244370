-- `salvage::salvage` meets its contract: the refusal, the whole records, the tail. Assumes nothing.
use mathlib.Core.Path.{sym, ◌∙◌}
use Rattle.salvage.proofs.Sifted.{sift-room, short-left, saved-left, tail-left, tail-room}
use native.Mathlib.Omega.{arith}
use Rattle.salvage.proofs.salvage.Goals as goal

pub returns-then-lacks_room : goal.returns-then-lacks_room
returns-then-lacks_room c =
    short-left _ _ _ _ (sym c.lacks_room.ensures ∙ c.if-lacks_room.true)

pub sift_all-s-requires : goal.sift_all-s-requires
sift_all-s-requires c =
    sift-room _ _ _ _ (sym c.lacks_room.ensures ∙ c.if-lacks_room.false)

pub returns-then-stray-eq0 : goal.returns-then-stray-eq0
returns-then-stray-eq0 c =
    saved-left _ _ _ _ (sym c.lacks_room.ensures ∙ c.if-lacks_room.false) c.sift_all-s.ensures c.if-stray-eq0.true

pub offset_bounds-places-told : goal.offset_bounds-places-told
offset_bounds-places-told c =
    omega (arith, tail-room _ _ _ _ (sym c.lacks_room.ensures ∙ c.if-lacks_room.false) c.sift_all-s.ensures c.if-stray-eq0.false)

pub bounds-places-told : goal.bounds-places-told
bounds-places-told c =
    (tail-room _ _ _ _ (sym c.lacks_room.ensures ∙ c.if-lacks_room.false) c.sift_all-s.ensures c.if-stray-eq0.false).0

pub bounds-rules-told : goal.bounds-rules-told
bounds-rules-told c =
    (tail-room _ _ _ _ (sym c.lacks_room.ensures ∙ c.if-lacks_room.false) c.sift_all-s.ensures c.if-stray-eq0.false).1

pub overflow_add-all : goal.overflow_add-all
overflow_add-all c =
    omega (arith, tail-room _ _ _ _ (sym c.lacks_room.ensures ∙ c.if-lacks_room.false) c.sift_all-s.ensures c.if-stray-eq0.false)

pub returns : goal.returns
returns c =
    tail-left _ _ _ _ (sym c.lacks_room.ensures ∙ c.if-lacks_room.false) c.sift_all-s.ensures c.if-stray-eq0.false
