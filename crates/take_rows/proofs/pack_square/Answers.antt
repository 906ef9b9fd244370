use Rattle.take_rows.proofs.Brought.{square-room, square-brought, row-long}
use Rattle.take_rows.proofs.Packing.{packs-start, packs-next}
use lib.ListN.{length}
use mathlib.Core.Path.{refl}
use Rattle.take_rows.proofs.pack_square.Goals as goal

pub loop-i-init : goal.loop-i-init
loop-i-init c =
    packs-start

pub bring_columns-requires : goal.bring_columns-requires
bring_columns-requires c =
    let r = square-room c.requires.2 c.loop-i.invariant c.loop-i-test.true refl c.requires.1 in
    (r.0, r.1, c.requires.2)

pub loop-i-preserved : goal.loop-i-preserved
loop-i-preserved c =
    packs-next c.loop-i.invariant c.loop-i-test.true (square-brought c.requires.2 c.loop-i.invariant c.loop-i-test.true refl)
    (row-long _ (length c.args.keep.now)) c.bring_columns.auto.area c.bring_columns.ensures
