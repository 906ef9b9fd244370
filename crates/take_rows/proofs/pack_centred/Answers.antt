use Rattle.take_rows.proofs.Brought.{row_room, centred-brought, row-long}
use Rattle.take_rows.proofs.Packing.{packs-start, packs-next}
use mathlib.Core.Path.{refl}
use Rattle.take_rows.proofs.pack_centred.Goals as goal

pub loop-i-init : goal.loop-i-init
loop-i-init c =
    packs-start

pub bring_centred-requires : goal.bring_centred-requires
bring_centred-requires c =
    let r = row_room c.requires.3 c.args.c c.loop-i.invariant c.loop-i-test.true refl c.requires.2 in
    (c.requires.1, r.0, r.1)

pub loop-i-preserved : goal.loop-i-preserved
loop-i-preserved c =
    packs-next c.loop-i.invariant c.loop-i-test.true
    (centred-brought c.requires.3 c.args.c c.requires.4 c.loop-i.invariant c.loop-i-test.true refl)
    (row-long _ c.args.c) c.bring_centred.auto.area c.bring_centred.ensures
