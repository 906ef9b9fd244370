use Rattle.take_rows.proofs.Brought.{row_room, row-copied, row-brought, row-long}
use Rattle.take_rows.proofs.Packing.{packs-start, packs-next}
use mathlib.Core.Path.{refl}
use Rattle.take_rows.proofs.pack_rows.Goals as goal

pub loop-i-init : goal.loop-i-init
loop-i-init c =
    packs-start

pub loop-i-preserved : goal.loop-i-preserved
loop-i-preserved c =
    packs-next c.loop-i.invariant c.loop-i-test.true
    (row-brought c.requires.3 c.args.w c.loop-i.invariant c.loop-i-test.true refl) (row-long _ c.args.w)
    c.copy_within.ensures.len (row-copied c.loop-i.area _ _ c.args.w (row_room c.requires.3 c.args.w c.loop-i.invariant c.loop-i-test.true refl c.requires.2).1 c.copy_within.ensures.after)
