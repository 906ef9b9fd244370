-- `partner::first_bad_link` meets its contract: by `unfit-within`, `first-bad-told`.
use Rattle.partner.proofs.Judged.{unfit-within, first-bad-told}
use mathlib.Core.Path.{◌∙◌}
use native.Mathlib.Omega.{arith}
use Rattle.partner.proofs.first_bad_link.Goals as goal

pub rising_from-e-requires : goal.rising_from-e-requires
rising_from-e-requires c =
    omega arith

pub rising_from-k-requires : goal.rising_from-k-requires
rising_from-k-requires c =
    omega (arith, c.rising_from-e.ensures.0)

pub first_lonely-requires : goal.first_lonely-requires
first_lonely-requires c =
    (rw c.first_unfit-d.ensures (unfit-within _ _ _), c.rising_from-k.ensures.0, c.rising_from-e.ensures.1, c.rising_from-k.ensures.1)

pub returns : goal.returns
returns c =
    c.first_lonely.ensures ∙ rw c.first_unfit-d.ensures (first-bad-told _ _ _)
