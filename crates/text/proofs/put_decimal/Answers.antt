-- `text::put_decimal` meets its contract: by `decimal-room`, `decimal-put`.
use native.Mathlib.Omega.{arith}
use Rattle.text.proofs.Fewest.{decimal-room, decimal-put}
use Rattle.text.proofs.put_decimal.Goals as goal

pub put-requires : goal.put-requires
put-requires c =
    omega (arith, decimal-room _ _ c.ranges.n.fits c.decimal-k.ensures.len, c.decimal-k.ensures.in_bounds.1, c.requires)

pub returns : goal.returns
returns c =
    let told = decimal-put c.put.ensures c.decimal-k.ensures.in_bounds.1 c.ranges.n.fits c.decimal-k.ensures.len c.decimal-k.ensures.digits in
    record { puts = told.0; upper_bound = told.1 }
