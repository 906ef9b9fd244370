-- `text::put_hex` meets its contract: by `hex-room`, `hex-put`.
use native.Mathlib.Omega.{arith}
use Rattle.text.proofs.Fewest.{hex-room, hex-put}
use Rattle.text.proofs.put_hex.Goals as goal

pub put-requires : goal.put-requires
put-requires c =
    omega (arith, hex-room _ _ c.ranges.n.fits c.hex-k.ensures.len, c.hex-k.ensures.in_bounds.1, c.requires)

pub returns : goal.returns
returns c =
    let told = hex-put c.put.ensures c.hex-k.ensures.in_bounds.1 c.ranges.n.fits c.hex-k.ensures.len c.hex-k.ensures.digits in
    record { puts = told.0; upper_bound = told.1 }
