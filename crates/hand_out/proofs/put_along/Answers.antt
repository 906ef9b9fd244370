-- `hand_out::put_along` meets its contract: by `order-fine`, `along-told`.
use native.Mathlib.Omega.{arith}
use Rattle.hand_out.proofs.Laws.{order-fine, along-told}
use Rattle.hand_out.proofs.put_along.Goals as goal

pub put_gaps-requires : goal.put_gaps-requires
put_gaps-requires c = (
  c.requires.1,
  omega (arith, c.put_order.auto.order, c.requires.2),
  c.requires.3,
  order-fine _ _ _ c.requires.4
      c.requires.2 c.put_order.ensures,
)

pub returns : goal.returns
returns c =
    along-told _ _ _ _ c.put_order.ensures c.put_gaps.ensures
