-- `replay_tree::sizes_right` meets its contract: from what its calls promise.
use Rattle.std.proofs.Common.{sym, true≢false, arith, leb-true}
use Rattle.replay_tree.proofs.sizes_right.Goals as goal

pub returns-then-a-gt100000 : goal.returns-then-a-gt100000
returns-then-a-gt100000 c =
    λ e. absurd (true≢false (sym e))

pub returns-then-c-eq0 : goal.returns-then-c-eq0
returns-then-c-eq0 c =
    λ e. absurd (true≢false (sym e))

pub returns-then-c-gt3 : goal.returns-then-c-gt3
returns-then-c-gt3 c =
    λ e. absurd (true≢false (sym e))

pub returns-then-n-gt64 : goal.returns-then-n-gt64
returns-then-n-gt64 c =
    λ e. absurd (true≢false (sym e))

pub returns : goal.returns
returns c =
    λ e. (
      omega (arith, c.if-a-gt100000.false),
      (omega (arith, c.if-c-eq0.false), omega (arith, c.if-c-gt3.false)),
      omega (arith, c.if-n-gt64.false),
      rw
          c.product.ensures.0 at (leb-true c.product.result c.args.room e),
    )
