-- Finite, by the comparison with the infinity's pattern: the law `finite-by-limit` at the bits.
use Rattle.monitor_narrow.proofs.Laws.{finite-by-limit}
use Rattle.monitor_narrow.proofs.is_finite.Goals as goal

pub returns : goal.returns
returns c =
    finite-by-limit c.args.bits
