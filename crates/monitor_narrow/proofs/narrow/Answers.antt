-- Narrowing: where the exponent's bits are below 873 a zero, else the pattern that `magnitude` gives, or none from the infinity's on; the laws by the exponent's bits.
use Rattle.monitor_narrow.proofs.Laws.{narrow-tiny, narrow-fits, narrow-past}
use native.Mathlib.Omega.{arith}
use Rattle.monitor_narrow.proofs.narrow.Goals as goal

pub returns-then-x-lt873 : goal.returns-then-x-lt873
returns-then-x-lt873 c =
    narrow-tiny c.args.bits (omega arith) (omega arith)

pub returns-then-w-lt-INFINITE32 : goal.returns-then-w-lt-INFINITE32
returns-then-w-lt-INFINITE32 c =
    narrow-fits c.args.bits c.magnitude-w.result (omega arith) c.magnitude-w.ensures (omega arith) (omega arith)

pub returns : goal.returns
returns c =
    narrow-past c.args.bits c.magnitude-w.result (omega arith) c.magnitude-w.ensures (omega arith)
