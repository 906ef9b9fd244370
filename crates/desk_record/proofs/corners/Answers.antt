-- `desk_record::corners` meets its contract: each need follows from its own premises.
use mathlib.Core.Path.{◌≡◌}
use native.Mathlib.Omega.{arith}
use Rattle.desk_record.proofs.corners.Goals as goal

pub returns-then-c-eq1 : goal.returns-then-c-eq1
returns-then-c-eq1 c =
    rw c.if-c-eq1.true

pub returns-then-c-eq2 : goal.returns-then-c-eq2
returns-then-c-eq2 c =
    rw c.if-c-eq2.true

pub returns : goal.returns
returns c =
    let e : c.args.c ≡ 3 = omega (arith, c.requires, c.if-c-eq1.false, c.if-c-eq2.false) in
    rw e
