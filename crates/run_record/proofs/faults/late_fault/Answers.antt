-- `run_record::faults::late_fault` meets its contract: from what its calls promise.
use borrow.Author.Tests.{eq-eqb, ne_eqb}
use mathlib.Core.Path.{sym, ◌∙◌}
use Prim.Native.Nat.{◌^◌}
use lib.Dec.{le→leb}
use lib.Ieee.{in_float}
use Rattle.run_record.specs.Record.{late_fault}
use native.Mathlib.Omega.{arith}
use Rattle.run_record.proofs.faults.late_fault.Goals as goal

pub returns-then-s-eq1 : goal.returns-then-s-eq1
unfolding late_fault
returns-then-s-eq1 c =
    rw (eq-eqb _ _ c.if-s-eq1.true)

pub int_to_float-s : goal.int_to_float-s
unfolding in_float
int_to_float-s c =
    le→leb c.args.s.n (2 ^ 53) (omega arith)

pub returns-then-is_below : goal.returns-then-is_below
unfolding late_fault
returns-then-is_below c =
    rw (ne_eqb _ _ c.if-s-eq1.false, sym c.is_below.ensures ∙ c.if-is_below.true)

pub returns : goal.returns
unfolding late_fault
returns c =
    rw (ne_eqb _ _ c.if-s-eq1.false, sym c.is_below.ensures ∙ c.if-is_below.false)
