use Rattle.bench_mapping.specs.Mapping.{bench_table}
use Rattle.laws.proofs.Loops.{loop-start as begin, loop-next, loop-done}
use borrow.Author.Rules.{rules}
use native.Mathlib.Omega.{arith}
use Rattle.bench_mapping.proofs.table_of.Goals as goal

pub loop-k-init : goal.loop-k-init
loop-k-init c =
    (search rules, begin _ _ _)

pub loop-k-preserved : goal.loop-k-preserved
loop-k-preserved c =
    (search rules, rw c.frame_at-f.ensures (loop-next c.loop-k.invariant.1 (omega arith)))

pub returns : goal.returns
unfolding bench_table
returns c =
    record { value = c.loop-k.invariant.0; value_2 = loop-done c.loop-k.invariant.1 (omega arith) }
