-- `elementary::limits::ceil_of` meets its contract: from what its calls promise.
use Rattle.elementary.proofs.Ceil.{cut}
use Rattle.std.proofs.Common.{arith}
use Rattle.elementary.proofs.limits.ceil_of.Goals as goal

pub truncating_f64_to_u64-w-requires : goal.truncating_f64_to_u64-w-requires
truncating_f64_to_u64-w-requires c =
    let k = cut c.args.q c.requires in
    record { lower_bound = k.above; upper_bound = k.below }

pub overflow_add-result : goal.overflow_add-result
overflow_add-result c =
    let the-truncating-f64-to-u64 = c.truncating_f64_to_u64-w in
    let k = cut c.args.q c.requires in
    rw the-truncating-f64-to-u64.ensures (record { fits = omega (arith, k.small) })

pub returns-then-nearest_u64_to_f64-q : goal.returns-then-nearest_u64_to_f64-q
returns-then-nearest_u64_to_f64-q c =
    let the-truncating-f64-to-u64 = c.truncating_f64_to_u64-w in
    let k = cut c.args.q c.requires in
    rw the-truncating-f64-to-u64.ensures (k.more (rw (c.nearest_u64_to_f64.ensures, the-truncating-f64-to-u64.ensures) at c.if-nearest_u64_to_f64-q.true))

pub returns : goal.returns
returns c =
    let the-truncating-f64-to-u64 = c.truncating_f64_to_u64-w in
    let k = cut c.args.q c.requires in
    rw the-truncating-f64-to-u64.ensures (k.even (rw (c.nearest_u64_to_f64.ensures, the-truncating-f64-to-u64.ensures) at c.if-nearest_u64_to_f64-q.false))
