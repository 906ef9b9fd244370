-- `elementary::exponential::whole_near` meets its contract: by `near-neg`, `near-pos`, `whole-fits`, `neg-fits`, `as-signed`.
use denote.Floats.{passes}
use lib.Ieee.{to_unsigned, neg, add, binary64}
use Rattle.std.proofs.Common.{ℕ, ◌+◌, ◌/◌, ◌≤◌, pos, neg_ℤ, sym, ap, ◌∙◌, arith, w64}
use Rattle.elementary.proofs.Near.{near-neg, near-pos, whole-fits, neg-fits, as-signed}
use lib.IntN.{+ℤ_idl}
use mir.ValLaws.{to_z-of_z}
use Rattle.elementary.proofs.exponential.whole_near.Goals as goal

pub truncating_f64_to_u64-u-requires : goal.truncating_f64_to_u64-u-requires
truncating_f64_to_u64-u-requires c =
    let r = near-neg c.args.q (passes _ c.well_formed.0.1) c.requires c.if-q.true in
    record { lower_bound = r.2.above; upper_bound = r.2.below }

pub overflow_add-result : goal.overflow_add-result
overflow_add-result c =
    let r = near-neg c.args.q (passes _ c.well_formed.0.1) c.requires c.if-q.true in
    rw c.truncating_f64_to_u64-u.ensures (record { fits = omega (arith, r.2.small) })

pub overflow_cast-result : goal.overflow_cast-result
overflow_cast-result c =
    let r = near-neg c.args.q (passes _ c.well_formed.0.1) c.requires c.if-q.true in
    rw c.truncating_f64_to_u64-u.ensures (whole-fits _ (omega (arith, r.2.small)))

pub overflow_sub-result : goal.overflow_sub-result
overflow_sub-result c =
    let r = near-neg c.args.q (passes _ c.well_formed.0.1) c.requires c.if-q.true in
    let n = (to_unsigned 64 (neg (add binary64 c.args.q c.args.q)) + 1) / 2 in
    let l : n ≤ 2047 = omega (arith, r.2.small) in
    rw (c.truncating_f64_to_u64-u.ensures, as-signed n l, +ℤ_idl) (neg-fits n l)

pub returns-then-q : goal.returns-then-q
returns-then-q c =
    let r = near-neg c.args.q (passes _ c.well_formed.0.1) c.requires c.if-q.true in
    let n = (to_unsigned 64 (neg (add binary64 c.args.q c.args.q)) + 1) / 2 in
    let l : n ≤ 2047 = omega (arith, r.2.small) in
    rw (c.truncating_f64_to_u64-u.ensures, as-signed n l, +ℤ_idl, to_z-of_z w64 (neg_ℤ (pos n)) (neg-fits n l))
    (ap (λ (k : ℕ). neg_ℤ (pos k)) r.2.whole ∙ sym r.1)

pub truncating_f64_to_u64-v-requires : goal.truncating_f64_to_u64-v-requires
truncating_f64_to_u64-v-requires c =
    let r = near-pos c.args.q (passes _ c.well_formed.0.1) c.requires c.if-q.false in
    record { lower_bound = r.2.above; upper_bound = r.2.below }

pub overflow_add-result-2 : goal.overflow_add-result-2
overflow_add-result-2 c =
    let r = near-pos c.args.q (passes _ c.well_formed.0.1) c.requires c.if-q.false in
    rw c.truncating_f64_to_u64-v.ensures (record { fits = omega (arith, r.2.small) })

pub overflow_cast-result-2 : goal.overflow_cast-result-2
overflow_cast-result-2 c =
    let r = near-pos c.args.q (passes _ c.well_formed.0.1) c.requires c.if-q.false in
    rw c.truncating_f64_to_u64-v.ensures (whole-fits _ (omega (arith, r.2.small)))

pub returns : goal.returns
returns c =
    let r = near-pos c.args.q (passes _ c.well_formed.0.1) c.requires c.if-q.false in
    let n = (to_unsigned 64 (add binary64 c.args.q c.args.q) + 1) / 2 in
    let l : n ≤ 2047 = omega (arith, r.2.small) in
    rw (c.truncating_f64_to_u64-v.ensures, as-signed n l) (ap pos r.2.whole ∙ sym r.1)
