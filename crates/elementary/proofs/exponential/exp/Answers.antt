-- `elementary::exponential::exp` meets its contract: by `exp-quotient`, `exp-normal`, `exp-raised`, `exp-nan`, `exp-low`, `exp-high` and others.
use Rattle.elementary.proofs.Range.{exp-quotient, exp-normal, exp-raised, exp-nan, exp-low, exp-high, exp-under, exp-in}
use Rattle.elementary.specs.Exp.{exp_in, exp_under, reduced, exp_k}
use Rattle.std.proofs.Common.{pos, ◌+ℤ◌, sym, ◌∙◌, lit≤, w64}
use Rattle.elementary.proofs.Nans.{differs}
use lib.Ieee.{of_bits, div}
use mir.ValLaws.{to_z-of_z}
use Rattle.elementary.proofs.exponential.exp.Goals as goal

pub returns-then-is_nan : goal.returns-then-is_nan
unfolding of_bits div
returns-then-is_nan c =
    exp-nan _ (sym c.is_nan.ensures.value ∙ c.if-is_nan.true)

pub returns-then-x : goal.returns-then-x
returns-then-x c =
    sym (exp-low _ (differs _ ∙ sym c.is_nan.ensures.value ∙ c.if-is_nan.false) c.if-x.true)

pub returns-then-x-2 : goal.returns-then-x-2
unfolding of_bits div
returns-then-x-2 c =
    sym (exp-high _ (differs _ ∙ sym c.is_nan.ensures.value ∙ c.if-is_nan.false) c.if-x.false c.if-x-2.true)

pub whole_near-k-requires : goal.whole_near-k-requires
whole_near-k-requires c =
    exp-quotient _ (differs _ ∙ sym c.is_nan.ensures.value ∙ c.if-is_nan.false) c.if-x.false c.if-x-2.false

pub nearest_i64_to_f64-kf-requires : goal.nearest_i64_to_f64-kf-requires
nearest_i64_to_f64-kf-requires c =
    tt

pub taylor-t-requires : goal.taylor-t-requires
taylor-t-requires c =
    tt

pub overflow_add-k : goal.overflow_add-k
overflow_add-k c =
    let the-whole-near = c.whole_near-k in
    let the-if2 = c.if-x in
    rw (to_z-of_z w64 the-whole-near.result (record { sfits = the-whole-near.type_inv }), the-whole-near.ensures) (exp-raised _ the-if2.false c.if-x-3.true).1

pub power_of-requires : goal.power_of-requires
power_of-requires c =
    let the-whole-near = c.whole_near-k in
    let the-if2 = c.if-x in
    let r = exp-raised c.args.x the-if2.false c.if-x-3.true in
    rw (
      to_z-of_z w64 the-whole-near.result (record { sfits = the-whole-near.type_inv }),
      the-whole-near.ensures,
      to_z-of_z w64 (exp_k c.args.x +ℤ pos 64)
          r.1,
    ) r.0

pub power_of-requires-then-x-3 : goal.power_of-requires-then-x-3
power_of-requires-then-x-3 c =
    lit≤ tt

pub returns-then-x-3 : goal.returns-then-x-3
unfolding exp_under reduced
returns-then-x-3 c =
    let the-if4 = c.if-x-3 in
    let the-taylor = c.taylor-t in
    let the-nearest-i64-to-f64 = c.nearest_i64_to_f64-kf in
    let the-whole-near = c.whole_near-k in
    let the-if3 = c.if-x-2 in
    let the-if2 = c.if-x in
    let r = exp-raised c.args.x the-if2.false the-if4.true in
    rw (
      c.power_of-then-x-3.ensures,
      c.power_of.ensures,
      the-taylor.ensures,
      the-nearest-i64-to-f64.ensures,
      to_z-of_z w64 the-whole-near.result
          (record { sfits = the-whole-near.type_inv }),
      the-whole-near.ensures,
      to_z-of_z w64 (exp_k c.args.x +ℤ pos 64) r.1,
    )
    (sym (exp-under _ (differs _ ∙ sym c.is_nan.ensures.value ∙ c.if-is_nan.false) the-if2.false the-if3.false the-if4.true))

pub power_of-requires-2 : goal.power_of-requires-2
power_of-requires-2 c =
    let the-whole-near = c.whole_near-k in
    let the-if3 = c.if-x-2 in
    rw (to_z-of_z w64 the-whole-near.result (record { sfits = the-whole-near.type_inv }), the-whole-near.ensures)
    (exp-normal _ (differs _ ∙ sym c.is_nan.ensures.value ∙ c.if-is_nan.false) c.if-x-3.false the-if3.false)

pub returns : goal.returns
unfolding exp_in reduced
returns c =
    let the-taylor = c.taylor-t in
    let the-nearest-i64-to-f64 = c.nearest_i64_to_f64-kf in
    let the-whole-near = c.whole_near-k in
    let the-if3 = c.if-x-2 in
    let the-if2 = c.if-x in
    rw (
      c.power_of-2.ensures,
      the-taylor.ensures,
      the-nearest-i64-to-f64.ensures,
      to_z-of_z w64 the-whole-near.result
          (record { sfits = the-whole-near.type_inv }),
      the-whole-near.ensures,
    ) (sym (exp-in _ (differs _ ∙ sym c.is_nan.ensures.value ∙ c.if-is_nan.false) the-if2.false the-if3.false c.if-x-3.false))
