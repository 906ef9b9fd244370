use Rattle.std.proofs.Common.{ℕ, ◌+◌, ◌*◌, sym, subst, true≢false, arith, rules}
use Rattle.laws.specs.Area.{num}
use Rattle.laws.proofs.Numbers.{row_in}
use Rattle.replay_affinity.proofs.Rowing.{Risen, risen-none, risen-next, row-there, all_done}
use Rattle.replay_affinity.proofs.joins.row_right.Goals as goal

pub overflow_mul-a : goal.overflow_mul-a
overflow_mul-a c =
    omega (arith, row_in _ _ _ _ c.requires.0 c.requires.1)

pub loop-t-init : goal.loop-t-init
loop-t-init c =
    (search rules, risen-none)

pub offset_bounds-indices-a : goal.offset_bounds-indices-a
offset_bounds-indices-a c =
    omega (arith, row_in _ _ _ _ c.requires.0 c.requires.1, c.loop-t-test.true)

pub bounds-indices-a : goal.bounds-indices-a
bounds-indices-a c =
    omega (arith, row_in _ _ _ _ c.requires.0 c.requires.1, c.loop-t-test.true)

pub returns-then-v-low : goal.returns-then-v-low
returns-then-v-low c =
    λ e. absurd (true≢false (sym e))

pub returns-then-v-n : goal.returns-then-v-n
returns-then-v-n c =
    λ e. absurd (true≢false (sym e))

pub returns-then-v-i : goal.returns-then-v-i
returns-then-v-i c =
    λ e. absurd (true≢false (sym e))

pub loop-t-preserved : goal.loop-t-preserved
loop-t-preserved c = (
  omega arith,
  risen-next c.if-v-low.false c.if-v-n.false c.if-v-i.false c.loop-t.invariant.1,
)

pub returns : goal.returns
returns c =
    λ _. row-there c.args.indices.now
    (subst (λ (x : ℕ). Risen c.args.n x c.args.i c.loop-t.low (λ s. num c.args.indices.now (c.args.i * c.args.k + s))) (all_done c.loop-t.t c.args.k c.loop-t.invariant.0 c.loop-t-test.false)
    c.loop-t.invariant.1)
