use Rattle.std.proofs.Common.{ℕ, sym, ◌∙◌, ap, arith, eq-eqb, ne_eqb}
use Rattle.laws.proofs.Every.{every-none, every-next, every-no, every-done}
use Rattle.replay.specs.Replay.{word_of}
use Rattle.replay_areas.proofs.bytes.same_first.Goals as goal

pub loop-i-init : goal.loop-i-init
loop-i-init c = (every-none _, omega arith)

pub returns-then-area-i : goal.returns-then-area-i
returns-then-area-i c =
    let word = c.word_at.ensures ∙ ap (λ (x : ℕ). word_of c.args.list.now x) c.plus.ensures in
    sym (every-no _ _ c.loop-i.i c.loop-i-test.true (ne_eqb _ _ (λ q. c.if-area-i.true (q ∙ sym word))))

pub loop-i-preserved : goal.loop-i-preserved
loop-i-preserved c =
    let word = c.word_at.ensures ∙ ap (λ (x : ℕ). word_of c.args.list.now x) c.plus.ensures in
    (every-next _ _ c.loop-i.invariant.0 (eq-eqb _ _ (c.if-area-i.false ∙ word)), omega (arith, c.loop-i-test.true))

pub returns : goal.returns
returns c = every-done _ _ _ c.loop-i.invariant.0 c.loop-i.invariant.1 c.loop-i-test.false
