use Rattle.std.proofs.Common.{sym, ◌∙◌}
use Rattle.replay.proofs.Cased.{leads-start, leads-done, leads-none, leads-stop, leads-next}
use Rattle.replay.proofs.cases.replay_cases.Goals as goal

pub loop-a-init : goal.loop-a-init
loop-a-init g c h p = rw c.new-t.ensures (leads-start _)

pub returns-in_default : goal.returns-in_default
returns-in_default g c h p =
    c.with.ensures ∙ sym (leads-none c.loop-a-test.true (sym (p _ _ c.loop-a-test.true c.case.ensures) ∙ c.in_default.is) (c.loop-a.invariant h p))

pub returns-then-next-a : goal.returns-then-next-a
returns-then-next-a g c h p =
    c.with-then-next-a.ensures ∙ (rw c.with-t.ensures
    (sym (leads-stop c.loop-a-test.true (sym (p _ _ c.loop-a-test.true c.case.ensures) ∙ c.in-Some.is) c.if-next-a.true (c.loop-a.invariant h p))))

pub loop-a-preserved : goal.loop-a-preserved
loop-a-preserved g c h p =
    rw c.with-t.ensures (leads-next c.loop-a-test.true (sym (p _ _ c.loop-a-test.true c.case.ensures) ∙ c.in-Some.is) c.if-next-a.false (c.loop-a.invariant h p))

pub returns : goal.returns
returns g c h p = sym (leads-done c.loop-a-test.false (c.loop-a.invariant h p))
