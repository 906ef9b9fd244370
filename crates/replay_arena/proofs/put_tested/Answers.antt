-- `put_tested`: what is well formed takes a point, what is not takes none. Assumes nothing.
use Rattle.std.proofs.Common.{sym, refl, ◌∙◌, true≢false, rules}
use Rattle.replay_arena.proofs.put_tested.Goals as goal

pub returns-then-not-fine_in : goal.returns-then-not-fine_in
returns-then-not-fine_in c =
    (λ e. absurd (true≢false (sym e ∙ sym c.fine_in.ensures ∙ c.if-not-fine_in.true)), λ _. refl, refl)

pub put_in-requires : goal.put_in-requires
put_in-requires c =
    ((search rules), (search rules), (search rules), (search rules), (search rules), sym c.fine_in.ensures ∙ c.if-not-fine_in.false)

pub returns : goal.returns
returns c =
    (λ _. c.put_in.ensures.0, λ e. absurd (true≢false (sym c.if-not-fine_in.false ∙ c.fine_in.ensures ∙ e)), c.put_in.ensures.1)
