-- `prepare_strip::strip_bars` meets its contract: by `bars-no-strip`, `bars-passed`, `bars-twelve`, `bars-no-refused`.
use Rattle.prepare_strip.proofs.Laws.{bars-no-strip, bars-passed, bars-twelve, bars-no-refused}
use mathlib.Core.Path.{sym, ◌∙◌}
use Rattle.prepare_strip.proofs.strip_bars.Goals as goal

pub returns-then-in_profile : goal.returns-then-in_profile
returns-then-in_profile c =
    rw (bars-no-strip _ _ (sym c.in_profile.ensures ∙ c.if-in_profile.true))

pub returns-then-k-eq0 : goal.returns-then-k-eq0
returns-then-k-eq0 c =
    rw (bars-passed _ _ (sym c.in_profile.ensures ∙ c.if-in_profile.false) (sym (c.number-k.ensures ∙ c.prepare_fault.ensures) ∙ c.if-k-eq0.true))

pub returns-then-short : goal.returns-then-short
returns-then-short c =
    let q = c.number-k.ensures ∙ c.prepare_fault.ensures in
    rw (bars-twelve _ _ (sym c.in_profile.ensures ∙ c.if-in_profile.false) (rw q at c.if-k-eq0.false), sym q, c.if-short.true)

pub returns : goal.returns
returns c =
    let q = c.number-k.ensures ∙ c.prepare_fault.ensures in
    rw (bars-no-refused _ _ (rw q at c.if-k-eq0.false) (rw q at c.if-short.false))
