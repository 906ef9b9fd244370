-- Each answer is the definition's, by the tests passed on the way to it: too few words, a method that there is not, settings with a number, else the state.
use mathlib.Core.Path.{sym, ◌∙◌}
use native.Mathlib.Omega.{arith}
use Rattle.refusal.proofs.Numbers.{refusal-some, refusal-by-number}
use borrow.Author.Tests.{lt-ltb, le-ltb, ne_eqb}
use Rattle.fault_words.proofs.unread_fault.Goals as goal

pub returns-then-words-lt14 : goal.returns-then-words-lt14
returns-then-words-lt14 c =
    rw (lt-ltb _ _ c.if-words-lt14.true)

pub returns-then-not-settings_fine : goal.returns-then-not-settings_fine
returns-then-not-settings_fine c =
    rw (le-ltb _ _ c.if-words-lt14.false, sym c.settings_fine.ensures ∙ c.if-not-settings_fine.true)

pub settings_of-requires : goal.settings_of-requires
settings_of-requires c =
    omega (arith, c.if-words-lt14.false)

pub returns-in-Err : goal.returns-in-Err
returns-in-Err c =
    let d = c.in-Err.r in
    rw (
      le-ltb _ _ c.if-words-lt14.false,
      sym c.settings_fine.ensures ∙ c.if-not-settings_fine.false,
      sym c.settings_of.ensures,
      sym c.in-Err.ensures,
      ne_eqb _ 0 (refusal-some d),
      refusal-by-number d,
    )

pub returns-in-Ok : goal.returns-in-Ok
returns-in-Ok c =
    rw (
      le-ltb _ _ c.if-words-lt14.false,
      sym c.settings_fine.ensures ∙ c.if-not-settings_fine.false,
      sym c.settings_of.ensures,
      sym c.in-Ok.ensures,
    )
