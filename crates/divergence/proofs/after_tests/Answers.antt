-- `divergence::after_tests` meets its contract: from what its calls promise.
use Rattle.run_entry.specs.Entry.{is_fine}
use mathlib.Core.Path.{sym, ◌∙◌, ap}
use Rattle.divergence.specs.Divergence.{after_tests}
use Rattle.divergence.proofs.after_tests.Goals as goal

pub returns-in-Err : goal.returns-in-Err
unfolding after_tests
returns-in-Err c =
    rw c.in-Err.is

pub too_early-requires : goal.too_early-requires
too_early-requires c =
    (c.requires (ap is_fine c.in_default.is)).total-room

pub returns-then-too_early : goal.returns-then-too_early
unfolding after_tests
returns-then-too_early c =
    rw (c.in_default.is, sym c.too_early.ensures ∙ c.if-too_early.true)

pub figure-requires : goal.figure-requires
figure-requires c =
    c.requires (ap is_fine c.in_default.is)

pub returns : goal.returns
unfolding after_tests
returns c =
    rw (c.in_default.is, sym c.too_early.ensures ∙ c.if-too_early.false, c.figure.ensures)
