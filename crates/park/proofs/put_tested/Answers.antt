-- `park::put_tested` meets its contract: by `words-room`, `end-small`, `bad-said`, `inside-said`, `barred-said`, `small-said` and others.
use Rattle.park.proofs.Laws.{words-room, end-small, bad-said, inside-said, barred-said, small-said, written-said}
use Rattle.run_entry.specs.Entry.{is_fine}
use mathlib.Core.Path.{sym, ◌∙◌, ap}
use native.Mathlib.Omega.{arith}
use Rattle.park.proofs.put_tested.Goals as goal

pub returns-in-Err : goal.returns-in-Err
returns-in-Err c =
    bad-said _ _ _ _ c.in-Err.is

pub bounds-words-11 : goal.bounds-words-11
bounds-words-11 c =
    omega (arith, (c.requires (ap is_fine c.in_default.is)).layout.words_long)

pub returns-then-words-ne0 : goal.returns-then-words-ne0
returns-then-words-ne0 c =
    inside-said _ _ _ (ap is_fine c.in_default.is) c.if-words-ne0.true

pub layout_in-l-requires : goal.layout_in-l-requires
layout_in-l-requires c =
    (c.requires (ap is_fine c.in_default.is)).layout

pub is_calm_state-requires : goal.is_calm_state-requires
is_calm_state-requires c =
    let r = words-room _ _ c.layout_in-l.ensures (c.requires (ap is_fine c.in_default.is)) in
    (r.positions-long, r.increments-long, r.gains-long)

pub returns-then-not-is_calm_state : goal.returns-then-not-is_calm_state
returns-then-not-is_calm_state c =
    barred-said _ _ _ (ap is_fine c.in_default.is) c.if-words-ne0.false _ c.layout_in-l.ensures
    (sym c.is_calm_state.ensures ∙ c.if-not-is_calm_state.true)

pub overflow_mul-l : goal.overflow_mul-l
overflow_mul-l c =
    omega (arith, end-small _ _ c.layout_in-l.ensures (c.requires (ap is_fine c.in_default.is)))

pub returns-then-target-l : goal.returns-then-target-l
returns-then-target-l c =
    small-said _ _ _ (ap is_fine c.in_default.is) c.if-words-ne0.false _ c.layout_in-l.ensures
    (sym c.is_calm_state.ensures ∙ c.if-not-is_calm_state.false) c.if-target-l.true

pub put_words-requires : goal.put_words-requires
put_words-requires c =
    (words-room _ _ c.layout_in-l.ensures (c.requires (ap is_fine c.in_default.is)), c.if-target-l.false)

pub shape_of-target : goal.shape_of-target
shape_of-target c =
    c.put_words.auto.target

pub returns : goal.returns
returns c =
    written-said _ _ _ (ap is_fine c.in_default.is) c.if-words-ne0.false _ c.layout_in-l.ensures
    (sym c.is_calm_state.ensures ∙ c.if-not-is_calm_state.false) c.if-target-l.false _ c.put_words.ensures
