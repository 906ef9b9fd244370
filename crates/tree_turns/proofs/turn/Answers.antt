-- `tree_turns::turn` meets its contract: by `child-below`, `shl_one`.
use lib.Pow.{pow_mono}
use Rattle.tree_children.proofs.Below.{child-below}
use Rattle.tree_turns.specs.Turns.{turn_of}
use borrow.Author.Tests.{eq-eqb, ne_eqb, le-leb, lt-leb}
use Rattle.laws.proofs.Numbers.{shl_one}
use native.Mathlib.Omega.{arith}
use Rattle.tree_turns.proofs.turn.Goals as goal

pub overflow_add-result : goal.overflow_add-result
overflow_add-result c =
    rw c.child_index-k.ensures
    (omega (
      arith,
      child-below c.args.c c.args.v.centre c.args.p,
      pow_mono {i = c.args.c} {j = 3} (omega arith),
      c.struct_known-then-v-ne0-1.given,
    ))

pub returns-then-v-ne0 : goal.returns-then-v-ne0
unfolding turn_of
returns-then-v-ne0 c =
    simp (ne_eqb _ _ c.if-v-ne0.true, c.absorb-a.ensures, c.child_index-k.ensures)

pub returns-in_default : goal.returns-in_default
unfolding turn_of
returns-in_default c =
    simp (c.settled.ensures, eq-eqb _ _ c.if-v-ne0.false, c.in_default.is, c.occupy.ensures, c.absorb-a.ensures)

pub returns-then-depth-ge-DEEPEST : goal.returns-then-depth-ge-DEEPEST
unfolding turn_of
returns-then-depth-ge-DEEPEST c =
    simp (c.settled-then-depth-ge-DEEPEST.ensures, eq-eqb _ _ c.if-v-ne0.false, c.in-Some.is, le-leb _ _ c.if-depth-ge-DEEPEST.true, c.absorb-a.ensures)

pub overflow_add-result-2 : goal.overflow_add-result-2
overflow_add-result-2 c =
    rw c.child_index-k.ensures
    (omega (arith, child-below c.args.c c.args.v.centre c.args.p, pow_mono {i = c.args.c} {j = 3} (omega arith)))

pub returns : goal.returns
unfolding turn_of
returns c =
    simp (
      eq-eqb _ _ c.if-v-ne0.false,
      c.in-Some.is,
      lt-leb _ _ c.if-depth-ge-DEEPEST.false,
      c.split-w.ensures,
      c.absorb-a.ensures,
      c.child_index-k.ensures,
      shl_one c.args.c (omega arith),
    )
