-- `tree::ways::probed` meets its contract: by `child-below`.
use lib.Pow.{pow_mono}
use Rattle.tree_children.proofs.Below.{child-below}
use Rattle.tree.specs.Ways.{probed_of}
use borrow.Author.Tests.{eq-eqb, ne_eqb}
use native.Mathlib.Omega.{arith}
use Rattle.tree.proofs.ways.probed.Goals as goal

pub leaf_needs-requires : goal.leaf_needs-requires
leaf_needs-requires c =
    (c.requires.0, c.requires.2)

pub returns-then-v-eq0 : goal.returns-then-v-eq0
unfolding probed_of
returns-then-v-eq0 c =
    rw (eq-eqb _ _ c.if-v-eq0.true, c.leaf_needs.ensures)

pub overflow_add-result-2 : goal.overflow_add-result-2
overflow_add-result-2 c =
    record {
      fits = rw c.child_index.ensures
          (omega (
            arith,
            child-below c.args.s.c c.args.v.centre c.args.s.p,
            pow_mono {i = c.args.s.c} {j = 3}
                c.requires.0.1,
          ));
    }

pub returns : goal.returns
unfolding probed_of
returns c =
    rw (ne_eqb _ _ c.if-v-eq0.false, c.child_index.ensures)
