-- `affinity_links::fallen` meets its contract, by its test and `held`. Assumes nothing.
use Prim.Native.Nat.{◌+◌, ◌%◌}
use Rattle.affinity_links.specs.Links.{fallen_of}
use borrow.Author.Tests.{eq-eqb, ne_eqb}
use native.Mathlib.Omega.{arith}
use Rattle.affinity_links.proofs.fallen.Goals as goal

pub overflow_add-j : goal.overflow_add-j
overflow_add-j c =
    omega (arith, c.requires.0)

pub returns-then-w-j : goal.returns-then-w-j
unfolding fallen_of
returns-then-w-j c =
    rw (ne_eqb _ _ c.if-w-j.true)

pub overflow_sub-w : goal.overflow_sub-w
overflow_sub-w c =
    omega (arith, c.requires.1.some (omega arith))

pub held-requires : goal.held-requires
held-requires c =
    (omega (arith, c.requires.1.small), omega (arith, c.requires.1.inside), λ l. c.requires.1.frames _ (omega arith))

pub returns : goal.returns
unfolding fallen_of
returns c =
    rw (eq-eqb (c.args.w % 8192) (c.args.j + 1) (omega (arith, c.if-w-j.false))) c.held.ensures
