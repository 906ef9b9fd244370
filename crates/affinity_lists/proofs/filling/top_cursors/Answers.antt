use native.Mathlib.Nat.{le_refl}
use Prim.Native.Nat.{◌-◌, ◌*◌}
use Rattle.laws.proofs.Numbers.{row_in}
use Rattle.affinity_lists.proofs.Topping.{topping-start, topping-next, topping-done}
use native.Mathlib.Omega.{arith}
use Rattle.affinity_lists.proofs.filling.top_cursors.Goals as goal

pub loop-j-init : goal.loop-j-init
loop-j-init c =
    topping-start

pub overflow_mul-j : goal.overflow_mul-j
overflow_mul-j c =
    omega (
      arith,
      (row_in c.loop-j.j c.args.n c.args.k (c.args.n * c.args.k) c.loop-j-test.true
          (le_refl (c.args.n * c.args.k))),
      c.requires.2,
    )

pub held-requires : goal.held-requires
held-requires c = (
  omega (arith, c.requires.0, c.requires.1),
  omega (
    arith,
    (row_in c.loop-j.j c.args.n c.args.k (c.args.n * c.args.k) c.loop-j-test.true
        (le_refl (c.args.n * c.args.k))),
    c.requires.2,
  ),
  λ l. omega
      (arith, c.requires.0, c.requires.4.inside c.loop-j.j (c.args.k - 1) c.loop-j-test.true (omega arith)),
)

pub offset_bounds-row_indices-j : goal.offset_bounds-row_indices-j
offset_bounds-row_indices-j c =
    omega (arith, c.requires.3, c.loop-j.invariant.size)

pub bounds-row_indices-j : goal.bounds-row_indices-j
bounds-row_indices-j c =
    omega (arith, c.requires.3, c.loop-j.invariant.size)

pub loop-j-preserved : goal.loop-j-preserved
loop-j-preserved c =
    topping-next _ c.requires.3 c.loop-j-test.true c.held.ensures c.loop-j.invariant

pub shape_of-row_indices : goal.shape_of-row_indices
shape_of-row_indices c =
    c.loop-j.invariant.size

pub returns : goal.returns
returns c =
    topping-done c.loop-j-test.false c.loop-j.invariant
