-- `divergence::total` meets its contract: by `cells-forces`.
use mathlib.Core.Path.{sym, ◌∙◌}
use Rattle.run_rooms.proofs.Places.{cells-forces}
use Rattle.divergence.specs.Divergence.{total_of}
use native.Mathlib.Omega.{arith}
use Rattle.divergence.proofs.total.Goals as goal

pub share_sum-requires : goal.share_sum-requires
share_sum-requires c =
    (c.requires.settings-good.c-most, c.requires.forces-long)

pub returns-then-is_tree : goal.returns-then-is_tree
unfolding total_of
returns-then-is_tree c =
    rw (sym c.is_tree.ensures ∙ c.if-is_tree.true, c.share_sum.ensures)

pub overflow_mul-result : goal.overflow_mul-result
overflow_mul-result c =
    omega (arith, cells-forces c.args.r.settings.n c.args.r.settings.c, c.requires.forces-long)

pub offset_bounds-forces-s : goal.offset_bounds-forces-s
offset_bounds-forces-s c =
    omega (arith, cells-forces c.args.r.settings.n c.args.r.settings.c, c.requires.forces-long)

pub bounds-forces-s : goal.bounds-forces-s
bounds-forces-s c =
    omega (
      arith,
      cells-forces c.args.r.settings.n c.args.r.settings.c,
      c.requires.forces-long,
      c.requires.settings-good.n-some,
    )

pub returns : goal.returns
unfolding total_of
returns c =
    rw (sym c.is_tree.ensures ∙ c.if-is_tree.false)
