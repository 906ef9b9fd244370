-- `tree::insertion::level` meets its contract: the laws of a level, over what its calls promise.
use mathlib.Core.Path.{refl}
use native.Mathlib.Omega.{arith}
use lib.ListN.{length}
use Rattle.tree.proofs.Descends.{level_in, level-stores, level-splits, level-steps, level-told, level-met}
use Rattle.tree.proofs.insertion.level.Goals as goal

pub load-v-requires : goal.load-v-requires
load-v-requires c = level_in c.args.w c.args.positions.now c.args.cells.now c.requires _ refl

pub met-s-requires : goal.met-s-requires
met-s-requires c = level-met c.args.w c.args.positions.now c.args.cells.now c.requires c.load-v.result c.load-v.ensures

pub store-requires : goal.store-requires
store-requires c =
    level-stores c.args.w c.args.positions.now c.args.cells.now c.requires c.load-v.result c.load-v.ensures c.met-s.result c.met-s.ensures

pub subdivide-requires : goal.subdivide-requires
subdivide-requires c =
    level-splits c.args.w c.args.positions.now c.args.cells.now c.requires c.load-v.result c.load-v.ensures c.met-s.result c.met-s.ensures
    c.store.new.cells c.store.ensures

pub overflow_add-result : goal.overflow_add-result
overflow_add-result c = record {
  fits =
      level-steps c.args.w c.args.positions.now c.args.cells.now c.requires c.load-v.result c.load-v.ensures c.met-s.result c.met-s.ensures
      (length c.args.cells.now) refl (omega arith);
}

pub returns : goal.returns
returns c =
    level-told c.args.w c.args.positions.now c.args.cells.now c.requires c.load-v.result c.load-v.ensures c.met-s.result c.met-s.ensures
    c.store.new.cells c.store.ensures c.subdivide.new.cells c.subdivide.ensures
