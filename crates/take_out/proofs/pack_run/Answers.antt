-- `take_out::pack_run` meets its contract: by `front-survives`, `pack-values-room`, `pack-links-room`, `packed-told`, `survivors-few`.
use Rattle.laws.specs.Area.{zero64}
use Rattle.areas.specs.Filled.{filled}
use Rattle.take_out.proofs.Rooms.{front-survives, pack-values-room, pack-links-room, packed-told}
use Rattle.take_gone.proofs.Left.{survivors-few}
use lib.ListN.{length}
use Prim.Native.Nat.{ℕ}
use mathlib.Core.Path.{sym, ap, ◌∙◌}
use native.Mathlib.Omega.{arith}
use Rattle.take_out.proofs.pack_run.Goals as goal

pub put_survivors-m-requires : goal.put_survivors-m-requires
put_survivors-m-requires c =
    (c.requires.pack-good.n-most, c.requires.pack-old, c.requires.pack-gone)

pub slice_bounds-pack_values-end : goal.slice_bounds-pack_values-end
slice_bounds-pack_values-end c =
    omega (
      arith,
      c.put_survivors-m.ensures.value,
      c.put_survivors-m.auto.old,
      survivors-few c.args.gone.now c.args.s.n,
      c.requires.pack-old,
    )

pub slice_bounds-pack_values-end-2 : goal.slice_bounds-pack_values-end-2
slice_bounds-pack_values-end-2 c =
    c.put_survivors-m.ensures.value ∙ ap length (sym (front-survives c.requires _ _ c.put_survivors-m.ensures.value c.put_survivors-m.ensures.after))

pub pack_values-requires : goal.pack_values-requires
pack_values-requires c =
    pack-values-room c.requires _ (front-survives c.requires _ _ c.put_survivors-m.ensures.value c.put_survivors-m.ensures.after)

pub slice_bounds-pack_affinities-end : goal.slice_bounds-pack_affinities-end
slice_bounds-pack_affinities-end c =
    omega (
      arith,
      c.put_survivors-m.ensures.value,
      c.put_survivors-m.auto.old,
      survivors-few c.args.gone.now c.args.s.n,
      c.requires.pack-old,
    )

pub slice_bounds-pack_affinities-end-2 : goal.slice_bounds-pack_affinities-end-2
slice_bounds-pack_affinities-end-2 c =
    c.put_survivors-m.ensures.value ∙ ap length (sym (front-survives c.requires _ _ c.put_survivors-m.ensures.value c.put_survivors-m.ensures.after))

pub pack_affinities-requires : goal.pack_affinities-requires
pack_affinities-requires c =
    pack-links-room c.requires _ (front-survives c.requires _ _ c.put_survivors-m.ensures.value c.put_survivors-m.ensures.after)

pub overflow_mul-s : goal.overflow_mul-s
overflow_mul-s c =
    omega (arith, c.requires.pack-good.c-most)

pub overflow_add-s : goal.overflow_add-s
overflow_add-s c =
    omega (arith, c.requires.pack-good.c-most)

pub times-requires : goal.times-requires
times-requires c =
    (omega (arith, c.requires.pack-good.n-most), omega (arith, c.requires.pack-good.c-most))

pub fill-requires : goal.fill-requires
fill-requires c =
    omega (arith, c.times.ensures, c.requires.pack-forces)

pub shape_of-positions : goal.shape_of-positions
shape_of-positions c =
    c.pack_values.auto.positions

pub shape_of-increments : goal.shape_of-increments
shape_of-increments c =
    c.pack_values.auto.increments

pub shape_of-gains : goal.shape_of-gains
shape_of-gains c =
    c.pack_values.auto.gains

pub shape_of-affinities : goal.shape_of-affinities
shape_of-affinities c =
    c.pack_affinities.auto.affinities

pub shape_of-indices : goal.shape_of-indices
shape_of-indices c =
    c.pack_affinities.auto.indices

pub shape_of-offsets : goal.shape_of-offsets
shape_of-offsets c =
    c.pack_affinities.auto.offsets

pub shape_of-forces : goal.shape_of-forces
shape_of-forces c =
    c.fill.auto.area

pub shape_of-table : goal.shape_of-table
shape_of-table c =
    c.pack_values.auto.table

pub shape_of-old : goal.shape_of-old
shape_of-old c =
    c.put_survivors-m.auto.old

pub returns : goal.returns
returns c =
    packed-told c.requires _ _ (front-survives c.requires _ _ c.put_survivors-m.ensures.value c.put_survivors-m.ensures.after)
    c.put_survivors-m.ensures.after _ _ _ _ _ _ _ _ c.pack_values.ensures c.pack_affinities.ensures
    (c.fill.ensures ∙ ap (λ (k : ℕ). filled zero64 k c.args.forces.now) c.times.ensures)
