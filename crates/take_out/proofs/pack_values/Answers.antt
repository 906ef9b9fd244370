-- `take_out::pack_values` meets its contract: by `values-kept`, `values-means`.
use Rattle.take_out.proofs.Rooms.{values-kept, values-means}
use lib.ListN.{length}
use mathlib.Core.Path.{ap}
use native.Mathlib.Omega.{arith}
use Rattle.take_out.proofs.pack_values.Goals as goal

pub means_left-requires : goal.means_left-requires
means_left-requires c = (
  c.requires.values-good.n-most,
  c.requires.values-good.c-most,
  c.requires.p-long,
  c.requires.values-gone,
  ap length
      c.requires.values-keep,
)

pub pack_centred-requires : goal.pack_centred-requires
pack_centred-requires c = (
  c.requires.values-good.n-most,
  c.requires.values-good.c-most,
  c.requires.p-long,
  values-kept c.requires,
  values-means
      c.requires _ _ c.means_left.ensures,
)

pub pack_rows-requires : goal.pack_rows-requires
pack_rows-requires c =
    (c.requires.values-good.n-most, omega (arith, c.requires.values-good.c-most), c.requires.i-long, values-kept c.requires)

pub pack_rows-requires-2 : goal.pack_rows-requires-2
pack_rows-requires-2 c =
    (c.requires.values-good.n-most, omega (arith, c.requires.values-good.c-most), c.requires.v-long, values-kept c.requires)

pub pack_rows-requires-3 : goal.pack_rows-requires-3
pack_rows-requires-3 c =
    (c.requires.values-good.n-most, c.requires.values-good.f-most, c.requires.t-long, values-kept c.requires)

pub shape_of-positions : goal.shape_of-positions
shape_of-positions c =
    c.pack_centred.auto.positions

pub shape_of-increments : goal.shape_of-increments
shape_of-increments c =
    c.pack_rows.auto.area

pub shape_of-gains : goal.shape_of-gains
shape_of-gains c =
    c.pack_rows-2.auto.area

pub shape_of-table : goal.shape_of-table
shape_of-table c =
    c.pack_rows-3.auto.area

pub returns : goal.returns
returns c =
    (c.pack_centred.ensures, c.pack_rows.ensures, c.pack_rows-2.ensures, c.pack_rows-3.ensures)
