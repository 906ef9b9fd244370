-- `scatter::coordinate` meets its contract. Assumes nothing.
use Rattle.std.proofs.Common.{◌/◌, ◌^◌, arith, le→leb, rules}
use lib.Ieee.{in_float}
use Rattle.scatter.specs.Scatter.{coordinate_of}
use Rattle.scatter.proofs.coordinate.Goals as goal

pub int_to_float-result : goal.int_to_float-result
unfolding in_float
int_to_float-result c =
    le→leb (c.args.z / 2 ^ 11) (2 ^ 53) (omega arith)

pub returns : goal.returns
unfolding coordinate_of
returns c =
    search rules
