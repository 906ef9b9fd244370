-- `run_record::faults::sizes_of` meets its contract: by `k-most`.
use Rattle.run_record.specs.Record.{sizes_of}
use Rattle.run_record.proofs.Laws.{k-most}
use native.Mathlib.Omega.{arith}
use Rattle.run_record.proofs.faults.sizes_of.Goals as goal

pub times-links-requires : goal.times-links-requires
times-links-requires c =
    let the-neighbours = c.neighbours-k in
    omega (arith, k-most c.args.s c.requires, the-neighbours.ensures)

pub returns : goal.returns
unfolding sizes_of
returns c =
    let the-times2 = c.times-forces in
    let the-times = c.times-cells in
    let the-neighbours = c.neighbours-k in
    rw (c.times-square.ensures, c.times-links.ensures, the-times2.ensures, the-times.ensures, the-neighbours.ensures)
