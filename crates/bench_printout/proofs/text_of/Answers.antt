-- `bench_printout::text_of` meets its contract: by `puts-front`.
use Rattle.text.proofs.Puts.{puts-front}
use Rattle.bench_printout.specs.Printed.{printed}
use Rattle.bench_printout.proofs.text_of.Goals as goal

pub returns : goal.returns
unfolding printed
returns c =
    let told = puts-front (rw c.map_file-m.ensures at c.put_told.ensures) in
    record { prefix_len = told.0; value = told.1.0; out_after = told.1.1 }
