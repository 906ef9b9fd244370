-- `bench_mapping::map_file` meets its contract: by `frames-few`, `too_long`, `bad-record`, `all-mapped`.
use native.Mathlib.Omega.{arith}
use Rattle.bench_mapping.proofs.Laws.{frames-few, too_long, bad-record, all-mapped}
use mathlib.Core.Path.{sym, ◌∙◌}
use Rattle.bench_mapping.proofs.map_file.Goals as goal

pub returns-then-file-gt-BENCH_BYTES : goal.returns-then-file-gt-BENCH_BYTES
returns-then-file-gt-BENCH_BYTES c =
    too_long _ (omega (arith, c.if-file-gt-BENCH_BYTES.true))

pub map_frames-requires : goal.map_frames-requires
map_frames-requires c =
    frames-few _ _ (omega (arith, c.if-file-gt-BENCH_BYTES.false)) (sym c.read_frames.ensures ∙ c.in-Ok.is)

pub returns-in-Err : goal.returns-in-Err
returns-in-Err c =
    bad-record _ (omega (arith, c.if-file-gt-BENCH_BYTES.false)) _ (sym c.read_frames.ensures ∙ c.in-Err.is)

pub returns-in-Ok : goal.returns-in-Ok
returns-in-Ok c =
    all-mapped _ (omega (arith, c.if-file-gt-BENCH_BYTES.false)) _ _ (sym c.read_frames.ensures ∙ c.in-Ok.is) c.map_frames.ensures
