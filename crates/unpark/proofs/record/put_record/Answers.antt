-- `unpark::record::put_record` meets its contract: by `record-told`, `head-long`, `parked-head`.
use Rattle.unpark.proofs.Fetched.{record-told}
use Rattle.parked_file.proofs.Stands.{head-long, parked-head}
use native.Mathlib.Omega.{arith}
use Rattle.unpark.proofs.record.put_record.Goals as goal

pub put_settings-requires : goal.put_settings-requires
put_settings-requires c =
    (omega arith, head-long _ (parked-head _ c.requires.1))

pub put_counters-requires : goal.put_counters-requires
put_counters-requires c =
    (omega arith, c.requires.1)

pub returns : goal.returns
returns c =
    rw (c.put_counters.ensures, c.put_settings.ensures) (record-told c.args.words.now _ c.requires.0)
