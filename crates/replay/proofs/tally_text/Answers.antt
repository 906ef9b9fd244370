-- `replay::tally_text` meets its contract: by `puts-front`.
use Rattle.text.proofs.Puts.{puts-front}
use Rattle.replay.proofs.tally_text.Goals as goal

pub returns : goal.returns
returns c =
    let told = puts-front c.put_tally.ensures in
    record { prefix_len = told.0; value = told.1.0; out_after = told.1.1 }
