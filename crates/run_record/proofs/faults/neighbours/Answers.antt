-- `run_record::faults::neighbours` meets its contract: by `above-zero`.
use Rattle.run_record.proofs.Laws.{above-zero}
use Rattle.run_record.proofs.faults.neighbours.Goals as goal

pub neighbours-requires : goal.neighbours-requires
neighbours-requires c =
    (above-zero _ c.requires.perplexity-positive, c.requires.perplexity-below, c.requires.n-most)
