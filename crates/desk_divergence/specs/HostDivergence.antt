-- The figure or the refusal, with record and answer as plain words. Definitions only.
-- w are the record's words, a the answer's, y the copy.
use Rattle.std.specs.Prelude.{List, cond, ℕ, length, set, Float, Result, Ok, Err}
use Rattle.std.specs.Float.{binary64}
use Rattle.std.specs.Float.Ieee.{to_bits}
use Rattle.run_entry.specs.State.{Memory}
use Rattle.divergence.specs.declared.DivergenceFault.{DivergenceFault}
use Rattle.divergence.specs.declared.DivergenceFault.TheVariants.{Early, Bad}
use Rattle.divergence.specs.Divergence.{divergence_of, divergence_number}
use Rattle.record_words.specs.RecordWords.{run_of, Worded, worded}
use Rattle.fault_words.specs.FaultWords.{fault_value, unfit, unfit_told}

-- word 0: the figure's bits; refused, the place that comes with the number, 0 where none does
abbrev pub diverged_word : Result Float DivergenceFault → ℕ
diverged_word (Ok x) = to_bits binary64 x
diverged_word (Err Early) = 0
diverged_word (Err (Bad f)) = fault_value f

unfoldable pub diverged_told : Result Float DivergenceFault → List ℕ → Worded
diverged_told d a = worded (divergence_number d) (set a 0 (diverged_word d))

unfoldable pub host_divergence : List ℕ → Memory → List Float → List ℕ → Worded
host_divergence w m y a = cond (unfit w (length a)) (unfit_told w a) (diverged_told (divergence_of (run_of w) m y) a)
