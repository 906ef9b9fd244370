-- What the figure's call cites: what its test has shown, and what it tells in each case. Assumes nothing.
use mathlib.Core.Path.{◌≡◌, sym, ap, ◌∙◌}
use mathlib.Core.List.{List}
use mathlib.Core.Bool.{Bool, true, false}
use Prim.Native.Nat.{ℕ, ◌≤◌}
use lib.ListN.{length}
use lib.Ieee.{Float}
use Rattle.run_record.specs.declared.Run.{Run}
use Rattle.run_entry.specs.State.{Memory}
use Rattle.std.specs.Prelude.{Result}
use lib.ListN.{set}
use Rattle.divergence.specs.declared.DivergenceFault.{DivergenceFault}
use Rattle.divergence.specs.Divergence.{divergence_number}
use Rattle.desk_divergence.specs.HostDivergence.{diverged_word}
use Rattle.divergence.specs.Divergence.{divergence_of}
use Rattle.record_words.specs.RecordWords.{run_of, worded}
use Rattle.fault_words.specs.FaultWords.{unfit, unfit_told}
use Rattle.fault_words.proofs.Fit.{fit-room, fit-long}
use Rattle.desk_divergence.specs.HostDivergence.{diverged_told, host_divergence}

module _ (w : List ℕ) (m : Memory) (y : List Float) (a : List ℕ) (b : Bool) (e : b ≡ unfit w (length a)) where
  pub unfit-said : b ≡ true → (k : ℕ) (a' : List ℕ) → worded k a' ≡ unfit_told w a → worded k a' ≡ host_divergence w m y a
  unfolding host_divergence
  unfit-said t k a' s = rw (sym e ∙ t) s

  pub answer-room : b ≡ false → 1 ≤ length a
  answer-room t = fit-room w (length a) (sym e ∙ t)

  pub long-said : b ≡ false → 14 ≤ length w
  long-said t = fit-long w (length a) (sym e ∙ t)

  pub figure-said : b ≡ false → (r : Run) → r ≡ run_of w → (d : Result Float DivergenceFault) → d ≡ divergence_of r m y →
      (k : ℕ) (a' : List ℕ) → worded k a' ≡ worded (divergence_number d) (set a 0 (diverged_word d)) → worded k a' ≡ host_divergence w m y a
  unfolding host_divergence diverged_told
  figure-said t r er d ed k a' s =
      let d' : d ≡ divergence_of (run_of w) m y = ed ∙ ap (λ (x : Run). divergence_of x m y) er in
      rw (sym e ∙ t) (s ∙ ap (λ (x : Result Float DivergenceFault). diverged_told x a) d')
