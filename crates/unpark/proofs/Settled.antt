-- The settings that are read are in good order, and the total of their units fits a word. The premise is that the first three records stand.
use Prim.Native.Nat.{ℕ, ◌≤◌}
use Rattle.laws.specs.Area.{bits}
use Rattle.run_record.specs.Record.{GoodSettings, most_units}
use Rattle.run_record.proofs.Laws.{done-most, product-fits}
use Rattle.record_words.specs.RecordWords.{method_of, standing_of, settings_of}
use Rattle.parked_file.proofs.Heads.{Headed, components-most, tree-fine}
use Rattle.unpark.specs.Unpark.{record_read, settings_read}
use Rattle.unpark.specs.Steps.{units_read}

module _ (g : ℕ → ℕ) (h : Headed g) where
  pub read-settings-good : GoodSettings (settings_read g)
  unfolding settings_read settings_of record_read
  read-settings-good = record {
    c-some = h.first.c-some;
    c-most = components-most g h;
    perplexity-positive = h.second.perplexity-positive;
    rate-positive = h.second.rate-positive;
    iterations-some = h.second.iterations-some;
    iterations-most = h.second.iterations-most;
    tree-fine = tree-fine (g 0) (g 3) (g 7) h.first.c-most h.second.angle-fine h.first.method;
    n-some = h.first.n-some;
    n-most = h.first.n-most;
    f-some = h.first.f-some;
    f-most = h.first.f-most;
    perplexity-below = h.second.perplexity-below;
  }

  pub units-fit : units_read g ≤ most_units
  units-fit = product-fits (g 9) (g 6) (method_of (g 0)) (g 1) (done-most (standing_of (g 10)) (g 9) (g 6) 0 (bits (g 8)) h.third.state-fits) h.second.iterations-most h.first.n-most
