-- Settings and record as plain words of 64 bits, which a host can keep; values by their bits. Definitions only.
use Rattle.std.specs.Prelude.{List, Bool, cond, ◌&&◌, ℕ, eqb, leb, length, set}
use Rattle.std.specs.Float.{binary64}
use Rattle.std.specs.Float.Ieee.{to_bits}
use Rattle.laws.specs.Area.{num, bits}
use Rattle.run_record.specs.declared.Method.{Method}
use Rattle.run_record.specs.declared.Method.TheVariants.{Exact, BarnesHut}
use Rattle.run_record.specs.declared.Standing.{Standing}
use Rattle.run_record.specs.declared.Standing.TheVariants.{Running as Runs, Stopped as Stops, Finished as Ends}
use Rattle.run_record.specs.declared.Settings.{Settings}
use Rattle.run_record.specs.declared.Run.{Run}

-- ---- settings: n, f, c, method (0 exact, 1 Barnes-Hut), perplexity, rate, iterations, angle, minimum

unfoldable pub method_of : ℕ → Method
method_of w = cond (eqb w 0) Exact BarnesHut

abbrev pub method_word : Method → ℕ
method_word Exact = 0
method_word BarnesHut = 1

-- there are nine words, and the method is one of the two
unfoldable pub settings_fine : List ℕ → Bool
settings_fine w = leb 9 (length w) && leb (num w 3) 1

unfoldable pub settings_of : List ℕ → Settings
settings_of w = record {
  n = num w 0;
  f = num w 1;
  c = num w 2;
  perplexity = bits (num w 4);
  rate = bits (num w 5);
  iterations = num w 6;
  minimum = bits
      (num w 8);
  angle = bits (num w 7);
  method = method_of (num w 3);
}

unfoldable pub settings_put : Settings → List ℕ → List ℕ
settings_put s w = set (set (set (set (set (set (set (set (set w 0 s.n) 1 s.f) 2 s.c) 3 (method_word s.method)) 4 (to_bits binary64 s.perplexity)) 5
    (to_bits binary64 s.rate)) 6 s.iterations) 7 (to_bits binary64 s.angle)) 8 (to_bits binary64 s.minimum)

-- ---- the record: its settings, then the state (0 running, 1 stopped, 2 finished), iterations done, units done in this iteration, units done in all, nodes in use

unfoldable pub standing_of : ℕ → Standing
standing_of w = cond (eqb w 0) Runs (cond (eqb w 1) Stops Ends)

abbrev pub standing_word : Standing → ℕ
standing_word Runs = 0
standing_word Stops = 1
standing_word Ends = 2

unfoldable pub run_fine : List ℕ → Bool
run_fine w = leb 14 (length w) && settings_fine w && leb (num w 9) 2

unfoldable pub run_of : List ℕ → Run
run_of w = record { settings = settings_of w; standing = standing_of (num w 9); done = num w 10; phase = num w 11; units = num w 12; used = num w 13 }

-- the five words that a unit can change
unfoldable pub progress_put : Run → List ℕ → List ℕ
progress_put r w = set (set (set (set (set w 9 (standing_word r.standing)) 10 r.done) 11 r.phase) 12 r.units) 13 r.used

unfoldable pub run_put : Run → List ℕ → List ℕ
run_put r w = progress_put r (settings_put r.settings w)

-- ---- a call that writes words

-- the number where the record's area is too short, by that of the call's own tests: one of 1 to 11 comes first, else it is 12
abbrev pub short_number : ℕ → ℕ
short_number k = cond (eqb k 0) 12 k

-- its answer's number, and the words as it leaves them
pub record Worded : Type 0 where
  pub number : ℕ
  pub words : List ℕ

abbrev pub worded : ℕ → List ℕ → Worded
worded k w = record { number = k; words = w }
