-- What the tests say once those of a work call have passed, of what would be left. Definitions only.
use Rattle.std.specs.Prelude.{List, ◌≡◌, Bool, true, cond, not, ◌&&◌, ℕ, ◌*◌, ◌<◌, ◌≤◌, eqb, ltb, pos, length, Float, Result, Ok, Err}
use Rattle.std.specs.Float.{binary64}
use Rattle.std.specs.Float.Ieee.{of_int, lt}
use Rattle.laws.specs.Area.{num}
use Rattle.laws.specs.Domain.{most_frames}
use Rattle.run_record.specs.declared.Settings.{Settings}
use Rattle.run_record.specs.declared.Run.{Run}
use Rattle.run_record.specs.Record.{is_tree, sizes_of, per_of, GoodSettings}
use Rattle.take_gone.specs.Gone.{gone_fine, survivors, Climbs}
use Rattle.take_calm.specs.CalmLeft.{calm_left}
use Rattle.take_lists.specs.Packed.{links_left, Listed}
use Rattle.refusal.specs.Refusal.{number_told}
use Rattle.take_left.specs.declared.Denial.{Denial}
use Rattle.take_left.specs.declared.Denial.TheVariants.{Inside, Unordered, Few, Perplexed, Crowded, Barred}

-- ---- the record of m survivors

-- the settings, but for the number of samples
unfoldable pub thinned : Settings → ℕ → Settings
thinned s m = record { n = m; f = s.f; c = s.c; perplexity = s.perplexity; rate = s.rate; iterations = s.iterations; minimum = s.minimum; angle = s.angle; method = s.method }

-- the iterations done stay done, now of m samples; the nodes in use stay as they are
unfoldable pub thinned_run : Run → ℕ → Run
thinned_run r m = record { settings = thinned r.settings m; standing = r.standing; done = r.done; phase = 0; units = r.done * per_of r.settings.method m; used = r.used }

-- ---- the tests

-- what the tests say: so many are left, or why nothing is taken out
abbrev pub Outlook : Type 0
Outlook = Result ℕ Denial

-- more links would be left than lists of that many samples hold: I and O are indices and offsets
unfoldable pub crowded : Settings → List ℕ → List ℕ → List ℕ → Bool
crowded s keep I O = is_tree s.method && ltb (sizes_of (thinned s (length keep))).links (links_left keep I O)

-- 17 inside an iteration; 18 for a list that does not rise or names no sample; then of what would be left 9, 10, 18 for its links, 15 for its positions y
unfoldable pub outlook_of : Run → List ℕ → List Float → List ℕ → List ℕ → Outlook
outlook_of r g y I O =
    let s = r.settings in
    let keep = survivors g s.n in
    cond (not (eqb r.phase 0)) (Err Inside)
    (cond (not (gone_fine g s.n)) (Err Unordered)
    (cond (ltb (length keep) 2) (Err Few)
    (cond (not (lt s.perplexity (of_int binary64 (pos (length keep))))) (Err Perplexed)
    (cond (crowded s keep I O) (Err Crowded)
    (cond (calm_left keep s.c y) (Ok (length keep)) (Err Barred))))))

abbrev pub denial_number : Denial → ℕ
denial_number Inside = 17
denial_number Unordered = 18
denial_number Few = 9
denial_number Perplexed = 10
denial_number Crowded = 18
denial_number Barred = 15

-- the number of a refusal; 0 where there is none
abbrev pub outlook_number : Outlook → ℕ
outlook_number = number_told denial_number

-- what the tests of a work call have shown
pub record OutlookRoom (r : Run) (y : List Float) (I O : List ℕ) : Type 0 where
  pub settings-good : GoodSettings r.settings
  pub positions-long : r.settings.n * r.settings.c ≤ length y
  pub lists-lie : is_tree r.settings.method ≡ true → Listed r.settings.n (length I) (length I) O
  pub lists-name : is_tree r.settings.method ≡ true → (i : ℕ) → i < num O r.settings.n → num I i < r.settings.n

-- what has been shown before links are counted: s are the settings, t those of what would be left
pub record CountRoom (s t : Settings) (g I O : List ℕ) : Type 0 where
  pub samples-most : s.n ≤ most_frames
  pub thinned-as : t ≡ thinned s (length (survivors g s.n))
  pub thinned-good : GoodSettings t
  pub gone-rises : Climbs g
  pub counted-lie : is_tree s.method ≡ true → Listed s.n (length I) (length I) O
  pub counted-name : is_tree s.method ≡ true → (i : ℕ) → i < num O s.n → num I i < s.n
