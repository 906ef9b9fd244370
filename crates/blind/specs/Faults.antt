-- The tests of a count of blind frames: 2, 7, 8, 9, 10 and 12, in this order. Definitions only.
-- Of the settings n, f and the perplexity are looked at, and no other.
use Rattle.std.specs.Prelude.{List, Bool, cond, not, ◌&&◌, ℕ, ◌*◌, eqb, leb, length, Float}
use Rattle.laws.specs.Loops.{every}
use Rattle.laws.specs.Area.{at}
use Rattle.elementary.specs.Limits.{in_domain}
use Rattle.run_record.specs.declared.Settings.{Settings}
use Rattle.run_record.specs.Record.{positive, from7, late_fault}

-- 2, and 7 for n or f
unfoldable pub size_fault : Settings → ℕ
size_fault s = cond (not (positive s.perplexity)) 2 (from7 s)

-- the first m values of a table are in the domain
abbrev pub table_fine : List Float → ℕ → Bool
table_fine t m = every (λ i. in_domain (at t i)) m

-- no row has fewer than n places
unfoldable pub rows_fit : ℕ → ℕ → ℕ → ℕ → ℕ → Bool
rows_fit n squares values shares places = leb n squares && leb n values && leb n shares && leb n places

-- the number of the first test that fails, by the lengths of the rows; 0: none
unfoldable pub blind_fault : Settings → List Float → ℕ → ℕ → ℕ → ℕ → ℕ
blind_fault s table squares values shares places =
    cond (not (eqb (size_fault s) 0)) (size_fault s)
    (cond (not (eqb (length table) (s.n * s.f))) 7
    (cond (not (table_fine table (s.n * s.f))) 8
    (cond (not (eqb (late_fault s) 0)) (late_fault s)
    (cond (rows_fit s.n squares values shares places) 0 12))))
