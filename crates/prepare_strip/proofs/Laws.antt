-- When 20 refuses, and what is left then. Assumes nothing.
use mathlib.Core.Path.{◌≡◌}
use mathlib.Core.List.{List}
use mathlib.Core.Bool.{true, false, cond, ◌||◌}
use Prim.Native.Nat.{ℕ}
use native.Mathlib.Omega.{arith}
use lib.Dec.{eqb}
use lib.Ieee.{Float}
use borrow.Author.Tests.{eq-eqb, ne_eqb}
use Rattle.laws.proofs.Bools.{by_bool, and_no}
use Rattle.run_record.specs.declared.Settings.{Settings}
use Rattle.strip_profile.specs.Profile.{in_profile}
use Rattle.std.specs.Prelude.{Err}
use Rattle.prepare.specs.Prepare.{Lent, lengths_of, prepare_fault, prepare_outcome, prepared}
use Rattle.prepare_strip.specs.PrepareStrip.{strip_bars, prepared_strip}

module _ (s : Settings) (k : ℕ) where
  -- no settings of the profile
  pub bars-no-strip : in_profile s ≡ true → strip_bars s k ≡ false
  unfolding strip_bars
  bars-no-strip e = rw e (and_no (eqb k 0 || eqb k 12))

  -- none that a test from 1 to 11 has refused
  pub bars-no-refused : (k ≡ 0 → ⊥) → (k ≡ 12 → ⊥) → strip_bars s k ≡ false
  unfolding strip_bars
  bars-no-refused a b = rw (ne_eqb k 0 a, ne_eqb k 12 b)

  -- outside the profile: those that pass
  pub bars-passed : in_profile s ≡ false → k ≡ 0 → strip_bars s k ≡ true
  unfolding strip_bars
  bars-passed e q = rw (e, eq-eqb k 0 q)

  -- and those that only 12 would refuse
  pub bars-twelve : in_profile s ≡ false → (k ≡ 0 → ⊥) → strip_bars s k ≡ eqb k 12
  unfolding strip_bars
  bars-twelve e n = rw (e, ne_eqb k 0 n) (by_bool _ (eqb k 12) (λ q. rw q) (λ q. rw q))

module _ (s : Settings) (table start : List Float) (nodes : ℕ) (l : Lent) where
  -- refused by 20, the areas are as they were
  pub barred-outcome : strip_bars s (prepare_fault s table start (lengths_of l nodes)) ≡ true → prepare_outcome (Err 20) l ≡ prepared_strip s table start nodes l
  unfolding prepared_strip
  barred-outcome e = rw e

  -- else it is preparation
  pub passed_on : strip_bars s (prepare_fault s table start (lengths_of l nodes)) ≡ false → prepared s table start nodes l ≡ prepared_strip s table start nodes l
  unfolding prepared_strip
  passed_on e = rw e

  -- a number told by 20's test, 0 where it does not refuse
  pub refused-strip : {k : ℕ} → k ≡ cond (strip_bars s (prepare_fault s table start (lengths_of l nodes))) 20 0 → (k ≡ 0 → ⊥) → prepare_outcome (Err k) l ≡ prepared_strip s table start nodes l
  refused-strip {k} q n = by_bool (prepare_outcome (Err k) l ≡ prepared_strip s table start nodes l) (strip_bars s (prepare_fault s table start (lengths_of l nodes)))
      (λ b. rw (rw b at q) (barred-outcome b)) (λ b. absurd (n (rw b at q)))

  pub passed-strip : ◌≡◌ {A = ℕ} 0 (cond (strip_bars s (prepare_fault s table start (lengths_of l nodes))) 20 0) → prepared s table start nodes l ≡ prepared_strip s table start nodes l
  passed-strip q = by_bool (prepared s table start nodes l ≡ prepared_strip s table start nodes l) (strip_bars s (prepare_fault s table start (lengths_of l nodes)))
      (λ b. absurd (let z : ◌≡◌ {A = ℕ} 0 20 = rw b at q in omega arith)) passed_on
