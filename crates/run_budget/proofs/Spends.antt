-- The budget loop: so many units have led from the state at entry to the present one, which is still workable. Assumes nothing.
use mathlib.Core.Path.{◌≡◌, refl, sym, ap, ◌∙◌}
use mathlib.Core.Bool.{Bool, true, false, cond, not, true≢false}
use Prim.Native.Nat.{ℕ, ◌+◌, ◌<◌, ◌≤◌}
use native.Mathlib.Omega.{arith}
use lib.Dec.{ltb}
use borrow.Author.Tests.{lt-ltb, le-ltb}
use Rattle.laws.proofs.Bools.{by_bool, or_yes, or_left, or_right}
use Rattle.run_calls.specs.Machine.{over, refused, running, called, stops, kind_at, go}
use Rattle.run_calls.proofs.Demand.{Goes, goes-start, goes-next, goes-halt, goes-done}
use Rattle.run_record.specs.declared.Standing.{Standing}
use Rattle.run_record.specs.declared.Standing.TheVariants.{Running, Stopped, Finished}
use Rattle.run_record.specs.Record.{is_ended}
use Rattle.run_entry.specs.State.{State}
use Rattle.run_entry.specs.Entry.{Good, Workable}
use Rattle.run_units.specs.Units.{unit, is_done, Turned}
use Rattle.run_units.proofs.One.{unit-over}
use Rattle.run_budget.specs.Budget.{machine, worked, told, answer_of, stands_of, halted_of}
use Rattle.run_budget.proofs.Keeps.{ordered-looser, unit-refused, workable-keeps}

-- ---- when a unit is due

-- the run has not ended and the unit is not refused
pub due : (s : State) → stops machine s ≡ false → (is_ended s.run.standing ≡ false) × (is_done (unit s).why ≡ true)
unfolding stops
due s e = (or_left (is_ended s.run.standing) (not (is_done (unit s).why)) e, not_is (is_done (unit s).why) (or_right (is_ended s.run.standing) (not (is_done (unit s).why)) e))
  where
    not_is : (b : Bool) → not b ≡ false → b ≡ true
    not_is true e = refl
    not_is false e = absurd (true≢false e)

live-of-done : (s : State) → is_done (unit s).why ≡ true → is_ended s.run.standing ≡ false
live-of-done s d = by_bool (is_ended s.run.standing ≡ false) (is_ended s.run.standing) (λ e. absurd (true≢false (sym d ∙ ap (λ (t : Turned). is_done t.why) (sym (unit-over s e))))) (λ e. e)

stops-not-done : (s : State) → is_done (unit s).why ≡ false → stops machine s ≡ true
unfolding stops
stops-not-done s d = or_yes (is_ended s.run.standing) (not (is_done (unit s).why)) (ap not d)

goes-done-unit : (s : State) → is_done (unit s).why ≡ true → stops machine s ≡ false
unfolding stops
goes-done-unit s d = rw (d, live-of-done s d)

-- ---- the loop

pub keeping : (s : State) → Workable s → stops machine s ≡ false → Workable (unit s).now
keeping s g e = workable-keeps s g (due s e).0 (due s e).1

abbrev pub Spends : ℕ → State → ℕ → State → Type 0
Spends b y k x = Goes machine Workable keeping b y k x

pub spends-start : (b : ℕ) (y : State) → Good y → Spends b y 0 y
spends-start b y g = goes-start machine Workable keeping b y (ordered-looser y.run.settings.n (y.run.settings.n + y.run.phase) y (omega arith) g)

pub spends-good : {b k : ℕ} {y x : State} → Spends b y k x → Workable x
spends-good r = r.good

told-halt : (b k : ℕ) (x : State) → k < b → told (called x k (kind_at machine b k x)) ≡ worked (halted_of x.run.standing (unit x).why k) x
unfolding kind_at answer_of halted_of
told-halt b k x h = by_bool (told (called x k (kind_at machine b k x)) ≡ worked (halted_of x.run.standing (unit x).why k) x) (is_ended x.run.standing) (λ e. rw e) (λ e. rw (e, lt-ltb k b h))

told-done : (b k : ℕ) (x : State) → b ≤ k → told (called x k (kind_at machine b k x)) ≡ worked (stands_of x.run.standing k) x
unfolding kind_at answer_of
told-done b k x h = by-standing x.run.standing refl
  where
    by-standing : (s : Standing) → x.run.standing ≡ s → told (called x k (cond (is_ended x.run.standing) over (cond (ltb k b) refused running))) ≡ worked (stands_of x.run.standing k) x
    by-standing Running e = rw (e, le-ltb k b h)
    by-standing Stopped e = rw e
    by-standing Finished e = rw e

module _ {b k : ℕ} {y x : State} where
  pub spends-next : (t : Turned) → Spends b y k x → k < b → t ≡ unit x → is_done t.why ≡ true → Spends b y (k + 1) t.now
  spends-next t r h e d = rw e (goes-next machine Workable keeping r h (goes-done-unit x (rw e at d)))

  pub spends-halt : (t : Turned) → Spends b y k x → k < b → t ≡ unit x → is_done t.why ≡ false → worked (halted_of t.now.run.standing t.why k) t.now ≡ told (go machine b y)
  spends-halt t r h e d =
      let q : is_done (unit x).why ≡ false = rw e at d in
      rw (e, unit-refused x q) (sym (told-halt b k x h) ∙ ap told (goes-halt machine Workable keeping r h (stops-not-done x q)))

  pub spends-done : Spends b y k x → b ≤ k → worked (stands_of x.run.standing k) x ≡ told (go machine b y)
  spends-done r h = sym (told-done b k x h) ∙ ap told (goes-done machine Workable keeping r h)
