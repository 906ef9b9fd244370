-- What `go_on` cites: what its loop holds on to. Assumes nothing.
use mathlib.Core.Path.{◌≡◌, sym, ap, subst, ◌∙◌}
use mathlib.Core.Bool.{Bool, true, false, cond, true≢false}
use Prim.Native.Nat.{ℕ, suc, ◌+◌, ◌-◌, ◌<◌, ◌^◌}
use native.Mathlib.Omega.{arith}
use lib.Dec.{ltb}
use borrow.Author.Tests.{ltb-true, ltb-false}
use Rattle.laws.proofs.Bools.{by_bool}
use Rattle.run_calls.specs.Machine.{go}
use Rattle.run_record.specs.declared.Run.{Run}
use Rattle.run_entry.specs.State.{Memory, State, state}
use Rattle.run_entry.specs.Entry.{Good, Workable}
use Rattle.std.specs.Prelude.{Result}
use Rattle.run_finish.specs.declared.Halt.{Halt}
use Rattle.run_finish.specs.Finish.{why_of, run_left}
use Rattle.run_units.specs.Units.{is_done, turned, Turned, unit}
use Rattle.run_budget.specs.declared.Going.{Going}
use Rattle.run_budget.specs.declared.Worked.{Worked as Left}
use Rattle.run_budget.specs.Budget.{machine, stands_of, halted_of, worked, told, started_of, spends_on, counted_on, ended_of}
use Rattle.run_budget.proofs.Spends.{Spends, spends-start, spends-good, spends-next, spends-halt, spends-done}

-- the units so far have led from y to the present state; or one was not done, and what the call leaves is known
pub record Leads (b : ℕ) (y : State) (g : Going) (m : Memory) : Type 0 where
  pub on : is_done g.why ≡ true → Spends b y g.k (state g.run m)
  pub off : is_done g.why ≡ false → worked (halted_of g.run.standing g.why g.k) (state g.run m) ≡ told (go machine b y)

-- units that may yet be tried
abbrev pub calls_left : ℕ → Going → ℕ
calls_left b g = cond (is_done g.why) (suc (b - g.k)) 0

pub calls-start : (b : ℕ) (r : Run) (m : Memory) → Good (state r m) → (g : Going) → g ≡ started_of r → Leads b (state r m) g m
calls-start b r m k g eg = subst (λ (x : Going). Leads b (state r m) x m) (sym eg) (record { on = λ _. spends-start b (state r m) k; off = λ e. absurd (true≢false e) })

module _ (b : ℕ) (y : State) (g : Going) (m : Memory) (k : Leads b y g m) (t : Bool) (et : t ≡ spends_on g b) where
  module _ (yes-t : t ≡ true) where
    done : is_done g.why ≡ true
    unfolding spends_on
    done = by_bool (is_done g.why ≡ true) (is_done g.why) (λ e. e) (λ e. absurd (true≢false (sym (sym et ∙ yes-t) ∙ rw e)))

    less : g.k < b
    unfolding spends_on
    less = let l : ltb g.k b ≡ true = rw done at (sym et ∙ yes-t) in ltb-true g.k b l

    pub calls-workable : Workable (state g.run m)
    calls-workable = spends-good (k.on done)

    pub calls-fits : b < 2 ^ 32 → g.k + 1 < 2 ^ 32
    calls-fits h = omega (arith, less, h)

    module _ (u : Result Run Halt) (m' : Memory) (eu : turned (state (run_left g.run u) m') (why_of u) ≡ unit (state g.run m)) (h : Going) (eh : h ≡ counted_on g u) where
      abbrev here : Turned
      here = turned (state (run_left g.run u) m') (why_of u)

      pub calls-next : Leads b y h m'
      unfolding counted_on
      calls-next = subst (λ (x : Going). Leads b y x m') (sym eh)
          (record {
            on = λ e. rw e (spends-next here (k.on done) less eu e);
            off = λ e. rw e (spends-halt here (k.on done) less eu e);
          })

      pub calls-nearer : calls_left b h < calls_left b g
      unfolding counted_on
      calls-nearer = rw (eh, done) (by_bool (cond (is_done (why_of u)) (suc (b - cond (is_done (why_of u)) (g.k + 1) g.k)) 0 < suc (b - g.k)) (is_done (why_of u))
          (λ e. rw e (omega (arith, less))) (λ e. rw e (omega arith)))

  pub calls-end : t ≡ false → (w : Left) → w ≡ ended_of g → worked w.answer (state w.run m) ≡ told (go machine b y)
  unfolding spends_on ended_of
  calls-end no-t w ew =
      ap (λ (x : Left). worked x.answer (state x.run m)) ew
      ∙ by_bool (worked (cond (is_done g.why) (stands_of g.run.standing g.k) (halted_of g.run.standing g.why g.k)) (state g.run m) ≡ told (go machine b y)) (is_done g.why)
      (λ e. let l : ltb g.k b ≡ false = rw e at (sym et ∙ no-t) in rw e (spends-done (k.on e) (ltb-false g.k b l)))
      (λ e. rw e (k.off e))
