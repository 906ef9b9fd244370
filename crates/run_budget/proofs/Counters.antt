-- What a unit does to the record keeps its counters in order. Assumes nothing.
use mathlib.Core.Path.{◌≡◌, refl, ◌∙◌}
use mathlib.Core.Bool.{true, false, ◌&&◌, true≢false}
use Prim.Native.Nat.{ℕ, suc, ◌+◌, ◌*◌, ◌<◌, ◌≤◌}
use native.Mathlib.Omega.{arith}
use native.Mathlib.Nat.{mul-le-mul_right, add-mul, one-mul}
use lib.Dec.{eqb, leb}
use lib.Ieee.{Float}
use borrow.Author.Tests.{ltb-true, leb-true, eq-eqb, lt-ltb, le-leb, eqb-true, eqb-false}
use Rattle.laws.specs.Domain.{early_iterations}
use Rattle.laws.proofs.Bools.{by_bool, and_left, and_right}
use Rattle.run_record.specs.declared.Run.{Run}
use Rattle.run_record.specs.declared.Standing.{Standing}
use Rattle.run_record.specs.declared.Standing.TheVariants.{Running, Stopped, Finished}
use Rattle.run_record.specs.Record.{is_ended, above_zero, per_of, state_fits, advanced_of, stops_now, closed_of}
use Rattle.run_record.proofs.Laws.{per-some}
use Rattle.run_entry.specs.Entry.{GoodCounters}

-- a running record fits whatever its phase is
phase-free : (s : Standing) (d i p q : ℕ) (l : Float) → is_ended s ≡ false → state_fits s d i p l ≡ true → state_fits s d i q l ≡ true
unfolding state_fits
phase-free Running d i p q l e h = h
phase-free Stopped d i p q l e h = absurd (true≢false e)
phase-free Finished d i p q l e h = absurd (true≢false e)

done_below : (s : Standing) (d i p : ℕ) (l : Float) → is_ended s ≡ false → state_fits s d i p l ≡ true → d < i
unfolding state_fits
done_below Running d i p l e h = ltb-true d i h
done_below Stopped d i p l e h = absurd (true≢false e)
done_below Finished d i p l e h = absurd (true≢false e)

-- the units of an iteration of this run
abbrev per_at : Run → ℕ
per_at r = per_of r.settings.method r.settings.n

module _ (r : Run) (live : is_ended r.standing ≡ false) (g : GoodCounters r) where
  below : r.done < r.settings.iterations
  below = done_below r.standing r.done r.settings.iterations r.phase r.settings.minimum live g.standing-fits

  pub advanced-good : (used : ℕ) → r.phase + 1 < per_at r → GoodCounters (advanced_of r used)
  unfolding advanced_of
  advanced-good used h = record {
    standing-fits = phase-free r.standing r.done r.settings.iterations r.phase (r.phase + 1) r.settings.minimum live g.standing-fits;
    phase-below = h;
    total = (let t = g.total in omega arith);
  }

  more-done : (r.done + 1) * per_at r ≡ r.done * per_at r + per_at r
  more-done = add-mul r.done 1 (per_at r) ∙ rw (one-mul (per_at r))

  closed-total : r.phase + 1 ≡ per_at r → r.units + 1 ≡ (r.done + 1) * per_at r + 0
  closed-total h = let t = g.total in let m = more-done in omega arith

  closed-fits : (norm : Float) → state_fits (closed_of r norm).standing (r.done + 1) r.settings.iterations 0 r.settings.minimum ≡ true
  unfolding closed_of stops_now state_fits
  closed-fits norm =
      let b = below in
      let i = r.settings.iterations in
      let P = state_fits (closed_of r norm).standing (r.done + 1) i 0 r.settings.minimum ≡ true in
      let A = leb early_iterations r.done in
      let B = above_zero r.settings.minimum in
      by_bool P (stops_now r norm)
      (λ e. let ab = and_left (A && B) _ e in
      rw e (rw (le-leb (suc early_iterations) (r.done + 1) (omega (arith, leb-true early_iterations r.done (and_left A B ab))), le-leb (r.done + 1) i (omega arith), and_right A B ab)))
      (λ e. by_bool P (eqb (r.done + 1) i) (λ q. rw (e, q) (rw (eqb-true (r.done + 1) i q, eq-eqb i i refl))) (λ q. rw (e, q) (lt-ltb (r.done + 1) i (omega (arith, eqb-false (r.done + 1) i q)))))

  pub closed-good : (norm : Float) → r.phase + 1 ≡ per_at r → GoodCounters (closed_of r norm)
  unfolding closed_of
  closed-good norm h = record {
    standing-fits = closed-fits norm;
    phase-below = (let q = per-some r.settings.method r.settings.n in omega arith);
    total = closed-total h;
  }

  -- units are fewer than the whole run's
  pub units-below : r.units < r.settings.iterations * per_at r
  units-below =
      let b = below in
      let m : (r.done + 1) * per_at r ≤ r.settings.iterations * per_at r = mul-le-mul_right (per_at r) (omega arith) in
      let e = more-done in
      let t = g.total in
      let p = g.phase-below in
      omega arith
