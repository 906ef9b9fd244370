-- Calls with the same budgets on two such states answer the same, tell the same units and leave such states again. Assumes nothing.
use mathlib.Core.Path.{◌≡◌, refl, sym, ap, ◌∙◌}
use mathlib.Core.List.{List, [], ◌∷◌}
use mathlib.Core.Bool.{Bool, true, false}
use Prim.Native.Nat.{ℕ, zero, suc}
use Rattle.laws.specs.Loops.{until}
use Rattle.laws.proofs.Bools.{by_bool}
use Rattle.run_calls.specs.Machine.{Kind, faulty, over, refused, running, Called, stops, after, units_done, kind_at, go, call}
use Rattle.run_record.specs.declared.Run.{Run}
use Rattle.run_record.specs.declared.Standing.{Standing}
use Rattle.run_entry.specs.State.{State}
use Rattle.run_entry.specs.Entry.{Found, is_fine, by_tests, fault_of}
use Rattle.run_finish.specs.Finish.{Why}
use Rattle.run_units.specs.Units.{unit}
use Rattle.run_budget.specs.declared.Answer.TheVariants.{Running, Bad}
use Rattle.run_budget.specs.Budget.{machine, answer_of, stands_of, refused_of}
use Rattle.descent.specs.Descent.{work, works, told_all}
use Rattle.mirror.specs.Mirror.{ShowsState, ShowsCalls}
use Rattle.mirror.proofs.Units.{unit-mirrored}

module _ (turns : ℕ → Bool) where
  -- ---- what a call looks at is the same

  stands_same : (s t : State) → ShowsState turns s t → s.run.standing ≡ t.run.standing
  stands_same s t w = ap (λ (r : Run). r.standing) w.same-record

  -- the entry tests go by record, lengths, lists and nodes
  pub fault-mirrored : (s t : State) → ShowsState turns s t → fault_of s ≡ fault_of t
  unfolding fault_of
  fault-mirrored s t w =
      let a = w.areas in
      rw (w.same-record, a.positions.long, a.increments.long, a.forces.long, a.gains, a.affinities, a.indices, a.offsets, a.nodes)

  stops_same : (s t : State) → ShowsState turns s t → stops machine s ≡ stops machine t
  unfolding stops
  stops_same s t w = rw ((unit-mirrored turns s t w).why, stands_same s t w)

  -- ---- so many units

  record Led (b : ℕ) (s t : State) : Type 0 where
    units : units_done machine b s ≡ units_done machine b t
    left : ShowsState turns (after machine b s) (after machine b t)

  after_both : (b : ℕ) (s t : State) → ShowsState turns s t → Led b s t
  unfolding until units_done
  after_both zero s t w = record { units = refl; left = w }
  after_both (suc b) s t w =
      let e = stops_same s t w in
      by_bool (Led (suc b) s t) (stops machine s)
      (λ x. let x' : stops machine t ≡ true = sym e ∙ x in record { units = rw (x, x', units_done); left = rw (x, x', until) w })
      (λ x.
      let x' : stops machine t ≡ false = sym e ∙ x in
      let i = after_both b (unit s).now (unit t).now (unit-mirrored turns s t w).now in
      record { units = rw (x, x', units_done) (ap suc i.units); left = rw (x, x', until) i.left })

  -- ---- a call

  -- two calls that tell the same and leave such states
  record SameCall (x y : Called State) : Type 0 where
    units : x.units ≡ y.units
    kind : x.kind ≡ y.kind
    state : ShowsState turns x.state y.state

  kind-mirrored : (b d : ℕ) (s t : State) → ShowsState turns s t → kind_at machine b d s ≡ kind_at machine b d t
  unfolding kind_at
  kind-mirrored b d s t w = rw (stands_same s t w)

  call-both : (b : ℕ) (s t : State) → ShowsState turns s t → SameCall (call machine b s) (call machine b t)
  unfolding call go
  call-both b s t w =
      let e = fault-mirrored s t w in
      let i = after_both b s t w in
      by_bool (SameCall (call machine b s) (call machine b t)) (is_fine (fault_of t))
      (λ f. rw (e, f) (record { units = i.units; kind = rw i.units (kind-mirrored b (units_done machine b t) (after machine b s) (after machine b t) i.left); state = i.left }))
      (λ f. rw (e, f) (record { units = refl; kind = refl; state = w }))

  answer-same : (k : Kind) (d : ℕ) (s t : State) → ShowsState turns s t → answer_of k s d ≡ answer_of k t d
  unfolding answer_of
  answer-same faulty d s t w = ap (λ (f : Found). by_tests f (Running d) Bad) (fault-mirrored s t w)
  answer-same over d s t w = ap (λ (z : Standing). stands_of z d) (stands_same s t w)
  answer-same refused d s t w = ap (λ (z : Why). refused_of z d) (unit-mirrored turns s t w).why
  answer-same running d s t w = refl

  -- THEOREM: a call with any budget answers the same, and leaves such states
  pub work-mirrored : (b : ℕ) (s t : State) → ShowsState turns s t → ((work b s).answer ≡ (work b t).answer) × ShowsState turns (work b s).left (work b t).left
  unfolding work
  work-mirrored b s t w =
      let i = call-both b s t w in
      (rw (i.kind, i.units) (answer-same (call machine b t).kind (call machine b t).units (call machine b s).state (call machine b t).state i.state), i.state)

  -- THEOREM: so do calls one after the other
  pub works-mirrored : (bs : List ℕ) (s t : State) → ShowsState turns s t → ShowsCalls turns bs s t
  unfolding works told_all
  works-mirrored [] s t w = record { left = w; units = refl; answer = λ b. (work-mirrored b s t w).0 }
  works-mirrored (b ∷ bs) s t w =
      let i = work-mirrored b s t w in
      let j = works-mirrored bs (work b s).left (work b t).left i.1 in
      record { left = j.left; units = rw (i.0, j.units); answer = j.answer }
