-- A run that was parked at the border of two iterations goes on as the run that was not. Assumes nothing.
--     goes-on-overnight                       call by call, for any budgets
--     demand-three-across-a-parking           budgets before and after it, beside one call with their sum
--     parked-again, forces-whole              any number of parkings; all places of a prepared run's forces
use mathlib.Core.Path.{◌≡◌, refl, sym, ap, subst, ◌∙◌}
use mathlib.Core.List.{List, [], ◌∷◌, ◌++◌}
use mathlib.Core.Bool.{true, false}
use Prim.Native.Nat.{ℕ, zero, suc, ◌+◌, ◌-◌, ◌*◌, ◌<◌, ◌≤◌}
use native.Mathlib.Omega.{arith}
use native.Mathlib.Nat.{le_refl, zero-add}
use native.Mathlib.Decide.{dec_lt}
use lib.Dec.{ltb}
use lib.Ieee.{Float}
use Rattle.laws.specs.Area.{at, zero64}
use Rattle.laws.proofs.Bools.{by_bool}
use Rattle.run_calls.specs.Machine.{stops, after, units_done, kind_at, go, together, capped}
use Rattle.laws.specs.Loops.{until}
use Rattle.run_calls.proofs.Demand.{good-after, call-goes}
use Rattle.run_record.specs.declared.Run.{Run}
use Rattle.run_record.specs.declared.Standing.{Standing}
use Rattle.run_record.specs.Record.{is_tree, is_ended}
use Rattle.run_entry.specs.State.{Memory, State, state}
use Rattle.run_entry.specs.Entry.{Good}
use Rattle.run_finish.specs.Finish.{Why}
use Rattle.run_units.specs.Units.{unit}
use Rattle.run_budget.specs.Budget.{machine, answer_of, stands_of, refused_of}
use Rattle.run_budget.proofs.Spends.{due}
use Rattle.descent.specs.Descent.{work, units_of, answer_kind, works, told_all}
use Rattle.descent.specs.Honest.{Honest}
use Rattle.descent.proofs.Lawful.{lawful}
use Rattle.descent.proofs.Grown.{honest-keeps}
use Rattle.descent.proofs.Theorems.{call-keeps, stays-honest, demand-three}
use Rattle.descent.proofs.Framed.{work-frames}
use Rattle.overnight.proofs.Untouched.{exact-keeps}
use Rattle.overnight.specs.Across.{reread, SameTo, SameLists, SameRun, ReadBack, Across}
use Rattle.overnight.proofs.Beside.{Beside, none_yet, unit-both}

-- ---- where it begins, and what is left of it

beside-start : (s t : State) → ReadBack s t → Beside s t s t
beside-start s t p =
    let n = s.run.settings.n in
    record {
      same = p.same;
      from = le_refl s.run.done;
      nodes = λ _ h. absurd (let q = h p.border in omega (arith, q));
      points = λ _ k h. absurd (none_yet (s.run.phase - n - 1) (2 * s.run.settings.c + 1) k (omega (arith, p.border)) h);
      total = λ _ h. absurd (omega (arith, h, p.border));
      rows = λ _ k h. absurd (none_yet (s.run.phase - n) s.run.settings.c k (omega (arith, p.border)) h);
      finished = λ q. absurd (omega (arith, q));
      kept-positions = record { each = λ _ e. e; long = λ e. e };
      kept-increments = record { each = λ _ e. e; long = λ e. e };
      kept-gains = record { each = λ _ e. e; long = λ e. e };
      kept-forces = record { each = λ _ e. e; long = λ e. e };
      kept-used = λ e. e;
    }

beside-across : (o o' s t : State) → Beside o o' s t → Across o o' s t
beside-across o o' s t w = record {
  same = w.same;
  finished = λ q. record {
    places = w.finished q;
    nodes = λ x. w.nodes x (λ _. q);
    whole-record = λ x. w.same.record_same ∙ rw (w.same.angle x, sym (w.nodes x (λ _. q)).number);
  };
  kept-positions = w.kept-positions;
  kept-increments = w.kept-increments;
  kept-gains = w.kept-gains;
  kept-forces = w.kept-forces;
  kept-used = w.kept-used;
}

-- what is read and passes the entry tests is honest: between iterations no tree is asked for
pub honest-read : (s t : State) → ReadBack s t → Good t → Honest t
honest-read s t p g = record { good = g; grown = λ _ q. absurd (q (ap (λ (r : Run). r.phase) p.same.record_same ∙ p.border)) }

-- ---- calls

module _ (o o' : State) where
  stands_same : (s t : State) → Beside o o' s t → s.run.standing ≡ t.run.standing
  stands_same s t w = sym (ap (λ (r : Run). r.standing) w.same.record_same)

  -- the next unit of a run that has not ended
  why-same : (s t : State) → Beside o o' s t → Honest s → Honest t → is_ended s.run.standing ≡ false → (unit s).why ≡ (unit t).why
  why-same s t w g g' live = (unit-both o o' s t w g.good g'.good live).0

  stops_same : (s t : State) → Beside o o' s t → Honest s → Honest t → stops machine s ≡ stops machine t
  unfolding stops
  stops_same s t w g g' =
      let e = stands_same s t w in
      by_bool (stops machine s ≡ stops machine t) (is_ended s.run.standing)
      (λ x. let x' : is_ended t.run.standing ≡ true = rw e at x in rw (x, x'))
      (λ x. let x' : is_ended t.run.standing ≡ false = rw e at x in rw (x, x', why-same s t w g g' x))

  -- what so many units leave
  record Led (b : ℕ) (s t : State) : Type 0 where
    units : units_done machine b s ≡ units_done machine b t
    left : Beside o o' (after machine b s) (after machine b t)

  after_both : (b : ℕ) (s t : State) → Beside o o' s t → Honest s → Honest t → Led b s t
  unfolding until units_done
  after_both zero s t w g g' = record { units = refl; left = w }
  after_both (suc b) s t w g g' =
      let e = stops_same s t w g g' in
      by_bool (Led (suc b) s t) (stops machine s)
      (λ x. let x' : stops machine t ≡ true = sym e ∙ x in record { units = rw (x, x', units_done); left = rw (x, x', until) w })
      (λ x.
      let x' : stops machine t ≡ false = sym e ∙ x in
      let d = due s x in
      let d' = due t x' in
      let i = after_both b (unit s).now (unit t).now (unit-both o o' s t w g.good g'.good d.0).1 (honest-keeps s g d.0 d.1) (honest-keeps t g' d'.0 d'.1) in
      record { units = rw (x, x', units_done) (ap suc i.units); left = rw (x, x', until) i.left })

  -- the answer goes by how the run stands, by the next unit's refusal and by the units done
  answer-same : (b d : ℕ) (s t : State) → Beside o o' s t → Honest s → Honest t → answer_of (kind_at machine b d s) s d ≡ answer_of (kind_at machine b d t) t d
  unfolding answer_of kind_at
  answer-same b d s t w g g' =
      let e = stands_same s t w in
      by_bool (answer_of (kind_at machine b d s) s d ≡ answer_of (kind_at machine b d t) t d) (is_ended s.run.standing)
      (λ x. let x' : is_ended t.run.standing ≡ true = rw e at x in rw (x, x') (ap (λ (z : Standing). stands_of z d) e))
      (λ x. let x' : is_ended t.run.standing ≡ false = rw e at x in by_bool (answer_of (kind_at machine b d s) s d ≡ answer_of (kind_at machine b d t) t d) (ltb d b)
      (λ q. rw (x, x', q) (ap (λ (z : Why). refused_of z d) (why-same s t w g g' x)))
      (λ q. rw (x, x', q)))

  record Worked-both (b : ℕ) (s t : State) : Type 0 where
    answer : (work b s).answer ≡ (work b t).answer
    left : Beside o o' (work b s).left (work b t).left

  work-both : (b : ℕ) (s t : State) → Beside o o' s t → Honest s → Honest t → Worked-both b s t
  unfolding work lawful go
  work-both b s t w g g' =
      let i = after_both b s t w g g' in
      let h : Honest (after machine b s) = good-after machine lawful b s g in
      let h' : Honest (after machine b t) = good-after machine lawful b t g' in
      let e = call-goes machine lawful b s g in
      let e' = call-goes machine lawful b t g' in
      record {
        answer = rw (e, e', sym i.units) (answer-same b (units_done machine b s) (after machine b s) (after machine b t) i.left h h');
        left = rw (e, e') i.left;
      }

  record Works-both (bs : List ℕ) (s t : State) : Type 0 where
    told : told_all bs s ≡ told_all bs t
    left : Beside o o' (works bs s) (works bs t)

  works-both : (bs : List ℕ) (s t : State) → Beside o o' s t → Honest s → Honest t → Works-both bs s t
  unfolding works told_all
  works-both [] s t w g g' = record { told = refl; left = w }
  works-both (b ∷ bs) s t w g g' =
      let i = work-both b s t w g g' in
      let r = works-both bs (work b s).left (work b t).left i.left (call-keeps b s g) (call-keeps b t g') in
      record { told = rw (ap units_of i.answer, r.told); left = r.left }

-- ---- THEOREM: call by call

-- calls with bs, then one with b, on the run s that was not parked and on t that was read
pub record Overnight (bs : List ℕ) (b : ℕ) (s t : State) : Type 0 where
  -- each call answers the same
  pub answer : (work b (works bs t)).answer ≡ (work b (works bs s)).answer
  pub left : Across s t (work b (works bs s)).left (work b (works bs t)).left

pub goes-on-overnight : (bs : List ℕ) (b : ℕ) (s t : State) → Honest s → Good t → ReadBack s t → Overnight bs b s t
goes-on-overnight bs b s t g good p =
    let g' = honest-read s t p good in
    let i = works-both s t bs s t (beside-start s t p) g g' in
    let k = work-both s t b (works bs s) (works bs t) i.left (stays-honest bs s g) (stays-honest bs t g') in
    record { answer = sym k.answer; left = beside-across s t (work b (works bs s)).left (work b (works bs t)).left k.left }

-- ---- THEOREM: demand 3

sum-on : (x y z : ℕ) → x + (y + z) ≡ x + y + z
sum-on x y z = omega arith

works-add : (early late : List ℕ) (s : State) → works (early ++ late) s ≡ works late (works early s)
unfolding works
works-add [] late s = refl
works-add (a ∷ early) late s = works-add early late (work a s).left

told_add : (early late : List ℕ) (s : State) → told_all (early ++ late) s ≡ told_all early s + told_all late (works early s)
unfolding told_all works
told_add [] late s = sym (zero-add (told_all late s))
told_add (a ∷ early) late s = rw (told_add early late (work a s).left) (sum-on (units_of (work a s).answer) (told_all early (work a s).left) (told_all late (works early (work a s).left)))

together-add : (early late : List ℕ) → together (early ++ late) ≡ together early + together late
unfolding together
together-add [] late = sym (zero-add (together late))
together-add (a ∷ early) late = rw (together-add early late) (sum-on a (together early) (together late))

-- calls with early, a parking, calls with late and one with b on what was read, t; beside them one call on s with the sum, or 2^32 − 1
pub record OneCallAcross (early late : List ℕ) (b : ℕ) (s t : State) : Type 0 where
  pub left : Across (works early s) t (work (capped (together early + together late + b)) s).left (work b (works late t)).left
  -- the units told add up to that call's
  pub units : told_all early s + told_all late t + units_of (work b (works late t)).answer ≡ units_of (work (capped (together early + together late + b)) s).answer
  -- the last answer is of its kind
  pub kind : answer_kind (work b (works late t)).answer ≡ answer_kind (work (capped (together early + together late + b)) s).answer

-- Covered: areas that hold the same where the run's values stand (positions, increments and gains below n·c; offsets to n, and indices and weights below the
-- links listed, or the n·n affinities of an exact run).
-- Slots past the links, the tails of all areas, forces, the nodes, their number in use and an exact run's angle may be anything in what was read.
-- Left the same: positions, increments and gains at these places, the record but for nodes in use and an exact run's angle, and from the next finish unit on
-- the places of forces that an iteration writes, and the nodes in use of a Barnes-Hut run with their number.
-- Tails, and an exact run's other forces and nodes in use, are the same where they were at the parking (`kept_whole`, `forces-whole`).
pub demand-three-across-a-parking : (early late : List ℕ) (b : ℕ) (s t : State) → Honest s → ReadBack (works early s) t → Good t → 1 ≤ b → OneCallAcross early late b s t
demand-three-across-a-parking early late b s t g p good h =
    let m = works early s in
    let B = capped (together early + together late + b) in
    let d = demand-three (early ++ late) b s g h in
    let k = goes-on-overnight late b m t (stays-honest early s g) good p in
    let told = (works-both m t late m t (beside-start m t p) (stays-honest early s g) (honest-read m t p good)).told in
    let ew = works-add early late s in
    let eb = together-add early late in
    let left : (work b (works late m)).left ≡ (work B s).left = rw (ew, eb) at d.left in
    let units : told_all (early ++ late) s + units_of (work b (works late m)).answer ≡ units_of (work B s).answer = rw (ew, eb) at d.units in
    let kind : answer_kind (work b (works late m)).answer ≡ answer_kind (work B s).answer = rw (ew, eb) at d.kind in
    record {
      left = rw (sym left) k.left;
      units = rw (k.answer, sym told) (ap (λ (x : ℕ). x + units_of (work b (works late m)).answer) (sym (told_add early late s)) ∙ units);
      kind = rw k.answer kind;
    }

-- ---- parked again: what is read from the run that was read is beside the run that was never parked, and so both theorems hold across any number of parkings

lists-on : {n : ℕ} {W X Z : List Float} {I J K O P Q : List ℕ} → SameLists n W X I J O P → SameLists n X Z J K P Q → SameLists n W Z I K O Q
lists-on {n} {W} {X} {Z} {I} {J} {K} {O} {P} {Q} a b =
    let e = a.offsets n (le_refl n) in
    record {
      offsets = λ k h. a.offsets k h ∙ b.offsets k h;
      indices = λ k h. a.indices k h ∙ b.indices k (omega (arith, h, e));
      weights = λ k h. a.weights k h ∙ b.weights k (omega (arith, h, e));
    }

run_on : (s : State) (a : Float) (used : ℕ) (m : Memory) (u : State) → SameRun s (state (reread a used s.run) m) → SameRun (state (reread a used s.run) m) u → SameRun s u
run_on s a used m u x y = record {
  record_same = y.record_same;
  angle = λ e. y.angle e ∙ x.angle e;
  positions = λ k h. x.positions k h ∙ y.positions k h;
  increments = λ k h. x.increments k h ∙ y.increments k h;
  gains = λ k h. x.gains k h ∙ y.gains k h;
  lists = λ e. lists-on (x.lists e) (y.lists e);
  matrix = λ e k h. x.matrix e k h ∙ y.matrix e k h;
  arena = x.arena ∙ y.arena;
}

pub parked-again : (s t u : State) → SameRun s t → ReadBack t u → ReadBack s u
parked-again s t u x p =
    let e : t ≡ state (reread t.run.settings.angle t.run.used s.run) t.memory = ap (λ (r : Run). state r t.memory) x.record_same in
    record {
      same = run_on s t.run.settings.angle t.run.used t.memory u (subst (SameRun s) e x) (subst (λ (z : State). SameRun z u) e p.same);
      border = sym (ap (λ (r : Run). r.phase) x.record_same) ∙ p.border;
    }

-- ---- a prepared run's forces are zero: then all its places of forces are the same from the next finish unit on, those too that an exact run never writes

pub forces-whole : (early late : List ℕ) (b : ℕ) (s t : State) → Honest s → ReadBack (works early s) t → Good t → 1 ≤ b
    → ((k : ℕ) → k < s.run.settings.n * (2 * s.run.settings.c + 1) → at s.memory.forces k ≡ zero64) → ((k : ℕ) →
    k < s.run.settings.n * (2 * s.run.settings.c + 1) → at t.memory.forces k ≡ zero64)
    → (works early s).run.done < (work (capped (together early + together late + b)) s).left.run.done
    → SameTo (s.run.settings.n * (2 * s.run.settings.c + 1)) (work (capped (together early + together late + b)) s).left.memory.forces (work b (works late t)).left.memory.forces
forces-whole early late b s t g p good h z z' q =
    let B = capped (together early + together late + b) in
    let u = (work B s).left in
    let w = (work b (works late t)).left in
    let n = s.run.settings.n in
    let c = s.run.settings.c in
    let d = (demand-three-across-a-parking early late b s t g p good h).left in
    let e : u.run.settings ≡ s.run.settings = (work-frames B s g).1 in
    let f = (d.finished q).places in
    by_bool (SameTo (n * (2 * c + 1)) u.memory.forces w.memory.forces) (is_tree s.run.settings.method)
    (λ x. rw (e, x) at f)
    (λ x.
    let f' : SameTo (n * c + 1) u.memory.forces w.memory.forces = rw (e, x) at f in
    λ k l. elim (dec_lt (n * c) k) [
      | yes a ↦ d.kept-forces.each k ((exact-keeps early s x).forces k a ∙ (z k l ∙ sym (z' k l)))
      | no a ↦ f' k (omega (arith, a))
    ])
