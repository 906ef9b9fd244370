-- What is so of every run, in the words of the work call. The contract of `work` is one equation with `work` of specs/, so each theorem here is one about the code. Assumes nothing.
use mathlib.Core.List.{List, [], ◌∷◌}
use Rattle.std.specs.Prelude.{Ok, Err}
use mathlib.Core.Path.{◌≡◌, refl, sym, ap, ◌∙◌}
use mathlib.Core.Logic.{◌⊎◌, inl, inr}
use mathlib.Core.Bool.{true, false, cond, true≢false}
use Prim.Native.Nat.{ℕ, ◌+◌, ◌<◌, ◌≤◌}
use native.Mathlib.Omega.{arith}
use lib.Dec.{ltb}
use borrow.Author.Tests.{lt-ltb}
use lib.ListN.{length}
use Rattle.laws.specs.Domain.{most_word}
use Rattle.laws.proofs.Bools.{by_bool}
use Rattle.run_calls.specs.Machine.{Kind, faulty, over, refused, running, times, after, units_done, kind_at, go, call, left_by, told-by, together, capped}
use Rattle.run_calls.proofs.Demand.{calls-so-many, calls_count, not-ok-of, calls-follow, demand-3, good-after, call-goes, call-state, call-units, ends-within, done-rest, refusal-leaves}
use Rattle.run_record.specs.declared.Standing.{Standing}
use Rattle.run_record.specs.declared.Standing.TheVariants.{Running as Runs, Stopped as Stops, Finished as Ends}
use Rattle.run_record.specs.Record.{is_ended}
use Rattle.run_entry.specs.State.{State}
use Rattle.run_entry.specs.Entry.{Found, Good, fault_of, is_fine, by_tests}
use Rattle.run_entry.proofs.Laws.{fault-fine, fault-good}
use Rattle.run_finish.specs.Finish.{Why}
use Rattle.run_finish.specs.declared.Halt.TheVariants.{Full as NoNodes, Wild as TooLarge, Over}
use Rattle.run_units.specs.Units.{unit, is_done}
use Rattle.run_budget.specs.declared.Answer.TheVariants.{Running, Bad}
use Rattle.run_budget.specs.Budget.{machine, answer_of, stands_of, refused_of}
use Rattle.descent.specs.Descent.{work, work_number, units_of, answer_kind, is_last, whole_units, units_left, works, told_all}
use Rattle.descent.specs.Honest.{Honest, Roomy}
use Rattle.run_units.proofs.Rooms.{small_of}
use Rattle.run_budget.proofs.Counters.{units-below}
use Rattle.run_budget.proofs.Keeps.{ordered-looser, unit-not-over}
use Rattle.descent.proofs.Grown.{unit-never-full}
use Rattle.descent.proofs.Lawful.{lawful, rest_live, rest-most, due-counts}
use Rattle.descent.proofs.Framed.{Framed, work-frames}

-- ---- the answer tells the units of the call

units-stands : (s : Standing) (d : ℕ) → units_of (stands_of s d) ≡ d
unfolding units_of
units-stands Runs d = refl
units-stands Stops d = refl
units-stands Ends d = refl

units-refused : (w : Why) (d : ℕ) → units_of (refused_of w d) ≡ d
unfolding units_of
units-refused (Ok tt) d = refl
units-refused (Err NoNodes) d = refl
units-refused (Err TooLarge) d = refl
units-refused (Err Over) d = refl

pub units-told : (b : ℕ) (s : State) → units_of (work b s).answer ≡ (call machine b s).units
unfolding work call go kind_at answer_of units_of
units-told b s = by_bool (units_of (work b s).answer ≡ (call machine b s).units) (is_fine (fault_of s))
    (λ f. rw f (live (after machine b s) (units_done machine b s)))
    (λ f. rw f (none (fault_of s)))
  where
    none : (f : Found) → units_of (by_tests f (Running 0) Bad) ≡ 0
    none (Ok t) = refl
    none (Err f) = refl

    live : (t : State) (d : ℕ) → units_of (answer_of (cond (is_ended t.run.standing) over (cond (ltb d b) refused running)) t d) ≡ d
    live t d = by_bool (units_of (answer_of (cond (is_ended t.run.standing) over (cond (ltb d b) refused running)) t d) ≡ d) (is_ended t.run.standing)
        (λ e. rw e (units-stands t.run.standing d))
        (λ e. by_bool (units_of (answer_of (cond (is_ended t.run.standing) over (cond (ltb d b) refused running)) t d) ≡ d) (ltb d b) (λ q. rw (e, q)
        (units-refused (unit t).why d)) (λ q. rw (e, q)))

works-left : (bs : List ℕ) (s : State) → works bs s ≡ left_by machine bs s
unfolding works left_by work
works-left [] s = refl
works-left (b ∷ bs) s = works-left bs (call machine b s).state

works-told : (bs : List ℕ) (s : State) → told_all bs s ≡ told-by machine bs s
unfolding told_all told-by work
works-told [] s = refl
works-told (b ∷ bs) s = rw (works-told bs (call machine b s).state) (ap (λ (n : ℕ). n + told-by machine bs (call machine b s).state) (units-told b s))

kind-stands : (s : Standing) (d e : ℕ) → answer_kind (stands_of s d) ≡ answer_kind (stands_of s e)
unfolding answer_kind
kind-stands Runs d e = refl
kind-stands Stops d e = refl
kind-stands Ends d e = refl

kind-refused : (w : Why) (d e : ℕ) → answer_kind (refused_of w d) ≡ answer_kind (refused_of w e)
unfolding answer_kind
kind-refused (Ok tt) d e = refl
kind-refused (Err NoNodes) d e = refl
kind-refused (Err TooLarge) d e = refl
kind-refused (Err Over) d e = refl

kind-same : (k : Kind) (s : State) (d e : ℕ) → answer_kind (answer_of k s d) ≡ answer_kind (answer_of k s e)
unfolding answer_of answer_kind
kind-same faulty s d e = by (fault_of s)
  where
    by : (f : Found) → answer_kind (by_tests f (Running d) Bad) ≡ answer_kind (by_tests f (Running e) Bad)
    by (Ok t) = refl
    by (Err f) = refl
kind-same over s d e = kind-stands s.run.standing d e
kind-same refused s d e = kind-refused (unit s).why d e
kind-same running s d e = refl

-- ---- the number of an answer

number-stands : (s : Standing) (d : ℕ) → work_number (stands_of s d) ≡ 0
unfolding work_number
number-stands Runs d = refl
number-stands Stops d = refl
number-stands Ends d = refl

number-refused : (w : Why) (d : ℕ) → (work_number (refused_of w d) ≡ 0) ⊎ ((work_number (refused_of w d) ≡ 14) ⊎ (work_number (refused_of w d) ≡ 15))
unfolding work_number
number-refused (Ok tt) d = inl refl
number-refused (Err NoNodes) d = inr (inl refl)
number-refused (Err TooLarge) d = inr (inr refl)
number-refused (Err Over) d = inl refl

-- of b units d led to t: the answer's number
abbrev number_at : ℕ → ℕ → State → ℕ
number_at b d t = work_number (answer_of (kind_at machine b d t) t d)

numbered : (b d : ℕ) (t : State) → (number_at b d t ≡ 0) ⊎ ((number_at b d t ≡ 14) ⊎ (number_at b d t ≡ 15))
unfolding kind_at answer_of work_number
numbered b d t = by_bool ((number_at b d t ≡ 0) ⊎ ((number_at b d t ≡ 14) ⊎ (number_at b d t ≡ 15))) (is_ended t.run.standing)
    (λ e. rw e (inl (number-stands t.run.standing d)))
    (λ e. by_bool ((number_at b d t ≡ 0) ⊎ ((number_at b d t ≡ 14) ⊎ (number_at b d t ≡ 15))) (ltb d b) (λ q. rw (e, q) (number-refused (unit t).why d)) (λ q. rw (e, q) (inl refl)))

refused-is : (b d : ℕ) (t : State) → (number_at b d t ≡ 0 → ⊥) → kind_at machine b d t ≡ refused
unfolding kind_at answer_of work_number
refused-is b d t n = by_bool (kind_at machine b d t ≡ refused) (is_ended t.run.standing)
    (λ e. absurd (n (rw e (number-stands t.run.standing d))))
    (λ e. by_bool (kind_at machine b d t ≡ refused) (ltb d b) (λ q. rw (e, q)) (λ q. absurd (n (rw (e, q)))))

-- ---- THEOREM 1: the entry tests pass exactly on good states; every unit and every call leaves an honest state honest, and so no later call is refused by 12 or by 21 to 25

pub tests-exactly : (s : State) → (is_fine (fault_of s) ≡ true → Good s) × (Good s → is_fine (fault_of s) ≡ true)
tests-exactly s = (fault-fine s, λ g. rw (fault-good s g))

pub call-keeps : (b : ℕ) (s : State) → Honest s → Honest (work b s).left
unfolding work lawful
call-keeps b s g = rw (call-state machine lawful b s g) (good-after machine lawful b s g)

-- a call whose entry tests pass goes on to its units
goes : (b : ℕ) (s : State) → Good s → call machine b s ≡ go machine b s
unfolding call
goes b s g = rw (fault-good s g)

-- and gives no other number than 14 or 15
pub only-14-or-15 : (b : ℕ) (s : State) → Good s → (work_number (work b s).answer ≡ 0) ⊎ ((work_number (work b s).answer ≡ 14) ⊎ (work_number (work b s).answer ≡ 15))
unfolding work go
only-14-or-15 b s g = rw (goes b s g) (numbered b (units_done machine b s) (after machine b s))

-- ---- THEOREM 2, demand 3: from any honest state, for any budgets whose last is at least 1

pub record OneCall (bs : List ℕ) (b : ℕ) (s : State) : Type 0 where
  -- record and every area are where one call with the sum, or 2^32 − 1, leaves them
  pub left : (work b (works bs s)).left ≡ (work (capped (together bs + b)) s).left
  -- the units told add up to that call's
  pub units : told_all bs s + units_of (work b (works bs s)).answer ≡ units_of (work (capped (together bs + b)) s).answer
  -- the last answer is of its kind
  pub kind : answer_kind (work b (works bs s)).answer ≡ answer_kind (work (capped (together bs + b)) s).answer

pub demand-three : (bs : List ℕ) (b : ℕ) (s : State) → Honest s → 1 ≤ b → OneCall bs b s
unfolding work lawful
demand-three bs b s g h =
    let d = demand-3 machine lawful bs b s g h in
    let t = left_by machine bs s in
    let B = capped (together bs + b) in
    record {
      left = rw (works-left bs s) d.state;
      units = rw (works-left bs s, works-told bs s, units-told b t, units-told B s) d.units;
      kind = rw (works-left bs s) (rw (d.kind, d.state) (kind-same (call machine B s).kind (call machine B s).state (call machine b t).units (call machine B s).units));
    }

-- after EACH call, whatever record and memory were lent: they are those of so many units as were told, and the record's total has grown by them
pub record SoMany (bs : List ℕ) (s : State) : Type 0 where
  pub left : works bs s ≡ times (λ (x : State). (unit x).now) (told_all bs s) s
  pub total : (works bs s).run.units ≡ s.run.units + told_all bs s

pub after-each : (bs : List ℕ) (s : State) → SoMany bs s
after-each bs s = record {
  left = rw (works-left bs s, works-told bs s) (calls-so-many machine bs s);
  total = rw (works-left bs s, works-told bs s) (calls_count machine (λ (x : State). x.run.units) due-counts bs s);
}

-- and an honest state is honest again
pub stays-honest : (bs : List ℕ) (s : State) → Honest s → Honest (works bs s)
unfolding lawful
stays-honest bs s g = rw (works-left bs s) (calls-follow machine lawful bs s g).good

-- ---- THEOREM 3: no run has 2^32 − 1 units, and each ends or is refused within its iterations' units

pub never-so-many : (s : State) → Good s → s.run.units < most_word
never-so-many s g = let h = (small_of s (ordered-looser s.run.settings.n (s.run.settings.n + s.run.phase) s (omega arith) g)).units_small in omega arith

last-stands : (t : Standing) (d : ℕ) → is_ended t ≡ true → is_last (stands_of t d) ≡ true
unfolding is_last
last-stands Runs d e = absurd (true≢false (sym e))
last-stands Stops d e = refl
last-stands Ends d e = refl

last-refused : (w : Why) (d : ℕ) → is_done w ≡ false → (w ≡ Err Over → ⊥) → is_last (refused_of w d) ≡ true
unfolding is_last
last-refused (Ok tt) d e n = absurd (true≢false e)
last-refused (Err NoNodes) d e n = refl
last-refused (Err TooLarge) d e n = refl
last-refused (Err Over) d e n = absurd (n refl)

-- where the run has not ended, fewer units are done than it has in all
short-of : (b : ℕ) (s : State) → Honest s → is_ended (after machine b s).run.standing ≡ false → units_done machine b s < whole_units s
unfolding lawful
short-of b s g e =
    let t : State = after machine b s in
    let d : units_done machine b s + units_left t ≤ units_left s = done-rest machine lawful b s g in
    let k : Honest t = good-after machine lawful b s g in
    let l = rest_live t e in
    let m = rest-most s in
    let u = units-below t.run e k.good.counters in
    omega arith

-- with the units of all iterations as budget, the answer is that the run has stopped or finished, or 14 or 15
pub ends-in-time : (b : ℕ) (s : State) → Honest s → whole_units s ≤ b → is_last (work b s).answer ≡ true
unfolding work lawful go kind_at answer_of
ends-in-time b s g h =
    let t : State = after machine b s in
    let d : ℕ = units_done machine b s in
    let over-there = ends-within machine lawful b s g (let m = rest-most s in omega arith) in
    rw (call-goes machine lawful b s g) (by_bool (is_last (answer_of (kind_at machine b d t) t d) ≡ true) (is_ended t.run.standing)
    (λ e. rw e (last-stands t.run.standing d e))
    (λ e. rw (e, lt-ltb d b (let z = short-of b s g e in omega arith)) (last-refused (unit t).why d (not-ok-of machine t e over-there) (unit-not-over t e))))

-- and no more units than that are done
pub units-in-time : (b : ℕ) (s : State) → Honest s → units_of (work b s).answer ≤ whole_units s
unfolding lawful
units-in-time b s g = rw (units-told b s, call-units machine lawful b s g) (let d = done-rest machine lawful b s g in let m = rest-most s in omega arith)

-- a call whose entry tests pass and whose answer has a number ended with a unit that was refused
refused-kind : (b : ℕ) (s : State) → Good s → (work_number (work b s).answer ≡ 0 → ⊥) → (call machine b s).kind ≡ refused
unfolding work go
refused-kind b s g n = rw (goes b s g) (refused-is b (units_done machine b s) (after machine b s) (λ z. n (rw (goes b s g) z)))

-- the answer of a refused call is the reason why its next unit is not done
refused_why : (b : ℕ) (s : State) → Good s → (work_number (work b s).answer ≡ 0 → ⊥) → (work b s).answer ≡ refused_of (unit (work b s).left).why (call machine b s).units
unfolding work go answer_of
refused_why b s g n =
    let e = refused-kind b s g n in
    rw e

full-why : (w : Why) (d : ℕ) → work_number (refused_of w d) ≡ 14 → w ≡ Err NoNodes
unfolding work_number
full-why (Ok tt) d e = absurd (let z : ◌≡◌ {A = ℕ} 0 14 = e in omega arith)
full-why (Err NoNodes) d e = refl
full-why (Err TooLarge) d e = absurd (let z : ◌≡◌ {A = ℕ} 15 14 = e in omega arith)
full-why (Err Over) d e = absurd (let z : ◌≡◌ {A = ℕ} 0 14 = e in omega arith)

-- a call refused by 14 stands before an insertion that lacks nodes
pub refused_full : (b : ℕ) (s : State) → Good s → work_number (work b s).answer ≡ 14 → (unit (work b s).left).why ≡ Err NoNodes
refused_full b s g e =
    let n : work_number (work b s).answer ≡ 0 → ⊥ = λ z. let q : ◌≡◌ {A = ℕ} 0 14 = sym z ∙ e in omega arith in
    full-why (unit (work b s).left).why (call machine b s).units (ap work_number (sym (refused_why b s g n)) ∙ e)

-- ---- THEOREM 4: with room for all splits of each point but the first no call is refused by 14, nor any after it. What a longer arena does is told in Longer and Lent

-- calls one after the other keep the number of nodes and the settings
works-frames : (bs : List ℕ) (s : State) → Honest s → Framed s (works bs s)
unfolding works
works-frames [] s g = (refl, refl)
works-frames (b ∷ bs) s g =
    let f = work-frames b s g in
    let h = works-frames bs (work b s).left (call-keeps b s g) in
    (h.0 ∙ f.0, h.1 ∙ f.1)

-- one call
never-now : (b : ℕ) (s : State) → Honest s → Roomy s.run.settings (length s.memory.nodes) → work_number (work b s).answer ≡ 14 → ⊥
unfolding work go
never-now b s g room e =
    let t = (work b s).left in
    let f = work-frames b s g in
    let n : work_number (work b s).answer ≡ 0 → ⊥ = λ z. let q : ◌≡◌ {A = ℕ} 0 14 = sym z ∙ e in omega arith in
    let here : Roomy t.run.settings (length t.memory.nodes) = rw (f.1, f.0) room in
    unit-never-full t (call-keeps b s g) (refusal-leaves machine b s (refused-kind b s g.good n)).not-over here (refused_full b s g.good e)

-- nor any call after others
pub never-14 : (bs : List ℕ) (b : ℕ) (s : State) → Honest s → Roomy s.run.settings (length s.memory.nodes) → work_number (work b (works bs s)).answer ≡ 14 → ⊥
never-14 bs b s g room e =
    let f = works-frames bs s g in
    never-now b (works bs s) (stays-honest bs s g) (rw (f.1, f.0) room) e

-- ---- THEOREM 5: whatever memory was lent, where its entry tests passed: a refusal by 14 or 15 leaves record and memory as after the units that the call
-- tells, fewer than its budget, and there the next unit is refused

pub record Refused (b : ℕ) (s : State) : Type 0 where
  pub left : (work b s).left ≡ times (λ (x : State). (unit x).now) (units_of (work b s).answer) s
  pub fewer : units_of (work b s).answer < b
  pub not-ended : is_ended (work b s).left.run.standing ≡ false
  pub not_done : is_done (unit (work b s).left).why ≡ false

pub refusal : (b : ℕ) (s : State) → Good s → (work_number (work b s).answer ≡ 0 → ⊥) → Refused b s
unfolding work go
refusal b s g n =
    let e = refused-kind b s g n in
    let r = refusal-leaves machine b s e in
    record {
      left = rw (units-told b s) r.so-many;
      fewer = rw (units-told b s) r.fewer;
      not-ended = r.not-over;
      not_done = r.not-ok;
    }
