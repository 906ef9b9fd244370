-- What is so of every run, with its record as words: the theorems on records as values (descent, Theorems; prepare, Begins) over the two calls that a host makes. Assumes nothing.
use mathlib.Core.List.{List, [], ◌∷◌, ◌++◌}
use mathlib.Core.Path.{◌≡◌, refl, sym, ap, subst, ◌∙◌}
use mathlib.Core.Bool.{true, false, true≢false}
use Prim.Native.Nat.{ℕ, zero, suc, ◌+◌, ◌≤◌}
use native.Mathlib.Omega.{arith}
use lib.Dec.{eqb, ltb}
use lib.ListN.{length, length-set}
use lib.Ieee.{Float}
use borrow.Author.Tests.{le-ltb, ltb-false, eq-eqb, eqb-true}
use Rattle.laws.specs.Area.{num}
use Rattle.laws.specs.Loops.{until}
use Rattle.laws.proofs.Bools.{by_bool}
use Rattle.laws.proofs.Untils.{until_end}
use Rattle.tree_node.specs.declared.Cell.{Cell}
use Rattle.run_calls.specs.Machine.{stops, after, units_done, kind_at, go, call, times, together, capped}
use Rattle.run_record.specs.declared.Standing.{Standing}
use Rattle.run_record.specs.declared.Standing.TheVariants.{Running as Runs, Stopped as Stops, Finished as Ends}
use Rattle.run_record.specs.declared.Run.{Run}
use Rattle.run_record.specs.Record.{is_ended, fresh_run}
use Rattle.run_entry.specs.State.{State, state}
use Rattle.run_entry.specs.Entry.{fault_of, is_fine, Good}
use Rattle.std.specs.Prelude.{Ok, Err}
use Rattle.run_finish.specs.Finish.{Why}
use Rattle.run_finish.specs.declared.Halt.TheVariants.{Full as NoNodes, Wild as TooLarge, Over}
use Rattle.run_units.specs.Units.{unit}
use Rattle.run_budget.specs.declared.Answer.{Answer}
use Rattle.run_budget.specs.declared.Answer.TheVariants.{Running, Stopped, Finished, Full, Wild, Bad}
use Rattle.run_budget.specs.Budget.{machine, answer_of, stands_of, refused_of}
use Rattle.run_budget.proofs.Keeps.{unit-settings}
use Rattle.run_budget.proofs.Spends.{due}
use Rattle.descent.specs.Descent.{work, work_number, units_of, answer_kind, is_last, whole_units, works, told_all}
use Rattle.descent.specs.Honest.{Honest, Roomy}
use Rattle.descent.specs.Longer.{Holds, lent_arena}
use Rattle.descent.proofs.Theorems.{demand-three, after-each, stays-honest, ends-in-time, never-14, Refused, refusal}
use Rattle.descent.proofs.Lent.{goes-on-lent}
use Rattle.std.specs.Prelude.{Result, Ok}
use Rattle.prepare.specs.Prepare.{Lent, lengths_of, prepare_fault, prepared, memory_of, prepare_number}
use Rattle.prepare.proofs.Begins.{preparation-honest}
use Rattle.record_words.specs.RecordWords.{settings_fine, settings_of, run_fine, run_of, progress_put, run_put}
use Rattle.answer_words.specs.AnswerWords.{kind_word, is_bad, run_after, answer_put}
use Rattle.record_words.proofs.Laws.{run_long}
use Rattle.answer_words.proofs.Laws.{answer_back}
use Rattle.record_words.proofs.Roundtrip.{read-sayable, run-back, run-back-fine, progress-back, progress-fine, progress-again, progress-same}
use Rattle.desk_prepare.specs.HostPrepare.{HostPrepared, recorded, prepared_in, host_prepare}
use Rattle.desk_work.specs.HostWork.{HostWorked, host_worked, worked_in, host_work}
use Rattle.desk_demands.specs.HostCalls.{host_state, host_next, host_works, host_told, in_cells}

-- ---- no call changes the settings, and one that is refused at its entry changes nothing

until-goes : (b : ℕ) (s : State) → stops machine s ≡ false → after machine (suc b) s ≡ after machine b (unit s).now
unfolding until
until-goes b s e = rw (e, until)

after-settings : (b : ℕ) (s : State) → (after machine b s).run.settings ≡ s.run.settings
unfolding until
after-settings zero s = refl
after-settings (suc b) s = by_bool ((after machine (suc b) s).run.settings ≡ s.run.settings) (stops machine s)
    (λ e. ap (λ (t : State). t.run.settings) (until_end (stops machine) machine.next (suc b) s e))
    (λ e. ap (λ (t : State). t.run.settings) (until-goes b s e) ∙ after-settings b (unit s).now ∙ unit-settings s (due s e).0)

work-settings : (b : ℕ) (s : State) → (work b s).left.run.settings ≡ s.run.settings
unfolding work call go
work-settings b s = by_bool ((work b s).left.run.settings ≡ s.run.settings) (is_fine (fault_of s)) (λ f. rw f (after-settings b s)) (λ f. rw f)

stands-fine : (s : Standing) (d : ℕ) → is_bad (stands_of s d) ≡ false
stands-fine Runs d = refl
stands-fine Stops d = refl
stands-fine Ends d = refl

refused-fine : (w : Why) (d : ℕ) → is_bad (refused_of w d) ≡ false
refused-fine (Ok tt) d = refl
refused-fine (Err NoNodes) d = refl
refused-fine (Err TooLarge) d = refl
refused-fine (Err Over) d = refl

-- of b units d led to t: the answer is none of the entry's
gone-fine : (b d : ℕ) (t : State) → is_bad (answer_of (kind_at machine b d t) t d) ≡ false
unfolding kind_at answer_of
gone-fine b d t = by_bool (is_bad (answer_of (kind_at machine b d t) t d) ≡ false) (is_ended t.run.standing)
    (λ e. rw e (stands-fine t.run.standing d))
    (λ e. by_bool (is_bad (answer_of (kind_at machine b d t) t d) ≡ false) (ltb d b) (λ q. rw (e, q) (refused-fine (unit t).why d)) (λ q. rw (e, q)))

work-kept : (b : ℕ) (s : State) → is_bad (work b s).answer ≡ true → (work b s).left ≡ s
unfolding work call go
work-kept b s = by_bool (is_bad (work b s).answer ≡ true → (work b s).left ≡ s) (is_fine (fault_of s))
    (λ f. rw f (λ e. absurd (true≢false (sym e ∙ gone-fine b (units_done machine b s) (after machine b s)))))
    (λ f. rw f (λ e. refl))

-- ---- a call on words does what the call on the record does that they say

-- words that are a record, and room for an answer
pub record Readable (h : HostWorked) : Type 0 where
  pub fine : run_fine h.run ≡ true
  pub room : 5 ≤ length h.answer

put-long : (t : Answer) (a : List ℕ) → length (answer_put t a) ≡ length a
unfolding answer_put
put-long t a = simp length-set

module _ (w : List ℕ) (fine : run_fine w ≡ true) (t : Answer) (r : Run) (kept : is_bad t ≡ true → r ≡ run_of w) (same : r.settings ≡ settings_of w) where
  after-back : run_of (run_after t r w) ≡ r
  unfolding run_after
  after-back = by_bool (run_of (run_after t r w) ≡ r) (is_bad t) (λ e. rw e (sym (kept e))) (λ e. rw e (progress-back r w (run_long w fine) same))

  after-fine : run_fine (run_after t r w) ≡ true
  unfolding run_after
  after-fine = by_bool (run_fine (run_after t r w) ≡ true) (is_bad t) (λ e. rw e fine) (λ e. rw e (progress-fine r w fine))

  after-put : run_after t r w ≡ progress_put r w
  unfolding run_after
  after-put = by_bool (run_after t r w ≡ progress_put r w) (is_bad t) (λ e. rw e (sym (ap (λ (q : Run). progress_put q w) (kept e) ∙ progress-same w fine))) (λ e. rw e)

module _ (b : ℕ) (h : HostWorked) (g : Readable h) where
  next-is : host_next b h ≡ worked_in (work b (host_state h)) h.answer h.run
  unfolding host_work
  next-is = rw (le-ltb (length h.answer) 5 g.room, g.fine)

  settings-kept : (work b (host_state h)).left.run.settings ≡ settings_of h.run
  unfolding run_of
  settings-kept = work-settings b (host_state h)

  pub next-state : host_state (host_next b h) ≡ (work b (host_state h)).left
  next-state =
      let t = work b (host_state h) in
      ap host_state next-is ∙ ap (λ (r : Run). state r t.left.memory)
      (after-back h.run g.fine t.answer t.left.run (λ e. ap (λ (s : State). s.run) (work-kept b (host_state h) e)) settings-kept)

  -- the words that it leaves
  pub next-run : (host_next b h).run ≡ progress_put (work b (host_state h)).left.run h.run
  next-run =
      let t = work b (host_state h) in
      ap (λ (x : HostWorked). x.run) next-is ∙ after-put h.run g.fine t.answer t.left.run (λ e. ap (λ (s : State). s.run) (work-kept b (host_state h) e)) settings-kept

  -- the first three words of its answer
  pub next-answer : (num (host_next b h).answer 0 ≡ kind_word (work b (host_state h)).answer) ×
      (num (host_next b h).answer 1 ≡ work_number (work b (host_state h)).answer) × (num (host_next b h).answer 2 ≡ units_of (work b (host_state h)).answer)
  next-answer = rw next-is (answer_back (work b (host_state h)).answer h.answer g.room)

  pub next-number : (host_next b h).number ≡ work_number (work b (host_state h)).answer
  next-number = ap (λ (x : HostWorked). x.number) next-is

  pub next-readable : Readable (host_next b h)
  next-readable =
      let t = work b (host_state h) in
      rw next-is (record {
        fine = after-fine h.run g.fine t.answer t.left.run (λ e. ap (λ (s : State). s.run) (work-kept b (host_state h) e)) settings-kept;
        room = rw (put-long t.answer h.answer) g.room;
      })

works-readable : (bs : List ℕ) (h : HostWorked) → Readable h → Readable (host_works bs h)
unfolding host_works
works-readable [] h g = g
works-readable (b ∷ bs) h g = works-readable bs (host_next b h) (next-readable b h g)

pub works-state : (bs : List ℕ) (h : HostWorked) → Readable h → host_state (host_works bs h) ≡ works bs (host_state h)
unfolding host_works works
works-state [] h g = refl
works-state (b ∷ bs) h g = works-state bs (host_next b h) (next-readable b h g) ∙ ap (works bs) (next-state b h g)

pub works-run : (bs : List ℕ) (h : HostWorked) → Readable h → (host_works bs h).run ≡ progress_put (works bs (host_state h)).run h.run
unfolding host_works works
works-run [] h g = sym (progress-same h.run g.fine)
works-run (b ∷ bs) h g =
    let n = host_next b h in
    works-run bs n (next-readable b h g)
    ∙ ap (λ (w : List ℕ). progress_put (works bs (host_state n)).run w) (next-run b h g)
    ∙ progress-again (works bs (host_state n)).run (work b (host_state h)).left.run h.run (run_long h.run g.fine)
    ∙ ap (λ (s : State). progress_put (works bs s).run h.run) (next-state b h g)

pub told_is : (bs : List ℕ) (h : HostWorked) → Readable h → host_told bs h ≡ told_all bs (host_state h)
unfolding host_told told_all
told_is [] h g = refl
told_is (b ∷ bs) h g =
    ap (λ (k : ℕ). k + host_told bs (host_next b h)) (next-answer b h g).2
    ∙ ap (λ (k : ℕ). units_of (work b (host_state h)).answer + k) (told_is bs (host_next b h) (next-readable b h g) ∙ ap (told_all bs) (next-state b h g))

kind-word : (t : Answer) → kind_word (answer_kind t) ≡ kind_word t
unfolding answer_kind
kind-word (Running d) = refl
kind-word (Stopped d) = refl
kind-word (Finished d) = refl
kind-word (Full d) = refl
kind-word (Wild d) = refl
kind-word (Bad f) = refl

kind-number : (t : Answer) → work_number (answer_kind t) ≡ work_number t
unfolding answer_kind work_number
kind-number (Running d) = refl
kind-number (Stopped d) = refl
kind-number (Finished d) = refl
kind-number (Full d) = refl
kind-number (Wild d) = refl
kind-number (Bad f) = refl

-- ---- the theorems over words

-- after each call, whatever was lent, record and memory are those of so many units as the answers tell
pub host-after-each : (h : HostWorked) → Readable h → (bs : List ℕ) → host_state (host_works bs h) ≡ times (λ (x : State). (unit x).now) (host_told bs h) (host_state h)
host-after-each h g bs = rw (told_is bs h g) (works-state bs h g ∙ (after-each bs (host_state h)).left)

-- whatever was lent, where the entry tests pass: a call that answers a number leaves record and memory as after the units that it tells, and there the next unit is refused
pub host-refusal : (h : HostWorked) → Readable h → Good (host_state h) → (b : ℕ) → ((host_next b h).number ≡ 0 → ⊥) → (host_state (host_next b h) ≡ (work b (host_state h)).left)
    × Refused b (host_state h)
host-refusal h g good b n = (next-state b h g, refusal b (host_state h) good (λ e. n (next-number b h g ∙ e)))

-- calls with the budgets bs, then one with b, against one call with the sum, or 2^32 − 1
pub record HostOneCall (bs : List ℕ) (b : ℕ) (h : HostWorked) : Type 0 where
  -- the record's words and every area are the same
  pub run : (host_next b (host_works bs h)).run ≡ (host_next (capped (together bs + b)) h).run
  pub memory : (host_next b (host_works bs h)).memory ≡ (host_next (capped (together bs + b)) h).memory
  -- the units told add up
  pub units : host_told bs h + num (host_next b (host_works bs h)).answer 2 ≡ num (host_next (capped (together bs + b)) h).answer 2
  -- the last answer is of its kind, with its number
  pub kind : num (host_next b (host_works bs h)).answer 0 ≡ num (host_next (capped (together bs + b)) h).answer 0
  pub number : (host_next b (host_works bs h)).number ≡ (host_next (capped (together bs + b)) h).number

module _ (h : HostWorked) (g : Readable h) (honest : Honest (host_state h)) where
  -- demand 3: the last call is of at least 1
  pub host-demand-three : (bs : List ℕ) (b : ℕ) → 1 ≤ b → HostOneCall bs b h
  host-demand-three bs b l =
      let d = demand-three bs b (host_state h) honest l in
      let B = capped (together bs + b) in
      let z = host_works bs h in
      let gz = works-readable bs h g in
      let at = works-state bs h g in
      let long = run_long h.run g.fine in
      let k : answer_kind (work b (host_state z)).answer ≡ answer_kind (work B (host_state h)).answer = ap (λ (s : State). answer_kind (work b s).answer) at ∙ d.kind in
      record {
        run = next-run b z gz ∙ ap (λ (w : List ℕ). progress_put (work b (host_state z)).left.run w) (works-run bs h g) ∙
            progress-again (work b (host_state z)).left.run (works bs (host_state h)).run h.run long ∙
            ap (λ (s : State). progress_put (work b s).left.run h.run) at ∙ ap (λ (s : State). progress_put s.run h.run) d.left ∙
            sym (next-run B h g);
        memory = ap (λ (s : State). s.memory) (next-state b z gz ∙ ap (λ (s : State). (work b s).left) at ∙ d.left ∙ sym (next-state B h g));
        units = rw (told_is bs h g, (next-answer b z gz).2, (next-answer B h g).2, at) d.units;
        kind = (next-answer b z gz).0 ∙ sym (kind-word (work b (host_state z)).answer) ∙ ap kind_word k ∙ kind-word (work B (host_state h)).answer ∙ sym (next-answer B h g).0;
        number = next-number b z gz ∙ sym (kind-number (work b (host_state z)).answer) ∙ ap work_number k ∙ kind-number (work B (host_state h)).answer ∙ sym (next-number B h g);
      }

  -- with room for all splits no call answers 14
  pub host-never-14 : (bs : List ℕ) (b : ℕ) → Roomy (host_state h).run.settings (length h.memory.nodes) → (host_next b (host_works bs h)).number ≡ 14 → ⊥
  host-never-14 bs b room e =
      never-14 bs b (host_state h) honest room (ap (λ (s : State). work_number (work b s).answer) (sym (works-state bs h g)) ∙ sym (next-number b (host_works bs h) (works-readable bs h g)) ∙ e)

  -- a call with all units answers stopped, finished, 14 or 15
  pub host-ends-in-time : (b : ℕ) → whole_units (host_state h) ≤ b → ((host_next b h).answer ≡ answer_put (work b (host_state h)).answer h.answer) × (is_last (work b (host_state h)).answer ≡ true)
  host-ends-in-time b l = (ap (λ (x : HostWorked). x.answer) (next-is b h g), ends-in-time b (host_state h) honest l)

  -- a call leaves the arena in the cells ds; further cells are put behind them, and the run goes on as one does that had them from the start
  pub host-goes-on-lent : (more : List Cell) (b c : ℕ) (cs ds : List Cell) → Holds cs (host_state h) → Holds ds (host_state (host_next b h)) →
      host_state (host_next c (in_cells (ds ++ more) (host_next b h))) ≡ host_state (host_next (num (host_next b h).answer 2 + c) (in_cells (cs ++ more) h))
  host-goes-on-lent more b c cs ds e e' =
      let u = units_of (work b (host_state h)).answer in
      let n = next-state b h g in
      let there = next-readable b h g in
      let first = next-state c (in_cells (ds ++ more) (host_next b h)) (record { fine = there.fine; room = there.room }) in
      let second = next-state (u + c) (in_cells (cs ++ more) h) (record { fine = g.fine; room = g.room }) in
      let on = goes-on-lent more b c (host_state h) honest cs ds e (subst (Holds ds) n e') in
      first ∙ ap (λ (s : State). (work c (lent_arena (ds ++ more) s)).left) n ∙ on.left ∙ sym second ∙ ap (λ (k : ℕ). host_state (host_next (k + c) (in_cells (cs ++ more) h)))
      (sym (next-answer b h g).2)

-- ---- from preparation on

absurd-of : {P : Type 0} (k : ℕ) → eqb k 0 ≡ false → k ≡ 0 → P
absurd-of k e q = absurd (true≢false (sym (eq-eqb k 0 q) ∙ e))

module _ (s : List ℕ) (table start : List Float) (cs : List Cell) (l : Lent) (w : List ℕ) where
  abbrev fault : ℕ
  fault = prepare_fault (settings_of s) table start (lengths_of l (length cs))

  abbrev answered : HostPrepared
  answered = host_prepare s table start (length cs) l w

  record Passed : Type 0 where
    fine : settings_fine s ≡ true
    long : 14 ≤ length w
    none : fault ≡ 0

  -- 0 is answered only where no test has failed
  told-passed : answered.number ≡ 0 → Passed
  unfolding host_prepare prepared prepare_number
  told-passed = by_bool (answered.number ≡ 0 → Passed) (settings_fine s)
      (λ f. by_bool (answered.number ≡ 0 → Passed) (ltb (length w) 14)
      (λ t. by_bool (answered.number ≡ 0 → Passed) (eqb fault 0) (λ z. rw (f, t, z) (λ q. absurd (let x : ◌≡◌ {A = ℕ} 12 0 = q in omega arith))) (λ z. rw (f, t, z) (λ q. absurd-of fault z q)))
      (λ t. by_bool (answered.number ≡ 0 → Passed) (eqb fault 0) (λ z q. record { fine = f; long = ltb-false (length w) 14 t; none = eqb-true fault 0 z })
      (λ z. rw (f, t, z) (λ q. absurd-of fault z q))))
      (λ f. rw f (λ q. absurd (let x : ◌≡◌ {A = ℕ} 21 0 = q in omega arith)))

  module _ (ready : answered.number ≡ 0) (a : List ℕ) (room : 5 ≤ length a) where
    -- what a preparation that is not refused leaves, with an area for answers
    abbrev pub host_begun : HostWorked
    host_begun = host_worked 0 a answered.run (memory_of answered.areas cs)

    abbrev fresh : Run
    fresh = fresh_run (settings_of s)

    answer-is : (prepared (settings_of s) table start (length cs) l).answer ≡ Ok fresh
    unfolding prepared
    answer-is = rw (eq-eqb fault 0 (told-passed ready).none)

    prepared-is : answered ≡ prepared_in (prepared (settings_of s) table start (length cs) l) w
    unfolding host_prepare
    prepared-is = rw ((told-passed ready).fine, le-ltb (length w) 14 (told-passed ready).long)

    run_is : answered.run ≡ run_put fresh w
    run_is = ap (λ (x : HostPrepared). x.run) prepared-is ∙ ap (λ (p : Result Run ℕ). recorded p w) answer-is

    pub begun-readable : Readable host_begun
    begun-readable = record { fine = rw run_is (run-back-fine fresh w (told-passed ready).long); room = room }

    -- its words say a run that has not begun
    pub begun_fresh : run_of answered.run ≡ fresh
    unfolding fresh_run
    begun_fresh = rw run_is (run-back fresh (read-sayable s) w (told-passed ready).long)

    pub host-begun-honest : Honest (host_state host_begun)
    host-begun-honest =
        rw (begun_fresh, prepared-is) (preparation-honest (settings_of s) table start cs l fresh answer-is)

    pub begun-demand-three : (bs : List ℕ) (b : ℕ) → 1 ≤ b → HostOneCall bs b host_begun
    begun-demand-three = host-demand-three host_begun begun-readable host-begun-honest

    pub begun-after-each : (bs : List ℕ) → host_state (host_works bs host_begun) ≡ times (λ (x : State). (unit x).now) (host_told bs host_begun) (host_state host_begun)
    begun-after-each = host-after-each host_begun begun-readable

    pub begun-never-14 : (bs : List ℕ) (b : ℕ) → Roomy (host_state host_begun).run.settings (length host_begun.memory.nodes) → (host_next b (host_works bs host_begun)).number ≡ 14 → ⊥
    begun-never-14 = host-never-14 host_begun begun-readable host-begun-honest

    pub begun-ends-in-time : (b : ℕ) → whole_units (host_state host_begun) ≤ b →
        ((host_next b host_begun).answer ≡ answer_put (work b (host_state host_begun)).answer a) × (is_last (work b (host_state host_begun)).answer ≡ true)
    begun-ends-in-time = host-ends-in-time host_begun begun-readable host-begun-honest

    pub begun-goes-on-lent : (more : List Cell) (b c : ℕ) (ds : List Cell) → Holds ds (host_state (host_next b host_begun)) →
        host_state (host_next c (in_cells (ds ++ more) (host_next b host_begun))) ≡ host_state
        (host_next (num (host_next b host_begun).answer 2 + c) (in_cells (cs ++ more) host_begun))
    begun-goes-on-lent more b c ds = host-goes-on-lent host_begun begun-readable host-begun-honest more b c cs ds refl

    -- after any calls
    pub begun-refusal : (bs : List ℕ) (b : ℕ) → ((host_next b (host_works bs host_begun)).number ≡ 0 → ⊥) →
        (host_state (host_next b (host_works bs host_begun)) ≡ (work b (host_state (host_works bs host_begun))).left) × Refused b (host_state (host_works bs host_begun))
    begun-refusal bs b = host-refusal (host_works bs host_begun) (works-readable bs host_begun begun-readable)
        (subst Honest (sym (works-state bs host_begun begun-readable)) (stays-honest bs (host_state host_begun) host-begun-honest)).good b
