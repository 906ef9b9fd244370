-- Demand 3 and its kin, for every machine that is lawful. Assumes nothing.
use mathlib.Core.Path.{◌≡◌, refl, sym, ap, subst, ◌∙◌}
use mathlib.Core.List.{List, [], ◌∷◌}
use mathlib.Core.Bool.{Bool, true, false, cond, true≢false}
use Prim.Native.Nat.{ℕ, zero, suc, ◌+◌, ◌-◌, ◌≤◌, ◌<◌}
use native.Mathlib.Omega.{arith}
use native.Mathlib.Decide.{dec_lt}
use native.Mathlib.Nat.{zero-add, add-zero, suc-add, sub-zero}
use lib.Dec.{ltb}
use borrow.Author.Tests.{ltb-true, lt-ltb, le-ltb, le-leb, lt-leb}
use Rattle.laws.specs.Domain.{most_word}
use Rattle.laws.specs.Loops.{until}
use Rattle.laws.proofs.Bools.{by_bool}
use Rattle.laws.proofs.Untils.{until-add}
use Rattle.laws.proofs.Numbers.{left, none}
use Rattle.run_calls.specs.Machine.{faulty, over, refused, running, Machine, called, times, stops, after, units_done, kind_at, go, call, left_by, told-by, together, capped, Lawful}

module _ {S : Type 0} (m : Machine S) where
  -- ---- one step of the definitions

  done-stop : (b : ℕ) (s : S) → stops m s ≡ true → units_done m b s ≡ 0
  unfolding units_done
  done-stop zero s e = refl
  done-stop (suc b) s e = rw (e, units_done)

  done-go : (b : ℕ) (s : S) → stops m s ≡ false → units_done m (suc b) s ≡ suc (units_done m b (m.next s))
  unfolding units_done
  done-go b s e = rw (e, units_done)

  after_stop : (b : ℕ) (s : S) → stops m s ≡ true → after m b s ≡ s
  unfolding until
  after_stop zero s e = refl
  after_stop (suc b) s e = rw (e, until)

  after-go : (b : ℕ) (s : S) → stops m s ≡ false → after m (suc b) s ≡ after m b (m.next s)
  unfolding until
  after-go b s e = rw (e, until)

  -- a case split on whether the state stops
  by-stop : (P : Type 0) (s : S) → (stops m s ≡ true → P) → (stops m s ≡ false → P) → P
  by-stop P s t f = by_bool P (stops m s) t f

  -- ---- what is so of every state

  pub done-within : (b : ℕ) (s : S) → units_done m b s ≤ b
  unfolding units_done
  done-within zero s = omega arith
  done-within (suc b) s = by-stop (units_done m (suc b) s ≤ suc b) s (λ e. rw (done-stop (suc b) s e) (omega arith)) (λ e. rw (done-go b s e) (omega (arith, done-within b (m.next s))))

  -- the state is that of so many units
  pub after-times : (b : ℕ) (s : S) → after m b s ≡ times m.next (units_done m b s) s
  unfolding units_done until times
  after-times zero s = refl
  after-times (suc b) s = by-stop (after m (suc b) s ≡ times m.next (units_done m (suc b) s) s) s (λ e. rw (done-stop (suc b) s e) (after_stop (suc b) s e))
      (λ e. rw (done-go b s e) (after-go b s e ∙ after-times b (m.next s)))

  -- none of them was attempted where no unit is done
  pub each-was-due : (b : ℕ) (s : S) (j : ℕ) → j < units_done m b s → stops m (times m.next j s) ≡ false
  unfolding units_done times
  each-was-due zero s j h = absurd (omega arith)
  each-was-due (suc b) s zero h = by-stop (stops m s ≡ false) s (λ e. absurd (let z = done-stop (suc b) s e in omega arith)) (λ e. e)
  each-was-due (suc b) s (suc j) h = by-stop (stops m (times m.next j (m.next s)) ≡ false) s (λ e. absurd (let z = done-stop (suc b) s e in omega arith))
      (λ e. each-was-due b (m.next s) j (let z = done-go b s e in omega arith))

  -- fewer units than the budget: none further is done there
  pub short-stops : (b : ℕ) (s : S) → units_done m b s < b → stops m (after m b s) ≡ true
  unfolding units_done until
  short-stops zero s h = absurd (omega arith)
  short-stops (suc b) s h = by-stop (stops m (after m (suc b) s) ≡ true) s (λ e. rw (after_stop (suc b) s e) e) (λ e. rw (after-go b s e)
      (short-stops b (m.next s) (let z = done-go b s e in omega arith)))

  -- m units and then n
  pub done-add : (a b : ℕ) (s : S) → units_done m (a + b) s ≡ units_done m a s + units_done m b (after m a s)
  unfolding units_done until
  done-add zero b s = rw (zero-add b, zero-add (units_done m b s))
  done-add (suc a) b s = rw (suc-add a b) (by-stop (units_done m (suc (a + b)) s ≡ units_done m (suc a) s + units_done m b (after m (suc a) s)) s
      (λ e. rw (done-stop (suc (a + b)) s e, done-stop (suc a) s e, after_stop (suc a) s e, done-stop b s e))
      (λ e. rw (done-go (a + b) s e, done-go a s e, after-go a s e) (rw (done-add a b (m.next s)) (sym (suc-add (units_done m a (m.next s)) (units_done m b (after m a (m.next s))))))))

  pub after-add : (a b : ℕ) (s : S) → after m (a + b) s ≡ after m b (after m a s)
  after-add a b s = until-add (stops m) m.next a b s

  -- ---- calls from any state at all, the entry tests passed or not

  times-add : (a b : ℕ) (s : S) → times m.next (a + b) s ≡ times m.next b (times m.next a s)
  unfolding times
  times-add zero b s = rw (zero-add b)
  times-add (suc a) b s = rw (suc-add a b) (times-add a b (m.next s))

  -- a call leaves the state of so many units as it tells
  pub call-so-many : (b : ℕ) (s : S) → (call m b s).state ≡ times m.next (call m b s).units s
  unfolding call go times
  call-so-many b s = by_bool ((call m b s).state ≡ times m.next (call m b s).units s) (m.bad s) (λ e. rw e) (λ e. rw e (after-times b s))

  -- and so do calls one after the other
  pub calls-so-many : (bs : List ℕ) (s : S) → left_by m bs s ≡ times m.next (told-by m bs s) s
  unfolding left_by told-by times
  calls-so-many [] s = refl
  calls-so-many (b ∷ bs) s =
      let t : S = (call m b s).state in
      calls-so-many bs t ∙ ap (λ (x : S). times m.next (told-by m bs t) x) (call-so-many b s) ∙ sym (times-add (call m b s).units (told-by m bs t) s)

  -- what each unit that is done counts up is counted up by so many
  module _ (count : S → ℕ) (counts : (s : S) → stops m s ≡ false → count (m.next s) ≡ count s + 1) where
    pub after-counts : (b : ℕ) (s : S) → count (after m b s) ≡ count s + units_done m b s
    unfolding until units_done
    after-counts zero s = omega arith
    after-counts (suc b) s = by-stop (count (after m (suc b) s) ≡ count s + units_done m (suc b) s) s
        (λ e. rw (after_stop (suc b) s e, done-stop (suc b) s e) (omega arith))
        (λ e. rw (after-go b s e, done-go b s e) (let h = after-counts b (m.next s) in let k = counts s e in omega arith))

    call-counts : (b : ℕ) (s : S) → count (call m b s).state ≡ count s + (call m b s).units
    unfolding call go
    call-counts b s = by_bool (count (call m b s).state ≡ count s + (call m b s).units) (m.bad s) (λ e. rw e (omega arith)) (λ e. rw e (after-counts b s))

    pub calls_count : (bs : List ℕ) (s : S) → count (left_by m bs s) ≡ count s + told-by m bs s
    unfolding left_by told-by
    calls_count [] s = omega arith
    calls_count (b ∷ bs) s = let h = calls_count bs (call m b s).state in let k = call-counts b s in omega arith

  -- ---- a refusal

  -- what a call that answers "refused" leaves: the state of the units that it tells, and there the next unit is refused
  pub record Refusal (b : ℕ) (s : S) : Type 0 where
    pub so-many : (call m b s).state ≡ times m.next (call m b s).units s
    pub fewer : (call m b s).units < b
    pub not-over : m.ended (call m b s).state ≡ false
    pub not-ok : m.ok (call m b s).state ≡ false

  refused-kind : (b d : ℕ) (t : S) → kind_at m b d t ≡ refused → (m.ended t ≡ false) × (d < b)
  unfolding kind_at
  refused-kind b d t e = by_bool ((m.ended t ≡ false) × (d < b)) (m.ended t)
      (λ x. absurd (let q : over ≡ refused = rw x at e in let z : ◌≡◌ {A = ℕ} 0 1 = cc in omega arith))
      (λ x. by_bool ((m.ended t ≡ false) × (d < b)) (ltb d b)
      (λ y. (x, ltb-true d b y))
      (λ y. absurd (let q : running ≡ refused = rw (x, y) at e in let z : ◌≡◌ {A = ℕ} 0 1 = cc in omega arith)))

  pub not-ok-of : (t : S) → m.ended t ≡ false → stops m t ≡ true → m.ok t ≡ false
  unfolding stops
  not-ok-of t x y = by_bool (m.ok t ≡ false) (m.ok t) (λ o. absurd (true≢false (sym (rw (x, o) at y)))) (λ o. o)

  pub refusal-leaves : (b : ℕ) (s : S) → (call m b s).kind ≡ refused → Refusal b s
  unfolding call go
  refusal-leaves b s q = by_bool (Refusal b s) (m.bad s)
      (λ e. absurd (let f : faulty ≡ refused = rw e at q in let z : ◌≡◌ {A = ℕ} 0 1 = cc in omega arith))
      (λ e. let k = refused-kind b (units_done m b s) (after m b s) (rw e at q) in
      record {
        so-many = call-so-many b s;
        fewer = rw e k.1;
        not-over = rw e k.0;
        not-ok = rw e (not-ok-of (after m b s) k.0 (short-stops b s k.1));
      })

  -- ---- the budget loop: k units have led from y to x, and what every unit keeps still holds

  module _ (Inv : S → Type 0) (keeps : (s : S) → Inv s → stops m s ≡ false → Inv (m.next s)) where
    pub record Goes (b : ℕ) (y : S) (k : ℕ) (x : S) : Type 0 where
      pub within : k ≤ b
      pub good : Inv x
      pub state : after m (b - k) x ≡ after m b y
      pub units : k + units_done m (b - k) x ≡ units_done m b y

    pub goes-start : (b : ℕ) (y : S) → Inv y → Goes b y 0 y
    goes-start b y g = record { within = omega arith; good = g; state = rw sub-zero; units = rw (sub-zero b) (zero-add (units_done m b y)) }

    pub goes-next : {b k : ℕ} {y x : S} → Goes b y k x → k < b → stops m x ≡ false → Goes b y (k + 1) (m.next x)
    goes-next {b} {k} {y} {x} r h e =
        let a = after-go (b - (k + 1)) x e in
        let d = done-go (b - (k + 1)) x e in
        let l = left b k h in
        record {
          within = omega arith;
          good = keeps x r.good e;
          state = sym a ∙ (rw l at r.state);
          units = (let z : k + units_done m (suc (b - (k + 1))) x ≡ units_done m b y = rw l at r.units in omega arith);
        }

    -- a unit was not done: this is where the call ends
    pub goes-halt : {b k : ℕ} {y x : S} → Goes b y k x → k < b → stops m x ≡ true → called x k (kind_at m b k x) ≡ go m b y
    unfolding go
    goes-halt {b} {k} {y} {x} r h e =
        let a : x ≡ after m b y = sym (after_stop (b - k) x e) ∙ r.state in
        let d : k ≡ units_done m b y = (let z = done-stop (b - k) x e in let u = r.units in omega arith) in
        ends r a d
      where
        ends : {b k : ℕ} {y x : S} → Goes b y k x → x ≡ after m b y → k ≡ units_done m b y →
            called x k (kind_at m b k x) ≡ called (after m b y) (units_done m b y) (kind_at m b (units_done m b y) (after m b y))
        ends r a d = rw (a, d)

    pub goes-done : {b k : ℕ} {y x : S} → Goes b y k x → b ≤ k → called x k (kind_at m b k x) ≡ go m b y
    unfolding go until units_done
    goes-done {b} {k} {y} {x} r h =
        let a : x ≡ after m b y = rw (none b k h) at r.state in
        let d : k ≡ units_done m b y = (let z : k + 0 ≡ units_done m b y = rw (none b k h) at r.units in omega arith) in
        rw (← a, ← d)

  -- ---- what is so of a lawful machine, from any good state

  module _ (w : Lawful m) where
    abbrev Good : S → Type 0
    Good = w.Good

    pub good-after : (b : ℕ) (s : S) → Good s → Good (after m b s)
    unfolding until
    good-after zero s g = g
    good-after (suc b) s g = by-stop (Good (after m (suc b) s)) s (λ e. rw (after_stop (suc b) s e) g) (λ e. rw (after-go b s e) (good-after b (m.next s) (w.keeps s g e)))

    -- the tests of the call pass
    pub call-goes : (b : ℕ) (s : S) → Good s → call m b s ≡ go m b s
    unfolding call
    call-goes b s g = rw (w.passes s g)

    pub call-state : (b : ℕ) (s : S) → Good s → (call m b s).state ≡ after m b s
    unfolding go
    call-state b s g = rw (call-goes b s g)

    pub call-units : (b : ℕ) (s : S) → Good s → (call m b s).units ≡ units_done m b s
    unfolding go
    call-units b s g = rw (call-goes b s g)

    pub call-kind : (b : ℕ) (s : S) → Good s → (call m b s).kind ≡ kind_at m b (units_done m b s) (after m b s)
    unfolding go
    call-kind b s g = rw (call-goes b s g)

    -- no more units than there were left
    pub done-rest : (b : ℕ) (s : S) → Good s → units_done m b s + w.rest (after m b s) ≤ w.rest s
    unfolding until units_done
    done-rest zero s g = omega arith
    done-rest (suc b) s g = by-stop (units_done m (suc b) s + w.rest (after m (suc b) s) ≤ w.rest s) s
        (λ e. rw (after_stop (suc b) s e, done-stop (suc b) s e) (omega arith))
        (λ e. rw (after-go b s e, done-go b s e) (let h = done-rest b (m.next s) (w.keeps s g e) in let k = w.lessens s g e in omega arith))

    -- within the units that are left, the run ends or a unit is refused
    pub ends-within : (b : ℕ) (s : S) → Good s → w.rest s ≤ b → stops m (after m b s) ≡ true
    unfolding until
    ends-within zero s g h = by-stop (stops m s ≡ true) s (λ e. e) (λ e. absurd (let k = w.lessens s g e in omega arith))
    ends-within (suc b) s g h = by-stop (stops m (after m (suc b) s) ≡ true) s
        (λ e. rw (after_stop (suc b) s e) e)
        (λ e. rw (after-go b s e) (ends-within b (m.next s) (w.keeps s g e) (let k = w.lessens s g e in omega arith)))

    -- more budget than that changes nothing
    pub enough : (a b : ℕ) (s : S) → Good s → w.rest s ≤ a → after m (a + b) s ≡ after m a s
    enough a b s g h = after-add a b s ∙ after_stop b (after m a s) (ends-within a s g h)

    pub enough-done : (a b : ℕ) (s : S) → Good s → w.rest s ≤ a → units_done m (a + b) s ≡ units_done m a s
    enough-done a b s g h = done-add a b s ∙ rw (done-stop b (after m a s) (ends-within a s g h), add-zero)

    -- ---- calls one after the other

    -- after each call of a list the state is good again; it is where one call with the sum of the budgets leads, and so are the units told
    pub record Followed (bs : List ℕ) (s : S) : Type 0 where
      pub good : Good (left_by m bs s)
      pub state : left_by m bs s ≡ after m (together bs) s
      pub units : told-by m bs s ≡ units_done m (together bs) s

    left-sum : (bs : List ℕ) (s : S) → Good s → left_by m bs s ≡ after m (together bs) s
    unfolding left_by together until
    left-sum [] s g = refl
    left-sum (b ∷ bs) s g = rw (call-state b s g) (left-sum bs (after m b s) (good-after b s g) ∙ sym (after-add b (together bs) s))

    told-sum : (bs : List ℕ) (s : S) → Good s → told-by m bs s ≡ units_done m (together bs) s
    unfolding told-by together units_done
    told-sum [] s g = refl
    told-sum (b ∷ bs) s g = rw (call-state b s g, call-units b s g) (rw (told-sum bs (after m b s) (good-after b s g)) (sym (done-add b (together bs) s)))

    pub calls-follow : (bs : List ℕ) (s : S) → Good s → Followed bs s
    calls-follow bs s g = let e = left-sum bs s g in let u = told-sum bs s g in record {
      good = rw e (good-after (together bs) s g);
      state = e;
      units = u;
    }

    -- the last call, at least 1, ends as one call with both budgets does
    kind-add : (a b : ℕ) (s : S) → 1 ≤ b → kind_at m b (units_done m b (after m a s)) (after m b (after m a s)) ≡ kind_at m (a + b) (units_done m (a + b) s) (after m (a + b) s)
    unfolding kind_at
    kind-add a b s h = rw (after-add a b s) (ap (λ (t : Bool). cond (m.ended (after m b (after m a s))) over (cond t refused running)) tests)
      where
        tests : ltb (units_done m b (after m a s)) b ≡ ltb (units_done m (a + b) s) (a + b)
        tests = elim (dec_lt (units_done m a s) a) [
          | yes l ↦ (let z = done-stop b (after m a s) (short-stops a s l) in rw (done-add a b s, z) (lt-ltb 0 b h ∙ sym (lt-ltb (units_done m a s + 0) (a + b) (omega arith))))
          | no n ↦ elim (dec_lt (units_done m b (after m a s)) b) [
            | yes l ↦ (rw (done-add a b s) (lt-ltb (units_done m b (after m a s)) b l ∙ sym (lt-ltb (units_done m a s + units_done m b (after m a s)) (a + b) (omega (arith, done-within a s)))))
            | no k ↦ (rw (done-add a b s) (le-ltb (units_done m b (after m a s)) b (omega (arith, k)) ∙ sym (le-ltb (units_done m a s + units_done m b (after m a s)) (a + b) (omega (arith, n, k)))))
          ]
        ]

    -- a budget past the largest does what the largest does
    capped_same : (b : ℕ) (s : S) → Good s → go m b s ≡ go m (capped b) s
    unfolding go capped kind_at
    capped_same b s g = elim (dec_lt most_word b) [
      | yes l ↦ (let k : w.rest s < most_word = w.small s g in
          let e : most_word + (b - most_word) ≡ b = omega arith in
          let x : after m b s ≡ after m most_word s = subst (λ (n : ℕ). after m n s ≡ after m most_word s) e (enough most_word (b - most_word) s g (omega arith)) in
          let y : units_done m b s ≡ units_done m most_word s = subst (λ (n : ℕ). units_done m n s ≡ units_done m most_word s) e (enough-done most_word (b - most_word) s g (omega arith)) in
          let z : units_done m most_word s ≤ w.rest s = omega (arith, done-rest most_word s g) in
          rw (lt-leb b most_word l, x, y) (rw (lt-ltb (units_done m most_word s) b (omega arith), lt-ltb (units_done m most_word s) most_word (omega arith))))
      | no n ↦ rw (le-leb b most_word (omega (arith, n)))
    ]

    -- DEMAND 3: from any good state, for any budgets whose last is at least 1, calls one after the other leave the state where one call with
    -- the sum (or the largest budget) leaves it; their units add up to that call's; the last answer is of its kind
    pub record Demanded (bs : List ℕ) (b : ℕ) (s : S) : Type 0 where
      pub state : (call m b (left_by m bs s)).state ≡ (call m (capped (together bs + b)) s).state
      pub units : told-by m bs s + (call m b (left_by m bs s)).units ≡ (call m (capped (together bs + b)) s).units
      pub kind : (call m b (left_by m bs s)).kind ≡ (call m (capped (together bs + b)) s).kind

    pub demand-3 : (bs : List ℕ) (b : ℕ) (s : S) → Good s → 1 ≤ b → Demanded bs b s
    unfolding go
    demand-3 bs b s g h =
        let t : S = left_by m bs s in
        let f = calls-follow bs s g in
        let one = call-goes (capped (together bs + b)) s g ∙ sym (capped_same (together bs + b) s g) in
        let last = call-goes b t f.good in
        record {
          state = rw (one, last, f.state) (sym (after-add (together bs) b s));
          units = rw (one, last, f.units, f.state) (sym (done-add (together bs) b s));
          kind = rw (one, last, f.state) (kind-add (together bs) b s h);
        }

    -- ---- a longer arena

    -- more room, which changes nothing that a unit does where it is done without
    pub record Grows (grow : S → S) : Type 0 where
      pub due : (s : S) → Good s → stops m s ≡ false → stops m (grow s) ≡ false
      pub same : (s : S) → Good s → stops m s ≡ false → m.next (grow s) ≡ grow (m.next s)

    module _ (grow : S → S) (r : Grows grow) where
      pub grown : (b : ℕ) (s : S) → Good s → after m (units_done m b s) (grow s) ≡ grow (after m b s)
      unfolding units_done until
      grown zero s g = refl
      grown (suc b) s g = by-stop (after m (units_done m (suc b) s) (grow s) ≡ grow (after m (suc b) s)) s
          (λ e. rw (done-stop (suc b) s e, after_stop (suc b) s e))
          (λ e. rw (done-go b s e, after-go b s e) (after-go (units_done m b (m.next s)) (grow s) (r.due s g e) ∙ rw (r.same s g e) (grown b (m.next s) (w.keeps s g e))))

      -- a run that goes on with more room does what a run with that room from the start does
      pub goes_on : (b c : ℕ) (s : S) → Good s → after m c (grow (after m b s)) ≡ after m (units_done m b s + c) (grow s)
      goes_on b c s g = rw (← grown b s g) (sym (after-add (units_done m b s) c (grow s)))
