-- A removal that is refused changes nothing; of one that is not, what its tests have shown and what it leaves. Assumes nothing.
use mathlib.Core.Path.{◌≡◌, refl, sym, ap, ◌∙◌}
use mathlib.Core.Logic.{◌⊎◌, ⊎_elim}
use mathlib.Core.List.{List}
use mathlib.Core.Bool.{Bool, true, false, cond, not, ◌&&◌, true≢false}
use Prim.Native.Nat.{ℕ, ◌*◌, ◌<◌, ◌≤◌}
use native.Mathlib.Omega.{arith}
use native.Mathlib.Nat.{one-mul, mul-le-mul_right}
use lib.Dec.{eqb, ltb, leb}
use lib.IntN.{pos}
use lib.ListN.{length}
use lib.Ieee.{Float, binary64, of_int, lt}
use borrow.Author.Tests.{eqb-true, ltb-false, leb-true, le-leb, lt-leb, not-false}
use Rattle.laws.proofs.Bools.{by_bool, not-true-is, and_left, and_right, and_no, or_yes}
use Rattle.run_record.specs.declared.Run.{Run}
use Rattle.run_record.specs.declared.Settings.{Settings}
use Rattle.run_record.specs.Record.{settings_fault, GoodSettings}
use Rattle.run_record.proofs.Laws.{settings-good}
use Rattle.tree_node.specs.declared.Node.{Node}
use Rattle.run_entry.specs.declared.Fault.{Fault}
use Rattle.run_entry.specs.declared.Fault.TheVariants.{Settings as BadSettings, Counters, Areas, Offsets, Index, Tree}
use Rattle.run_entry.specs.Entry.{Found, is_fine, record_fault, areas_fit, fault_at, fault_of, fault_number, Good}
use Rattle.run_entry.proofs.Laws.{record-fine, areas-fine, fault-fine, found-none, found-some}
use Rattle.take_gone.specs.Gone.{gone_fine, survivors}
use Rattle.take_calm.specs.CalmLeft.{calm_left}
use Rattle.take_left.specs.declared.Denial.TheVariants.{Inside, Unordered, Few, Perplexed, Crowded, Barred}
use Rattle.std.specs.Prelude.{Ok, Err}
use Rattle.take_left.specs.Outlook.{Outlook, thinned_run, crowded, outlook_of}
use Rattle.take_left.proofs.Judged.{judged-left}
use Rattle.take_out.specs.declared.TakeFault.TheVariants.{Denied, Bad}
use Rattle.take_out.specs.TakeOut.{
  Holdings,
  TakeAnswer,
  TookOut,
  took_out,
  as_taken,
  state_held,
  left_behind,
  lent_positions,
  take_fault,
  is_accepted,
  packed_areas,
  take_tested,
  take_out,
  take_number,
}
use Rattle.take_out.proofs.Calls.{words-told}

-- ---- a refusal

no_number : (v : Outlook) → is_accepted v ≡ true → take_number (as_taken v) ≡ 0
no_number (Ok m) e = refl
no_number (Err Inside) e = absurd (true≢false (sym e))
no_number (Err Unordered) e = absurd (true≢false (sym e))
no_number (Err Few) e = absurd (true≢false (sym e))
no_number (Err Perplexed) e = absurd (true≢false (sym e))
no_number (Err Crowded) e = absurd (true≢false (sym e))
no_number (Err Barred) e = absurd (true≢false (sym e))

told-numbered : (v : Outlook) → is_accepted v ≡ false → take_number (as_taken v) ≡ 0 → ⊥
told-numbered (Ok m) e z = true≢false e
told-numbered (Err Inside) e z = let y : ◌≡◌ {A = ℕ} 17 0 = z in omega arith
told-numbered (Err Unordered) e z = let y : ◌≡◌ {A = ℕ} 18 0 = z in omega arith
told-numbered (Err Few) e z = let y : ◌≡◌ {A = ℕ} 9 0 = z in omega arith
told-numbered (Err Perplexed) e z = let y : ◌≡◌ {A = ℕ} 10 0 = z in omega arith
told-numbered (Err Crowded) e z = let y : ◌≡◌ {A = ℕ} 18 0 = z in omega arith
told-numbered (Err Barred) e z = let y : ◌≡◌ {A = ℕ} 15 0 = z in omega arith

bad-numbered : (f : Fault) → take_number (Err (Bad f)) ≡ 0 → ⊥
unfolding fault_number
bad-numbered (BadSettings k) z = let y : ◌≡◌ {A = ℕ} 21 0 = z in omega arith
bad-numbered Counters z = let y : ◌≡◌ {A = ℕ} 22 0 = z in omega arith
bad-numbered Areas z = let y : ◌≡◌ {A = ℕ} 12 0 = z in omega arith
bad-numbered (Offsets i) z = let y : ◌≡◌ {A = ℕ} 23 0 = z in omega arith
bad-numbered (Index i) z = let y : ◌≡◌ {A = ℕ} 24 0 = z in omega arith
bad-numbered (Tree i) z = let y : ◌≡◌ {A = ℕ} 25 0 = z in omega arith

-- the record and the areas with the samples of g taken out, where v is told
abbrev took_as : Outlook → List ℕ → Run → Holdings → TookOut
took_as v g r h =
    let keep = survivors g r.settings.n in
    took_out (as_taken v) (thinned_run r (length keep)) (packed_areas r.settings keep h)

module _ (g : List ℕ) (r : Run) (h : Holdings) (ns : List Node) where
  abbrev fault : Found
  fault = take_fault r h ns

  abbrev outlook : Outlook
  outlook = outlook_of r g h.positions h.indices h.offsets

  -- record and areas as they were, bit for bit where values are only moved
  pub record Unchanged : Type 0 where
    pub run : (take_out g r h ns).run ≡ r
    pub areas : (take_out g r h ns).areas ≡ h

  bad-is : (b : Fault) → fault ≡ Err b → take_out g r h ns ≡ took_out (Err (Bad b)) r h
  unfolding take_out take_tested
  bad-is b e = rw e

  told_is : is_fine fault ≡ true → is_accepted outlook ≡ false → take_out g r h ns ≡ took_out (as_taken outlook) r h
  unfolding take_out take_tested
  told_is f e = rw (found-none fault f, e)

  left_is : is_fine fault ≡ true → is_accepted outlook ≡ true → take_out g r h ns ≡ took_as outlook g r h
  unfolding take_out take_tested
  left_is f e = rw (found-none fault f, e)

  -- once the entry tests have passed, the outlook is told
  pub outlook-told : is_fine fault ≡ true → (take_out g r h ns).answer ≡ as_taken outlook
  outlook-told f = by_bool ((take_out g r h ns).answer ≡ as_taken outlook) (is_accepted outlook)
      (λ e. ap (λ (o : TookOut). o.answer) (left_is f e))
      (λ e. ap (λ (o : TookOut). o.answer) (told_is f e))

  -- THEOREM: a removal whose answer has a number, and so is refused, changes nothing
  pub refused-changes-nothing : (take_number (take_out g r h ns).answer ≡ 0 → ⊥) → Unchanged
  refused-changes-nothing n = by_bool Unchanged (is_fine fault)
      (λ f. by_bool Unchanged (is_accepted outlook)
      (λ e. absurd (n (rw (left_is f e) (no_number outlook e))))
      (λ e. record { run = rw (told_is f e); areas = rw (told_is f e) }))
      (λ f. let x = found-some fault f in record { run = rw (bad-is x.0 x.1); areas = rw (bad-is x.0 x.1) })

  -- so the state is as it was
  pub refused-state : (take_number (take_out g r h ns).answer ≡ 0 → ⊥) → left_behind (take_out g r h ns) ns ≡ state_held r h ns
  refused-state n = let u = refused-changes-nothing n in rw (u.run, u.areas)

-- ---- what the tests of a work call have shown, for any lengths

fine-cond : (b : Bool) (x y : Found) → is_fine y ≡ false → is_fine (cond b x y) ≡ true → (b ≡ true) × (is_fine x ≡ true)
fine-cond true x y n e = (refl, e)
fine-cond false x y n e = absurd (true≢false (sym e ∙ n))

module _ (r : Run) (h : Holdings) (ns : List Node) (p : ℕ) where
  abbrev fault_by : Found
  fault_by = fault_at r p (length h.increments) (length h.gains) (length h.affinities) (length h.forces) h.indices h.offsets ns

  abbrev fits : Bool
  fits = areas_fit r.settings p (length h.increments) (length h.gains) (length h.affinities) (length h.indices) (length h.offsets) (length h.forces) (length ns)

  record-first : is_fine fault_by ≡ true → is_fine (record_fault r) ≡ true
  unfolding fault_at
  record-first e = by_bool (is_fine (record_fault r) ≡ true) (is_fine (record_fault r)) (λ f. f) (λ f. absurd (true≢false (sym (rw f at e) ∙ f)))

  areas-next : is_fine fault_by ≡ true → fits ≡ true
  unfolding fault_at
  areas-next e = by_bool (fits ≡ true) fits (λ f. f) (λ f. absurd (true≢false (sym (rw (record-first e, f) at e))))

  areas-short : is_fine (record_fault r) ≡ true → fits ≡ false → fault_by ≡ Err Areas
  unfolding fault_at
  areas-short e f = rw (e, f)

-- ---- the table and the old places

some-cells : (s : Settings) → GoodSettings s → 1 ≤ s.n * s.c
some-cells s g = let some : 1 ≤ s.n = omega (arith, g.n-some) in omega (arith, g.c-some, one-mul s.c, mul-le-mul_right s.c some)

no_room : (s : Settings) (i g a x o f nodes : ℕ) → GoodSettings s → areas_fit s 0 i g a x o f nodes ≡ false
no_room s i g a x o f nodes h = not-true-is (λ e. omega (arith, some-cells s h, (areas-fine s 0 i g a x o f nodes e).positions-long))

lent-all : (s : Settings) (p t q : ℕ) → s.n * s.f ≤ t → s.n ≤ q → lent_positions s p t q ≡ p
unfolding lent_positions
lent-all s p t q h l = rw (le-leb (s.n * s.f) t h, le-leb s.n q l, or_yes (not (eqb (settings_fault s) 0)) true refl)

lent_none : (s : Settings) (p t q : ℕ) → GoodSettings s → (leb (s.n * s.f) t && leb s.n q) ≡ false → lent_positions s p t q ≡ 0
unfolding lent_positions
lent_none s p t q g e = rw (settings-good s g, e)

module _ (r : Run) (h : Holdings) (ns : List Node) where
  abbrev both : Bool
  both = leb (r.settings.n * r.settings.f) (length h.table) && leb r.settings.n (length h.old)

  short-areas : is_fine (record_fault r) ≡ true → both ≡ false → take_fault r h ns ≡ Err Areas
  unfolding take_fault
  short-areas e b =
      let g = (record-fine r e).0 in
      rw (lent_none r.settings (length h.positions) (length h.table) (length h.old) g b) (areas-short r h ns 0 e
      (no_room r.settings (length h.increments) (length h.gains) (length h.affinities) (length h.indices) (length h.offsets) (length h.forces) (length ns) g))

  -- THEOREM: with a table of n·f values and n old places at least, the entry tests are those of a work call
  pub long-enough-told : r.settings.n * r.settings.f ≤ length h.table → r.settings.n ≤ length h.old → take_fault r h ns ≡ fault_of (state_held r h ns)
  unfolding take_fault
  long-enough-told k l = rw (lent-all r.settings (length h.positions) (length h.table) (length h.old) k l) (words-told r h ns)

  -- what they have shown where they pass
  pub record TakeEntered : Type 0 where
    pub good : Good (state_held r h ns)
    pub table-long : r.settings.n * r.settings.f ≤ length h.table
    pub old-long : r.settings.n ≤ length h.old

  entered : is_fine (take_fault r h ns) ≡ true → TakeEntered
  unfolding take_fault
  entered e = by_bool TakeEntered both
      (λ b. let n = r.settings.n in
      let k = leb-true (n * r.settings.f) (length h.table) (and_left (leb (n * r.settings.f) (length h.table)) (leb n (length h.old)) b) in
      let l = leb-true n (length h.old) (and_right (leb (n * r.settings.f) (length h.table)) (leb n (length h.old)) b) in
      record { good = fault-fine (state_held r h ns) (rw (long-enough-told k l) at e); table-long = k; old-long = l })
      (λ b. absurd (true≢false (sym e ∙ ap is_fine (short-areas (record-first r h ns (lent_positions r.settings (length h.positions) (length h.table) (length h.old)) e) b))))

-- one of the two is too short
pub record TooShort (r : Run) (h : Holdings) : Type 0 where
  pub short : (length h.table < r.settings.n * r.settings.f) ⊎ (length h.old < r.settings.n)

-- THEOREM: where the record passes, a table below n·f or fewer than n old places give 12, whatever else is lent and whatever the areas hold
pub short-table-told : (g : List ℕ) (r : Run) (h : Holdings) (ns : List Node) → is_fine (record_fault r) ≡ true → TooShort r h
    → ((take_out g r h ns).answer ≡ Err (Bad Areas)) × (take_number (take_out g r h ns).answer ≡ 12)
unfolding fault_number
short-table-told g r h ns e x = (told, rw told)
  where
    n : ℕ
    n = r.settings.n

    is-short : both r h ns ≡ false
    is-short = ⊎_elim (λ a. rw (lt-leb (n * r.settings.f) (length h.table) a)) (λ a. rw (lt-leb n (length h.old) a) (and_no (leb (n * r.settings.f) (length h.table)))) x.short

    areas : take_fault r h ns ≡ Err Areas
    areas = short-areas r h ns e is-short

    told : (take_out g r h ns).answer ≡ Err (Bad Areas)
    told = ap (λ (o : TookOut). o.answer) (bad-is g r h ns Areas areas)

-- ---- what the tests of what would be left have shown

pub record Passes (r : Run) (g : List ℕ) (y : List Float) (I O : List ℕ) : Type 0 where
  pub between : r.phase ≡ 0
  pub gone-fine : gone_fine g r.settings.n ≡ true
  pub enough : 2 ≤ length (survivors g r.settings.n)
  pub below : lt r.settings.perplexity (of_int binary64 (pos (length (survivors g r.settings.n)))) ≡ true
  pub room : crowded r.settings (survivors g r.settings.n) I O ≡ false
  pub calm : calm_left (survivors g r.settings.n) r.settings.c y ≡ true

on-cond : (b : Bool) (x y : Outlook) → is_accepted x ≡ false → is_accepted (cond b x y) ≡ true → (b ≡ false) × (is_accepted y ≡ true)
on-cond true x y n e = absurd (true≢false (sym e ∙ n))
on-cond false x y n e = (refl, e)

on-else : (b : Bool) (x y : Outlook) → is_accepted y ≡ false → is_accepted (cond b x y) ≡ true → b ≡ true
on-else true x y n e = refl
on-else false x y n e = absurd (true≢false (sym e ∙ n))

passes : (r : Run) (g : List ℕ) (y : List Float) (I O : List ℕ) → is_accepted (outlook_of r g y I O) ≡ true → Passes r g y I O
unfolding outlook_of
passes r g y I O e =
    let s = r.settings in
    let keep = survivors g s.n in
    let C = cond (calm_left keep s.c y) (Ok (length keep)) (Err Barred) in
    let L = cond (crowded s keep I O) (Err Crowded) C in
    let P = cond (not (lt s.perplexity (of_int binary64 (pos (length keep))))) (Err Perplexed) L in
    let F = cond (ltb (length keep) 2) (Err Few) P in
    let U = cond (not (gone_fine g s.n)) (Err Unordered) F in
    let a = on-cond (not (eqb r.phase 0)) (Err Inside) U refl e in
    let b = on-cond (not (gone_fine g s.n)) (Err Unordered) F refl a.1 in
    let c = on-cond (ltb (length keep) 2) (Err Few) P refl b.1 in
    let d = on-cond (not (lt s.perplexity (of_int binary64 (pos (length keep))))) (Err Perplexed) L refl c.1 in
    let f = on-cond (crowded s keep I O) (Err Crowded) C refl d.1 in
    record {
      between = eqb-true r.phase 0 (not-false (eqb r.phase 0) a.0);
      gone-fine = not-false (gone_fine g s.n) b.0;
      enough = ltb-false (length keep) 2 c.0;
      below = not-false (lt s.perplexity (of_int binary64 (pos (length keep)))) d.0;
      room = f.0;
      calm = on-else (calm_left keep s.c y) (Ok (length keep)) (Err Barred) refl f.1;
    }

passes-told : (r : Run) (g : List ℕ) (y : List Float) (I O : List ℕ) → Passes r g y I O → Ok (length (survivors g r.settings.n)) ≡ outlook_of r g y I O
passes-told r g y I O p = judged-left r g y I O p.between p.gone-fine p.enough p.below (length (survivors g r.settings.n)) refl p.room p.calm

-- ---- a removal that is not refused

-- the record and the areas with the samples of g taken out
abbrev pub took_from : List ℕ → Run → Holdings → TookOut
took_from g r h = took_as (Ok (length (survivors g r.settings.n))) g r h

module _ (g : List ℕ) (r : Run) (h : Holdings) (ns : List Node) where
  pub record Accepted : Type 0 where
    pub entered : TakeEntered r h ns
    pub passed : Passes r g h.positions h.indices h.offsets
    pub outcome : take_out g r h ns ≡ took_from g r h

  accepts : is_fine (fault g r h ns) ≡ true → is_accepted (outlook g r h ns) ≡ true → Accepted
  accepts f e =
      let p = passes r g h.positions h.indices h.offsets e in
      record {
        entered = entered r h ns f;
        passed = p;
        outcome =
            left_is g r h ns f e
            ∙ ap (λ (v : Outlook). took_as v g r h) (sym (passes-told r g h.positions h.indices h.offsets p));
      }

  -- an answer that tells how many are left is that of a removal that was done
  pub accepted : (m : ℕ) → (take_out g r h ns).answer ≡ Ok m → Accepted
  accepted m a = by_bool Accepted (is_fine (fault g r h ns))
      (λ f. by_bool Accepted (is_accepted (outlook g r h ns)) (accepts f)
      (λ e. absurd (true≢false (sym (same (outlook g r h ns) (sym (ap (λ (o : TookOut). o.answer) (told_is g r h ns f e)) ∙ a)) ∙ e))))
      (λ f. absurd (let x = found-some (fault g r h ns) f in
      let z : Err (Bad x.0) ≡ Ok m = sym (ap (λ (o : TookOut). o.answer) (bad-is g r h ns x.0 x.1)) ∙ a in let y : ◌≡◌ {A = ℕ} 0 1 = cc in omega arith))
    where
      same : (v : Outlook) → as_taken v ≡ Ok m → is_accepted v ≡ true
      same (Ok k) q = refl
      same (Err d) q = absurd (let y : ◌≡◌ {A = ℕ} 0 1 = cc in omega arith)

  -- and it tells their number
  pub accepted-count : (m : ℕ) → (take_out g r h ns).answer ≡ Ok m → m ≡ length (survivors g r.settings.n)
  accepted-count m a = let z : Ok (length (survivors g r.settings.n)) ≡ Ok m = sym (ap (λ (o : TookOut). o.answer) (accepted m a).outcome) ∙ a in cc

  -- the answers without a number are just those
  pub no-number-left : take_number (take_out g r h ns).answer ≡ 0 → (take_out g r h ns).answer ≡ Ok (length (survivors g r.settings.n))
  no-number-left z = by_bool Goal (is_fine (fault g r h ns))
      (λ f. by_bool Goal (is_accepted (outlook g r h ns))
      (λ e. ap (λ (o : TookOut). o.answer) (accepts f e).outcome)
      (λ e. absurd (told-numbered (outlook g r h ns) e (sym (ap (λ (o : TookOut). take_number o.answer) (told_is g r h ns f e)) ∙ z))))
      (λ f. let x = found-some (fault g r h ns) f in absurd (bad-numbered x.0 (sym (ap (λ (o : TookOut). take_number o.answer) (bad-is g r h ns x.0 x.1)) ∙ z)))
    where
      Goal : Type 0
      Goal = (take_out g r h ns).answer ≡ Ok (length (survivors g r.settings.n))
