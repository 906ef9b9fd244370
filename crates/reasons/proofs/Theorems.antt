-- Each kind of fault is told exactly where its condition holds and none before it does, with the lowest place. Assumes nothing.
use Rattle.std.specs.Prelude.{Ok, Err}
use mathlib.Core.Path.{◌≡◌, refl, sym, ap, subst, ◌∙◌}
use mathlib.Core.Logic.{◌⊎◌, inl, inr}
use mathlib.Core.Bool.{Bool, true, false, cond, not, true≢false}
use Prim.Native.Nat.{ℕ, ◌+◌, ◌-◌, ◌<◌, ◌≤◌}
use native.Mathlib.Omega.{arith}
use native.Mathlib.Decide.{ℕ_discrete}
use lib.Dec.{eqb, ltb}
use borrow.Author.Tests.{eq-eqb, ne_eqb, eqb-true, eqb-false, lt-ltb, le-ltb, ltb-true, ltb-false, not-true, not-false}
use Rattle.laws.specs.Loops.{first}
use Rattle.laws.proofs.Bools.{by_bool}
use Rattle.laws.proofs.First.{first_holds, first-before, first-all, first-none, first-at}
use Rattle.tree_node.specs.declared.Node.{Node}
use Rattle.tree_node.specs.Arena.{node_at}
use Rattle.tree_contents.specs.Contents.{node_fault, point_ok}
use Rattle.tree.specs.Contents.{contents_of}
use Rattle.run_record.specs.Record.{is_tree, settings_fault, early_fault, late_fault, angle_fault, counters_ok}
use Rattle.run_record.specs.declared.Settings.{Settings}
use Rattle.refusal.specs.declared.Refusal.{Refusal}
use Rattle.refusal.specs.Refusal.{refusal_number, refusal_of}
use Rattle.refusal.proofs.Numbers.{refusal-by-number, refusal-some}
use Rattle.run_entry.specs.declared.Fault.TheVariants.{Settings as BadSettings, Counters, Areas, Offsets, Index, Tree as BadTree}
use Rattle.run_entry.specs.Entry.{Found, first_offset, first_index, tree_fault, tree_fault_at, contents_fault, record_fault, fault_at}
use Rattle.reasons.specs.Reasons.{Shown, found_in, RecordPasses, areas_long, AreasPass, offset_at, OffsetsPass, links_listed, index_at, IndicesPass, used_bad}
use Rattle.reasons.specs.Reasons.{node_bad, EndFails, OffsetsFail, IndexFail, NodeFails, TreeFail, AllPass, Reason}

-- ---- the number that settings get is a refusal's

abbrev Named : ℕ → Type 0
Named k = (k ≡ 0 → ⊥) → refusal_number (refusal_of k) ≡ k

named-cond : (b : Bool) (k r : ℕ) → Named k → Named r → Named (cond b k r)
named-cond true k r x y = x
named-cond false k r x y = y

pub settings-named : (v : Settings) → Named (settings_fault v)
unfolding settings_fault early_fault late_fault angle_fault
settings-named v =
    named-cond _ _ _ early (named-cond _ 9 _ (λ n. refl) (named-cond _ 0 10 (λ n. absurd (n refl)) (λ n. refl)))
  where
    angle : Named (angle_fault v.method v.angle v.c)
    angle = named-cond _ _ _ (named-cond _ 5 _ (λ n. refl) (named-cond _ 6 0 (λ n. refl) (λ n. absurd (n refl)))) (λ n. absurd (n refl))

    early : Named (early_fault v)
    early = named-cond _ 1 _ (λ n. refl) (named-cond _ 2 _ (λ n. refl) (named-cond _ 3 _ (λ n. refl) (named-cond _ 4 _ (λ n. refl)
        (named-cond _ _ _ angle (named-cond _ 7 0 (λ n. refl) (λ n. absurd (n refl)))))))

-- ---- what the tests answer, step by step

no_of : (b : Bool) → not b ≡ false → b ≡ true
no_of b e = not-false b e

yes_of : (b : Bool) → not b ≡ true → b ≡ false
yes_of b e = not-true b e

module _ (s : Shown) where
  abbrev k : ℕ
  k = settings_fault s.run.settings

  abbrev e : ℕ
  e = first_offset s.run.settings s.offsets

  abbrev p : ℕ
  p = first_index s.run.settings s.indices s.offsets

  abbrev u : ℕ
  u = first (node_bad s) s.run.used

  settings-answer : (k ≡ 0 → ⊥) → found_in s ≡ Err (BadSettings (refusal_of k))
  unfolding fault_at record_fault
  settings-answer n = rw (ne_eqb k 0 n)

  module _ (a : k ≡ 0) where
    counters-answer : counters_ok s.run ≡ false → found_in s ≡ Err Counters
    unfolding fault_at record_fault
    counters-answer b = rw (eq-eqb k 0 a, b)

    module _ (b : counters_ok s.run ≡ true) where
      areas-answer : areas_long s ≡ false → found_in s ≡ Err Areas
      unfolding fault_at record_fault
      areas-answer c = rw (eq-eqb k 0 a, b, c)

      module _ (c : areas_long s ≡ true) where
        exact-answer : is_tree s.run.settings.method ≡ false → found_in s ≡ Ok tt
        unfolding fault_at record_fault
        exact-answer d = rw (eq-eqb k 0 a, b, c, d)

        module _ (d : is_tree s.run.settings.method ≡ true) where
          contents-answer : found_in s ≡ contents_fault s.run s.indices s.offsets s.nodes
          unfolding fault_at record_fault
          contents-answer = rw (eq-eqb k 0 a, b, c, d)

          offsets-answer : e < s.run.settings.n + 1 → found_in s ≡ Err (Offsets (e - 1))
          unfolding contents_fault
          offsets-answer h = contents-answer ∙ rw (lt-ltb e (s.run.settings.n + 1) h)

          module _ (f : s.run.settings.n + 1 ≤ e) where
            index-answer : p < links_listed s → found_in s ≡ Err (Index p)
            unfolding contents_fault
            index-answer h = contents-answer ∙ rw (le-ltb e (s.run.settings.n + 1) f, lt-ltb p (links_listed s) h)

            module _ (g : links_listed s ≤ p) where
              tree-answer : found_in s ≡ tree_fault_at s.run s.nodes
              unfolding contents_fault
              tree-answer = contents-answer ∙ rw (le-ltb e (s.run.settings.n + 1) f, le-ltb p (links_listed s) g)

              between-answer : s.run.phase ≡ 0 → found_in s ≡ Ok tt
              unfolding tree_fault_at
              between-answer h = tree-answer ∙ rw (eq-eqb s.run.phase 0 h)

              module _ (i : s.run.phase ≡ 0 → ⊥) where
                used-answer : used_bad s ≡ true → found_in s ≡ Err (BadTree 0)
                unfolding tree_fault_at contents_of
                used-answer h = tree-answer ∙ rw (ne_eqb s.run.phase 0 i, h)

                node-kind : (n j : ℕ) (v : Node) → tree_fault (Err (node_fault n j v)) ≡ Err (BadTree j)
                unfolding node_fault
                node-kind n j v = by_bool (tree_fault (Err (node_fault n j v)) ≡ Err (BadTree j)) (ltb n v.count) (λ x. rw x) (λ x. by_bool
                    (tree_fault (Err (node_fault n j v)) ≡ Err (BadTree j)) (point_ok n v.leaf) (λ y. rw (x, y)) (λ y. rw (x, y)))

                node-answer : used_bad s ≡ false → u < s.run.used → found_in s ≡ Err (BadTree u)
                unfolding tree_fault_at contents_of
                node-answer h l = tree-answer ∙ rw (ne_eqb s.run.phase 0 i, h, lt-ltb u s.run.used l) (node-kind s.run.settings.n u (node_at s.nodes u))

                fine-answer : used_bad s ≡ false → s.run.used ≤ u → found_in s ≡ Ok tt
                unfolding tree_fault_at contents_of
                fine-answer h l = tree-answer ∙ rw (ne_eqb s.run.phase 0 i, h, le-ltb u s.run.used l)

  -- ---- what a test that passed or failed says, place by place

  offsets-up-to : (t : ℕ) → t ≤ e → (j : ℕ) → j < t → offset_at s j ≡ true
  offsets-up-to t h j l = no_of (offset_at s j) (first-before (λ i. not (offset_at s i)) (s.run.settings.n + 1) j (omega arith))

  offsets-all : s.run.settings.n + 1 ≤ e → (j : ℕ) → j < s.run.settings.n + 1 → offset_at s j ≡ true
  offsets-all h j l = no_of (offset_at s j) (first-all (λ i. not (offset_at s i)) (s.run.settings.n + 1) h j l)

  indices-all : links_listed s ≤ p → (j : ℕ) → j < links_listed s → index_at s j ≡ true
  indices-all h j l = no_of (index_at s j) (first-all (λ i. not (index_at s i)) (links_listed s) h j l)

  -- ---- the first of them

  record_of : k ≡ 0 → counters_ok s.run ≡ true → RecordPasses s
  record_of a b = record { settings-pass = a; counters-pass = b }

  areas-of : RecordPasses s → areas_long s ≡ true → is_tree s.run.settings.method ≡ true → AreasPass s
  areas-of r c d = record { record-passes = r; areas-pass = c; lists-there = d }

  told : {f : Found} → found_in s ≡ f → Reason s f → Reason s (found_in s)
  told q r = subst (Reason s) (sym q) r

  -- the lowest bad offset is the start, or the end of a frame's list
  offset-reason : AreasPass s → e < s.run.settings.n + 1 → OffsetsFail s (e - 1)
  offset-reason a l =
      let bad : offset_at s e ≡ false = yes_of (offset_at s e) (first_holds (λ i. not (offset_at s i)) (s.run.settings.n + 1) l) in
      elim (ℕ_discrete e 0) [
        | yes z ↦ record { areas-before = a; start-or-end = inl (subst (λ (x : ℕ). offset_at s x ≡ false) z bad, ap (λ (x : ℕ). x - 1) z) }
        | no z ↦ (let q : e ≡ e - 1 + 1 = omega arith in
            record {
              areas-before = a;
              start-or-end = inr
                  (record {
                    frame-within = omega arith;
                    end-fails = subst (λ (x : ℕ). offset_at s x ≡ false) q bad;
                    ends-before = offsets-up-to (e - 1 + 1)
                        (omega arith);
                  });
            })
      ]

  tree-reason : (a : k ≡ 0) (b : counters_ok s.run ≡ true) (c : areas_long s ≡ true) (d : is_tree s.run.settings.method ≡ true)
      (f : s.run.settings.n + 1 ≤ e) (g : links_listed s ≤ p) → Reason s (found_in s)
  tree-reason a b c d f g =
      let ip : IndicesPass s = record { offsets-before = record { areas-before = areas-of (record_of a b) c d; offsets-pass = offsets-all f }; indices-pass = indices-all g } in
      by_bool (Reason s (found_in s)) (eqb s.run.phase 0)
      (λ h. (let z = eqb-true s.run.phase 0 h in told (between-answer a b c d f g z)
      (record { record-passes = record_of a b; areas-pass = c; lists-pass = λ t. ip; tree-passes = λ t i. absurd (i z) })))
      (λ h. (let i = eqb-false s.run.phase 0 h in
      by_bool (Reason s (found_in s)) (used_bad s)
      (λ x. told (used-answer a b c d f g i x) (record { indices-before = ip; inside = i; used-or-node = inl (x, refl) }))
      (λ x. by_bool (Reason s (found_in s)) (ltb u s.run.used)
      (λ y. (let l = ltb-true u s.run.used y in told (node-answer a b c d f g i x l)
      (record {
        indices-before = ip;
        inside = i;
        used-or-node = inr
            (record {
              used-good = x;
              node-within = l;
              node-fails = first_holds (node_bad s) s.run.used l;
              nodes-before = first-before (node_bad s)
                  s.run.used;
            });
      })))
      (λ y. (let l = ltb-false u s.run.used y in told (fine-answer a b c d f g i x l)
      (record {
        record-passes = record_of a b;
        areas-pass = c;
        lists-pass = λ t. ip;
        tree-passes = λ t j.
            (x, first-all (node_bad s) s.run.used l);
      }))))))

  lists-reason : (a : k ≡ 0) (b : counters_ok s.run ≡ true) (c : areas_long s ≡ true) (d : is_tree s.run.settings.method ≡ true) → Reason s (found_in s)
  lists-reason a b c d =
      let m = s.run.settings.n + 1 in
      let ap' = areas-of (record_of a b) c d in
      by_bool (Reason s (found_in s)) (ltb e m)
      (λ x. (let l = ltb-true e m x in told (offsets-answer a b c d l) (offset-reason ap' l)))
      (λ x. (let f = ltb-false e m x in
      by_bool (Reason s (found_in s)) (ltb p (links_listed s))
      (λ y. (let l = ltb-true p (links_listed s) y in told (index-answer a b c d f l)
      (record {
        offsets-before = record { areas-before = ap'; offsets-pass = offsets-all f };
        place-within = l;
        place-fails = yes_of (index_at s p)
            (first_holds (λ i. not (index_at s i)) (links_listed s) l);
        lowest-place = λ q h. no_of (index_at s q)
            (first-before (λ i. not (index_at s i)) (links_listed s) q h);
      })))
      (λ y. tree-reason a b c d f (ltb-false p (links_listed s) y))))

  -- THEOREM: what is told is so, with nothing bad before it, and the place is the lowest
  pub reason-told : Reason s (found_in s)
  reason-told =
      by_bool (Reason s (found_in s)) (eqb k 0)
      (λ x. (let a = eqb-true k 0 x in
      by_bool (Reason s (found_in s)) (counters_ok s.run)
      (λ b. by_bool (Reason s (found_in s)) (areas_long s)
      (λ c. by_bool (Reason s (found_in s)) (is_tree s.run.settings.method) (lists-reason a b c) (λ d. told (exact-answer a b c d)
      (record {
        record-passes = record_of a b;
        areas-pass = c;
        lists-pass = λ t. absurd (true≢false (sym t ∙ d));
        tree-passes = λ t. absurd
            (true≢false (sym t ∙ d));
      })))
      (λ c. told (areas-answer a b c) (record { record-passes = record_of a b; areas-fail = c })))
      (λ b. told (counters-answer a b) (record { settings-pass = a; counters-fail = b }))))
      (λ x. (let n = eqb-false k 0 x in told (settings-answer n) (record { number_is = sym (settings-named s.run.settings n); some_number = refusal-some (refusal_of k) })))

  -- ---- where a condition holds, it is told

  -- a bad offset with good ones before it is the first
  first-end : (x : ℕ) → x < s.run.settings.n + 1 → offset_at s x ≡ false → ((j : ℕ) → j < x → offset_at s j ≡ true) → e ≡ x
  first-end x h b g = first-at (λ j. not (offset_at s j)) (s.run.settings.n + 1) x h (rw b) (λ j l. rw (g j l))

  first-bad-place : (q : ℕ) (r : IndexFail s q) → p ≡ q
  first-bad-place q r = first-at (λ j. not (index_at s j)) (links_listed s) q r.place-within (rw r.place-fails) (λ j h. rw (r.lowest-place j h))

  ends-past : OffsetsPass s → s.run.settings.n + 1 ≤ e
  ends-past o = omega (arith, first-none (λ j. not (offset_at s j)) (s.run.settings.n + 1) (λ j h. rw (o.offsets-pass j h)))

  places-past : IndicesPass s → links_listed s ≤ p
  places-past o = omega (arith, first-none (λ j. not (index_at s j)) (links_listed s) (λ j h. rw (o.indices-pass j h)))

  offset-only : AreasPass s → (x i : ℕ) → x < s.run.settings.n + 1 → e ≡ x → x - 1 ≡ i → found_in s ≡ Err (Offsets i)
  offset-only a x i h q z = offsets-answer a.record-passes.settings-pass a.record-passes.counters-pass a.areas-pass a.lists-there
      (omega (arith, q)) ∙ ap (λ (y : ℕ). Err (Offsets y)) (ap (λ (y : ℕ). y - 1) q ∙ z)

  offsets-only : (i : ℕ) (r : OffsetsFail s i) → found_in s ≡ Err (Offsets i)
  offsets-only i r = by r.start-or-end
    where
      by : ((offset_at s 0 ≡ false) × (i ≡ 0)) ⊎ EndFails s i → found_in s ≡ Err (Offsets i)
      by (inl x) = offset-only r.areas-before 0 i (omega arith) (first-end 0 (omega arith) x.0 (λ j h. absurd (omega arith))) (sym x.1)
      by (inr x) = offset-only r.areas-before (i + 1) i (omega (arith, x.frame-within)) (first-end (i + 1) (omega (arith, x.frame-within)) x.end-fails x.ends-before) (omega arith)

  tree-only : (i : ℕ) (r : TreeFail s i) → found_in s ≡ Err (BadTree i)
  tree-only i r = by r.used-or-node
    where
      by : ((used_bad s ≡ true) × (i ≡ 0)) ⊎ NodeFails s i → found_in s ≡ Err (BadTree i)
      by (inl x) =
          let o = r.indices-before.offsets-before in
          let a = o.areas-before in
          used-answer a.record-passes.settings-pass a.record-passes.counters-pass a.areas-pass a.lists-there (ends-past o)
          (places-past r.indices-before) r.inside x.0 ∙ ap (λ (y : ℕ). Err (BadTree y)) (sym x.1)
      by (inr x) =
          let o = r.indices-before.offsets-before in
          let a = o.areas-before in
          let q : u ≡ i = first-at (node_bad s) s.run.used i x.node-within x.node-fails x.nodes-before in
          node-answer a.record-passes.settings-pass a.record-passes.counters-pass a.areas-pass a.lists-there (ends-past o)
          (places-past r.indices-before) r.inside x.used-good (omega (arith, q, x.node-within)) ∙ ap (λ (y : ℕ). Err (BadTree y)) q

  fine-only : AllPass s → found_in s ≡ Ok tt
  fine-only r =
      let a = r.record-passes.settings-pass in
      let b = r.record-passes.counters-pass in
      let c = r.areas-pass in
      by_bool (found_in s ≡ Ok tt) (is_tree s.run.settings.method)
      (λ d. (let ip = r.lists-pass d in let f = ends-past ip.offsets-before in let g = places-past ip in
      by_bool (found_in s ≡ Ok tt) (eqb s.run.phase 0)
      (λ h. between-answer a b c d f g (eqb-true s.run.phase 0 h))
      (λ h. (let i = eqb-false s.run.phase 0 h in let t = r.tree-passes d i in
      fine-answer a b c d f g i t.0 (omega (arith, first-none (node_bad s) s.run.used t.1))))))
      (λ d. exact-answer a b c d)

  -- THEOREM: where a condition holds and none before it, that is what is told
  pub reason-only : (f : Found) → Reason s f → found_in s ≡ f
  reason-only (Ok t) r = fine-only r
  reason-only (Err (BadSettings j)) r = settings-answer (λ z. r.some_number (sym r.number_is ∙ z)) ∙ ap (λ (y : Refusal). Err (BadSettings y)) (ap refusal_of r.number_is ∙ refusal-by-number j)
  reason-only (Err Counters) r = counters-answer r.settings-pass r.counters-fail
  reason-only (Err Areas) r = areas-answer r.record-passes.settings-pass r.record-passes.counters-pass r.areas-fail
  reason-only (Err (Offsets i)) r = offsets-only i r
  reason-only (Err (Index j)) r =
      let a = r.offsets-before.areas-before in
      let q = first-bad-place j r in
      index-answer a.record-passes.settings-pass a.record-passes.counters-pass a.areas-pass a.lists-there (ends-past r.offsets-before) (omega (arith, q, r.place-within))
      ∙ ap (λ (y : ℕ). Err (Index y)) q
  reason-only (Err (BadTree i)) r = tree-only i r
