-- The entry tests pass exactly on a state in good order. Assumes nothing.
use Rattle.std.specs.Prelude.{Ok, Err}
use mathlib.Core.List.{List}
use mathlib.Core.Path.{◌≡◌, refl, sym, ap, ◌∙◌}
use mathlib.Core.Bool.{Bool, true, false, cond, not, ◌&&◌, true≢false}
use Prim.Native.Nat.{ℕ, ◌+◌, ◌-◌, ◌*◌, ◌<◌, ◌≤◌}
use native.Mathlib.Omega.{arith}
use lib.Dec.{eqb, ltb, leb}
use lib.ListN.{length}
use borrow.Author.Tests.{ltb-true, leb-true, ltb-false, ne_eqb, eq-eqb, lt-ltb, le-leb, le-ltb, eqb-true, eqb-false, not-false}
use Rattle.laws.specs.Area.{num}
use Rattle.laws.proofs.Bools.{by_bool, and_left, and_right}
use Rattle.laws.proofs.First.{first-all, first-none}
use Rattle.refusal.specs.Refusal.{refusal_of}
use Rattle.run_record.specs.declared.Settings.{Settings}
use Rattle.run_record.specs.declared.Run.{Run}
use Rattle.run_record.specs.Record.{is_tree, angle_fine, angle_fault as bad_tree, settings_fault, counters_ok, per_of, state_fits, k_of, sizes_of, GoodSettings}
use Rattle.run_record.proofs.Laws.{settings-fine, settings-good}
use Rattle.tree_node.specs.declared.Node.{Node}
use Rattle.tree_node.specs.Node.{Axes}
use Rattle.tree.specs.Insert.{tree}
use Rattle.tree.specs.Contents.{contents_of, contents_fine as is_sound}
use Rattle.std.specs.declared.result.Result.{Result}
use Rattle.std.specs.declared.result.Result.TheVariants.{Ok, Err}
use Rattle.tree_contents.specs.declared.Unsound.{Unsound}
use Rattle.tree.proofs.Tested.{Sound, sound-fine, fine-sound}
use Rattle.run_entry.specs.State.{State}
use Rattle.run_entry.specs.declared.Fault.TheVariants.{Settings as BadSettings, Counters, Areas, Offsets, Index}
use Rattle.run_entry.specs.Entry.{tree_fits, areas_fit, offset_fine, index_fine, first_offset, first_index, listed, tree_fault, tree_fault_at, contents_fault}
use Rattle.run_entry.specs.declared.Fault.{Fault}
use Rattle.run_entry.specs.Entry.{Found, is_fine, record_fault, fault_at, fault_of, GoodCounters, TreeAreas, GoodAreas, GoodTree, GoodContents, Good}

-- a Barnes-Hut run has 1, 2 or 3 components
pub axes : (s : Settings) → GoodSettings s → is_tree s.method ≡ true → Axes s.c
unfolding bad_tree
axes s g t = (g.c-some, by (ltb 3 s.c) refl (angle_fine s.angle) (rw t at g.tree-fine))
  where
    by : (b : Bool) → ltb 3 s.c ≡ b → (a : Bool) → ◌≡◌ {A = ℕ} (cond (not a) 5 (cond (ltb 3 s.c) 6 0)) 0 → s.c ≤ 3
    by true e true q = absurd (let z : ◌≡◌ {A = ℕ} 6 0 = rw e at q in omega arith)
    by false e true q = ltb-false 3 s.c e
    by b e false q = absurd (omega arith)

pub links-is : (s : Settings) → (sizes_of s).links ≡ 2 * s.n * k_of s
unfolding sizes_of
links-is s = refl

-- each offset is fine where none is bad
pub offsets-fine : (s : Settings) (off : List ℕ) → s.n + 1 ≤ first_offset s off → (i : ℕ) → i < s.n + 1 → offset_fine off (sizes_of s).links i ≡ true
offsets-fine s off l i h = not-false _ (first-all (λ i. not (offset_fine off (sizes_of s).links i)) (s.n + 1) l i h)

-- the last offset passes no slot
pub listed-most : (s : Settings) (off : List ℕ) → 1 ≤ s.n → s.n + 1 ≤ first_offset s off → listed s off ≤ (sizes_of s).links
unfolding offset_fine
listed-most s off h l =
    let n = s.n in
    let e = offsets-fine s off l n (omega arith) in
    let f : leb (num off (n - 1)) (num off n) && leb (num off n) (sizes_of s).links ≡ true = rw (ne_eqb n 0 (λ q. omega arith)) at e in
    leb-true _ _ (and_right (leb (num off (n - 1)) (num off n)) (leb (num off n) (sizes_of s).links) f)

-- tests that pass have found nothing
pub found-none : (f : Found) → is_fine f ≡ true → f ≡ Ok tt
found-none (Ok t) e = refl
found-none (Err f) e = absurd (true≢false (sym e))

pub found-some : (f : Found) → is_fine f ≡ false → (b : Fault) × (f ≡ Err b)
found-some (Ok t) e = absurd (true≢false e)
found-some (Err b) e = (b, refl)

fine-cond : (t : Bool) (a b : Found) → is_fine a ≡ false → is_fine (cond t a b) ≡ true → (t ≡ false) × (is_fine b ≡ true)
fine-cond true a b n e = absurd (true≢false (sym e ∙ n))
fine-cond false a b n e = (refl, e)

fine-else : (t : Bool) (a b : Found) → is_fine b ≡ false → is_fine (cond t a b) ≡ true → (t ≡ true) × (is_fine a ≡ true)
fine-else true a b n e = (refl, e)
fine-else false a b n e = absurd (true≢false (sym e ∙ n))

-- ---- the record

counters-fine : (r : Run) → counters_ok r ≡ true → GoodCounters r
unfolding counters_ok
counters-fine r e =
    let a = state_fits r.standing r.done r.settings.iterations r.phase r.settings.minimum in
    let p = per_of r.settings.method r.settings.n in
    let b = ltb r.phase p in
    let d = eqb r.units (r.done * p + r.phase) in
    record {
      standing-fits = and_left a b (and_left (a && b) d e);
      phase-below = ltb-true r.phase p (and_right a b (and_left (a && b) d e));
      total = eqb-true r.units (r.done * p + r.phase) (and_right (a && b) d e);
    }

counters-good : (r : Run) → GoodCounters r → counters_ok r ≡ true
unfolding counters_ok
counters-good r g = let p = per_of r.settings.method r.settings.n in simp (g.standing-fits, lt-ltb r.phase p g.phase-below, eq-eqb r.units (r.done * p + r.phase) g.total)

pub record-fine : (r : Run) → is_fine (record_fault r) ≡ true → GoodSettings r.settings × GoodCounters r
unfolding record_fault
record-fine r e =
    let k = settings_fault r.settings in
    let a = fine-cond (not (eqb k 0)) (Err (BadSettings (refusal_of k))) (cond (counters_ok r) (Ok tt) (Err Counters)) refl e in
    let b = fine-else (counters_ok r) (Ok tt) (Err Counters) refl a.1 in
    (settings-fine r.settings (eqb-true k 0 (not-false (eqb k 0) a.0)), counters-fine r b.0)

record-good : (r : Run) → GoodSettings r.settings → GoodCounters r → record_fault r ≡ Ok tt
unfolding record_fault
record-good r s g = simp (settings-good r.settings s, counters-good r g)

-- ---- the areas

module _ (s : Settings) (p i g a x o f nodes : ℕ) where
  tree-fine : tree_fits s.n (2 * s.n * k_of s) a x o nodes ≡ true → TreeAreas s a x o nodes
  unfolding tree_fits
  tree-fine e =
      let l = 2 * s.n * k_of s in
      let A = leb l a in
      let B = leb l x in
      let C = leb (s.n + 1) o in
      let D = leb 1 nodes in
      record {
        links-most = leb-true l a (and_left A B (and_left (A && B) C (and_left (A && B && C) D e)));
        indices-most = leb-true l x (and_right A B (and_left (A && B) C (and_left (A && B && C) D e)));
        offsets-most = leb-true (s.n + 1) o (and_right (A && B) C (and_left (A && B && C) D e));
        nodes-some = leb-true 1 nodes (and_right (A && B && C) D e);
      }

  pub areas-fine : areas_fit s p i g a x o f nodes ≡ true → GoodAreas s p i g a x o f nodes
  unfolding areas_fit sizes_of
  areas-fine e =
      let l = s.n * s.c in
      let m = s.n * (2 * s.c + 1) in
      let A = leb l p in
      let B = leb l i in
      let C = leb l g in
      let D = leb m f in
      let X = cond (is_tree s.method) (tree_fits s.n (2 * s.n * k_of s) a x o nodes) (leb (s.n * s.n) a) in
      let e4 = and_left (A && B && C && D) X e in
      let e3 = and_left (A && B && C) D e4 in
      let e2 = and_left (A && B) C e3 in
      let y = and_right (A && B && C && D) X e in
      record {
        positions-long = leb-true l p (and_left A B e2);
        increments-long = leb-true l i (and_right A B e2);
        gains-long = leb-true l g (and_right (A && B) C e3);
        forces-long = leb-true m f (and_right (A && B && C) D e4);
        tree-long = λ t. tree-fine (rw t at y);
        exact-long = λ t. leb-true (s.n * s.n) a (rw t at y);
      }

  pub areas-good : GoodAreas s p i g a x o f nodes → areas_fit s p i g a x o f nodes ≡ true
  unfolding areas_fit sizes_of tree_fits
  areas-good h = by_bool (areas_fit s p i g a x o f nodes ≡ true) (is_tree s.method)
      (λ t. let z = h.tree-long t in simp (
        le-leb (s.n * s.c) p h.positions-long,
        le-leb (s.n * s.c) i h.increments-long,
        le-leb (s.n * s.c) g h.gains-long,
        le-leb (s.n * (2 * s.c + 1)) f h.forces-long,
        t,
        le-leb (2 * s.n * k_of s) a z.links-most,
        le-leb (2 * s.n * k_of s) x z.indices-most,
        le-leb (s.n + 1) o z.offsets-most,
        le-leb 1 nodes z.nodes-some,
      ))
      (λ t. simp (
        le-leb (s.n * s.c) p h.positions-long,
        le-leb (s.n * s.c) i h.increments-long,
        le-leb (s.n * s.c) g h.gains-long,
        le-leb (s.n * (2 * s.c + 1)) f h.forces-long,
        t,
        le-leb (s.n * s.n) a (h.exact-long t),
      ))

-- ---- the contents

same-fine : (t : Result Unit Unsound) → is_fine (tree_fault t) ≡ is_sound t
same-fine (Ok u) = refl
same-fine (Err f) = refl

fine-is : (t : Result Unit Unsound) → is_sound t ≡ true → tree_fault t ≡ Ok tt
fine-is (Ok u) e = refl
fine-is (Err f) e = absurd (true≢false (sym e))

module _ (r : Run) (xs off : List ℕ) (ns : List Node) where
  tree-fine-at : is_fine (tree_fault_at r ns) ≡ true → (r.phase ≡ 0 → ⊥) → GoodTree r.settings.n r ns
  unfolding tree_fault_at
  tree-fine-at e n =
      let t = contents_of r.settings.n r.settings.c (tree r.used ns) in
      let q : is_fine (tree_fault t) ≡ true = rw (ne_eqb r.phase 0 n) at e in
      let g = fine-sound r.settings.n r.settings.c (tree r.used ns) (sym (same-fine t) ∙ q) in
      record { used-some = g.some; used-most = g.within; each-node = g.nodes }

  tree-good-at : (r.phase ≡ 0 → ⊥) → GoodTree r.settings.n r ns → tree_fault_at r ns ≡ Ok tt
  unfolding tree_fault_at
  tree-good-at n g =
      let s : Sound r.settings.n r.settings.c (tree r.used ns) = record { some = g.used-some; within = g.used-most; nodes = g.each-node } in
      rw (ne_eqb r.phase 0 n) (fine-is (contents_of r.settings.n r.settings.c (tree r.used ns)) (sound-fine r.settings.n r.settings.c (tree r.used ns) s))

  tree-rests : r.phase ≡ 0 → tree_fault_at r ns ≡ Ok tt
  unfolding tree_fault_at
  tree-rests e = rw (eq-eqb r.phase 0 e)

  pub contents-fine : is_fine (contents_fault r xs off ns) ≡ true → GoodContents r.settings.n r xs off ns
  unfolding contents_fault
  contents-fine e =
      let s = r.settings in
      let rest = cond (ltb (first_index s xs off) (listed s off)) (Err (Index (first_index s xs off))) (tree_fault_at r ns) in
      let a = fine-cond (ltb (first_offset s off) (s.n + 1)) (Err (Offsets (first_offset s off - 1))) rest refl e in
      let b = fine-cond (ltb (first_index s xs off) (listed s off)) (Err (Index (first_index s xs off))) (tree_fault_at r ns) refl a.1 in
      record {
        each-offset = offsets-fine s off (ltb-false (first_offset s off) (s.n + 1) a.0);
        each_index = λ i h. not-false _ (first-all (λ i. not (index_fine xs s.n i)) (listed s off) (ltb-false (first_index s xs off) (listed s off) b.0) i h);
        tree = tree-fine-at b.1;
      }

  pub contents-good : GoodContents r.settings.n r xs off ns → contents_fault r xs off ns ≡ Ok tt
  unfolding contents_fault
  contents-good g =
      let s = r.settings in
      let q : first_offset s off ≡ s.n + 1 = first-none (λ i. not (offset_fine off (sizes_of s).links i)) (s.n + 1) (λ i h. ap not (g.each-offset i h)) in
      let x : first_index s xs off ≡ listed s off = first-none (λ i. not (index_fine xs s.n i)) (listed s off) (λ i h. ap not (g.each_index i h)) in
      let t : tree_fault_at r ns ≡ Ok tt = by_bool (tree_fault_at r ns ≡ Ok tt) (eqb r.phase 0) (λ z. tree-rests (eqb-true r.phase 0 z)) (λ z. tree-good-at
      (eqb-false r.phase 0 z) (g.tree (eqb-false r.phase 0 z))) in
      rw (le-ltb (first_offset s off) (s.n + 1) (omega (arith, q)), le-ltb (first_index s xs off) (listed s off) (omega (arith, x))) t

-- ---- all of them, whatever the values are: p, i, g, a, f are the lengths of positions, increments, gains, affinities and forces

module _ (r : Run) (p i g a f : ℕ) (xs off : List ℕ) (ns : List Node) where
  pub record GoodAt : Type 0 where
    pub settings : GoodSettings r.settings
    pub counters : GoodCounters r
    pub areas : GoodAreas r.settings p i g a (length xs) (length off) f (length ns)
    pub contents : is_tree r.settings.method ≡ true → GoodContents r.settings.n r xs off ns

  by-record : (x : Found) → is_fine (cond (is_fine (record_fault r)) x (record_fault r)) ≡ true → (is_fine (record_fault r) ≡ true) × (is_fine x ≡ true)
  by-record x e = by_bool ((is_fine (record_fault r) ≡ true) × (is_fine x ≡ true)) (is_fine (record_fault r)) (λ t. (t, rw t at e)) (λ f. absurd (true≢false (sym (rw f at e) ∙ f)))

  pub at-fine : is_fine (fault_at r p i g a f xs off ns) ≡ true → GoodAt
  unfolding fault_at
  at-fine e =
      let F = areas_fit r.settings p i g a (length xs) (length off) f (length ns) in
      let T = cond (is_tree r.settings.method) (contents_fault r xs off ns) (Ok tt) in
      let y = by-record (cond F T (Err Areas)) e in
      let z = fine-else F T (Err Areas) refl y.1 in
      let h = record-fine r y.0 in
      record {
        settings = h.0;
        counters = h.1;
        areas = areas-fine r.settings p i g a (length xs) (length off) f (length ns) z.0;
        contents = λ t. contents-fine r xs off ns (rw t at z.1);
      }

  pub at-good : GoodAt → fault_at r p i g a f xs off ns ≡ Ok tt
  unfolding fault_at
  at-good h = rw (record-good r h.settings h.counters, areas-good r.settings p i g a (length xs) (length off) f (length ns) h.areas)
      (by_bool (cond (is_tree r.settings.method) (contents_fault r xs off ns) (Ok tt) ≡ Ok tt) (is_tree r.settings.method) (λ t. rw t (contents-good r xs off ns (h.contents t))) (λ t. rw t))

-- .. of a state
pub fault-fine : (s : State) → is_fine (fault_of s) ≡ true → Good s
unfolding fault_of
fault-fine s e = let h = at-fine _ _ _ _ _ _ _ _ _ e in record { settings = h.settings; counters = h.counters; areas = h.areas; contents = h.contents }

pub fault-good : (s : State) → Good s → fault_of s ≡ Ok tt
unfolding fault_of
fault-good s g = at-good _ _ _ _ _ _ _ _ _ (record { settings = g.settings; counters = g.counters; areas = g.areas; contents = g.contents })
