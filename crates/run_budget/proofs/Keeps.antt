-- Each unit keeps a state in order and counts itself; a refused one changes nothing. Assumes nothing.
use mathlib.Core.Path.{◌≡◌, refl, sym}
use mathlib.Core.List.{List, [], ◌∷◌}
use mathlib.Core.Bool.{true, false, true≢false}
use Prim.Native.Nat.{ℕ, ◌+◌, ◌-◌, ◌<◌, ◌≤◌}
use native.Mathlib.Omega.{arith}
use native.Mathlib.Nat.{le_refl, not-suc-le-zero}
use lib.ListN.{length, set, length-set}
use lib.Ieee.{Float}
use borrow.Author.Tests.{le-leb}
use Rattle.laws.specs.Loops.{every}
use Rattle.laws.proofs.Bools.{by_bool}
use Rattle.run_record.specs.declared.Run.{Run}
use Rattle.run_record.specs.Record.{is_tree, is_ended, per_of, advanced_of, closed_of}
use Rattle.run_record.proofs.Laws.{per-some}
use Rattle.tree_node.specs.declared.Node.{Node}
use Rattle.tree_node.proofs.Told.{nameable-most, nameable-both}
use Rattle.tree_contents.specs.Contents.{node_ok}
use Rattle.tree.specs.Insert.{tree, tree_ok}
use Rattle.tree_bounds.specs.Bounds.{box_of}
use Rattle.tree.proofs.Whole.{looser, taken-ends, taken-fits}
use Rattle.run_entry.specs.State.{Memory, State}
use Rattle.run_entry.specs.Entry.{GoodTree, Ordered, Workable}
use Rattle.std.specs.Prelude.{Ok, Err}
use Rattle.run_finish.specs.declared.Halt.TheVariants.{Full as NoNodes, Wild as TooLarge, Over}
use Rattle.run_plan.specs.Plan.{group_of}
use Rattle.run_finish.specs.Finish.{Why, FinishTurn, finish_turn}
use Rattle.run_units.specs.Units.{unit, is_done, TreeTurn, tree_turn, box_turn, force_unit, Turned, with_tree, with_forces, with_finish}
use Rattle.run_units.proofs.Rooms.{group-zero, group-one, group-two}
use Rattle.run_units.proofs.One.{unit-over, by-unit}
use Rattle.run_budget.proofs.Counters.{advanced-good, closed-good}
use Rattle.run_budget.proofs.Turns.{inserting, by-tree, by-finish, length_run, length-forces}

-- ---- order with another bound on counts

-- it is the tree's clause alone that speaks of the bound
pub retreed : (m m' : ℕ) (s : State) → Ordered m s → (is_tree s.run.settings.method ≡ true → (s.run.phase ≡ 0 → ⊥) → GoodTree m' s.run s.memory.nodes) → Ordered m' s
retreed m m' s g t = record {
  settings = g.settings;
  counters = g.counters;
  areas = g.areas;
  contents = λ x. record { each-offset = (g.contents x).each-offset; each_index = (g.contents x).each_index; tree = t x };
}

pub ordered-looser : (m m' : ℕ) (s : State) → m ≤ m' → Ordered m s → Ordered m' s
ordered-looser m m' s h g = retreed m m' s g (λ x q. let t = (g.contents x).tree q in record {
  used-some = t.used-some;
  used-most = t.used-most;
  each-node = looser s.run.settings.n s.run.settings.n s.run.settings.c m m' (tree s.run.used s.memory.nodes) (le_refl s.run.settings.n) h t.each-node;
})

-- between iterations any bound will do
ordered-rests : (m m' : ℕ) (s : State) → s.run.phase ≡ 0 → Ordered m s → Ordered m' s
ordered-rests m m' s e g = retreed m m' s g (λ x q. absurd (q e))

-- ---- the box is a tree

pub box-ok : (n m c k : ℕ) (y : List Float) (ns : List Node) → 0 < length ns → tree_ok n m c (tree 1 (set ns 0 (box_of y k c))) ≡ true
unfolding every node_ok box_of
box-ok n m c k y [] h = absurd (not-suc-le-zero h)
box-ok n m c k y (v ∷ ns) h = rw (le-leb 0 m (omega arith))

-- ---- each unit, where counts were at most m

module _ (m : ℕ) (s : State) (g : Ordered m s) (live : is_ended s.run.standing ≡ false) (some : 1 ≤ m) where
  abbrev R : Run
  R = s.run

  abbrev M : Memory
  M = s.memory

  abbrev N : ℕ
  N = s.run.settings.n

  abbrev C : ℕ
  C = s.run.settings.c

  box-keeps : group_of R ≡ 0 → R.phase ≡ 0 → Ordered (m + 1) (with_tree M (box_turn R M.positions M.nodes)).now
  unfolding advanced_of
  box-keeps z e =
      let k = group-zero R z in
      let c = g.contents k.0 in
      let a = g.areas.tree-long k.0 in
      let q = per-some R.settings.method N in
      let n2 = g.settings.n-some in
      let l : length (set M.nodes 0 (box_of M.positions N C)) ≡ length M.nodes = length-set M.nodes 0 (box_of M.positions N C) in
      record {
        settings = g.settings;
        counters = advanced-good R live g.counters 1 (omega arith);
        areas = rw l g.areas;
        contents = λ t. record {
          each-offset = c.each-offset;
          each_index = c.each_index;
          tree = λ n. record {
            used-some = omega arith;
            used-most = nameable-both 1 (length (set M.nodes 0 (box_of M.positions N C)))
                (rw l a.nodes-some) (omega arith);
            each-node = box-ok N (m + 1) C N M.positions M.nodes a.nodes-some;
          };
        };
      }

  insert-keeps : group_of R ≡ 0 → (R.phase ≡ 0 → ⊥) → (inserting R M.positions M.nodes).full ≡ false
      → Ordered (m + 1) (with_tree M (tree_turn (advanced_of R (inserting R M.positions M.nodes).tree.used) (inserting R M.positions M.nodes).tree.nodes (Ok tt))).now
  unfolding advanced_of
  insert-keeps z p f =
      let k = group-zero R z in
      let c = g.contents k.0 in
      let t = c.tree p in
      let i = inserting R M.positions M.nodes in
      let q = per-some R.settings.method N in
      let n2 = g.settings.n-some in
      let fit = taken-fits M.positions C (R.phase - 1) (tree R.used M.nodes) f in
      let e = taken-ends M.positions C (R.phase - 1) (tree R.used M.nodes) N m (omega (arith, k.1, p)) some t.each-node t.used-some
      (omega (arith, t.used-most, nameable-most (length M.nodes))) fit in
      record {
        settings = g.settings;
        counters = advanced-good R live g.counters i.tree.used (omega (arith, k.1));
        areas = rw e.nodes g.areas;
        contents = λ x. record {
          each-offset = c.each-offset;
          each_index = c.each_index;
          tree = λ n. record { used-some = omega (arith, e.used, t.used-some); used-most = rw (e.used, e.nodes) fit; each-node = e.tree };
        };
      }

  -- a unit of the forces is not an iteration's last
  one_more : group_of R ≡ 1 → R.phase + 1 < per_of R.settings.method N
  unfolding per_of
  one_more e =
      let o = group-one R e in
      by_bool (R.phase + 1 < per_of R.settings.method N) (is_tree R.settings.method) (λ t. let h = o.tree t in rw t (omega arith)) (λ t. let h = o.exact t in rw t (omega arith))

  force-keeps : group_of R ≡ 1 → Ordered (m + 1) (with_forces M (advanced_of R R.used) (force_unit R M.positions M.affinities M.indices M.offsets M.nodes M.forces)).now
  unfolding advanced_of
  force-keeps e =
      let w = ordered-looser m (m + 1) s (omega arith) g in
      record {
        settings = g.settings;
        counters = advanced-good R live g.counters R.used (one_more e);
        areas = rw (length-forces R M.positions M.affinities M.indices M.offsets M.nodes M.forces) g.areas;
        contents = λ t. (let c = w.contents t in let o = (group-one R e).tree t in record {
          each-offset = c.each-offset;
          each_index = c.each_index;
          tree = λ n. (let x = c.tree (λ z. omega arith) in record { used-some = x.used-some; used-most = x.used-most; each-node = x.each-node });
        });
      }

  finish-keeps : (group_of R ≡ 0 → ⊥) → (group_of R ≡ 1 → ⊥) → (norm : Float) (y v x : List Float) → length y ≡ length M.positions →
      length v ≡ length M.increments → length x ≡ length M.gains → Ordered (m + 1) (with_finish M (finish_turn (closed_of R norm) y v x (Ok tt))).now
  unfolding closed_of
  finish-keeps a b norm y v x ly lv lx = record {
    settings = g.settings;
    counters = closed-good R live g.counters norm (group-two R a b g.counters.phase-below);
    areas = rw (ly, lv, lx) g.areas;
    contents = λ t. (let c = g.contents t in record { each-offset = c.each-offset; each_index = c.each_index; tree = λ n. absurd (n refl) });
  }

  -- a unit that is done keeps the state in order, with counts of at most one more
  pub unit-keeps : is_done (unit s).why ≡ true → Ordered (m + 1) (unit s).now
  unit-keeps = by-unit s live (λ (t : Turned). is_done t.why ≡ true → Ordered (m + 1) t.now)
      (λ z. by-tree R M.positions M.nodes (λ (t : TreeTurn). is_done (with_tree M t).why ≡ true →
      Ordered (m + 1) (with_tree M t).now) (λ e d. box-keeps z e) (λ e f d. absurd (true≢false (sym d))) (λ e f d. insert-keeps z e f))
      (λ z d. force-keeps z)
      (λ a b. by-finish R M.positions M.increments M.gains M.forces (λ (t : FinishTurn). is_done (with_finish M t).why ≡ true → Ordered (m + 1) (with_finish M t).now)
      (λ d. finish-keeps a b _ _ _ _ (length_run _ _ _ _ (λ j l. length-set l j _)) (length_run _ _ _ _ (λ j l. length-set l j _))
      (length_run _ _ _ _ (λ j l. length-set l j _))) (λ d. absurd (true≢false (sym d))))

module _ (s : State) (live : is_ended s.run.standing ≡ false) where
  -- the record counts it
  pub unit-counts : is_done (unit s).why ≡ true → (unit s).now.run.units ≡ s.run.units + 1
  unfolding advanced_of closed_of
  unit-counts = by-unit s live (λ (t : Turned). is_done t.why ≡ true → t.now.run.units ≡ s.run.units + 1)
      (λ z. by-tree s.run s.memory.positions s.memory.nodes (λ (t : TreeTurn). is_done t.why ≡ true →
      t.run.units ≡ s.run.units + 1) (λ e d. refl) (λ e f d. absurd (true≢false (sym d))) (λ e f d. refl))
      (λ z d. refl)
      (λ a b. by-finish s.run s.memory.positions s.memory.increments s.memory.gains s.memory.forces (λ (t : FinishTurn). is_done
      t.why ≡ true → t.run.units ≡ s.run.units + 1) (λ d. refl) (λ d. absurd (true≢false (sym d))))

  -- it is done, or lacks nodes, or finds a value too large
  pub unit-not-over : (unit s).why ≡ Err Over → ⊥
  unit-not-over = by-unit s live (λ (t : Turned). t.why ≡ Err Over → ⊥)
      (λ z. by-tree s.run s.memory.positions s.memory.nodes (λ (t : TreeTurn). t.why ≡ Err Over →
      ⊥) (λ e. done) (λ e f d. absurd (let q : ◌≡◌ {A = Why} (Err NoNodes) (Err Over) = d in let u : ◌≡◌ {A = ℕ} 0 1 = cc in omega arith)) (λ e f. done))
      (λ z. done)
      (λ a b. by-finish s.run s.memory.positions s.memory.increments s.memory.gains s.memory.forces (λ (t : FinishTurn). t.why ≡ Err Over →
      ⊥) done (λ d. absurd (let q : ◌≡◌ {A = Why} (Err TooLarge) (Err Over) = d in let u : ◌≡◌ {A = ℕ} 0 1 = cc in omega arith)))
    where
      done : ◌≡◌ {A = Why} (Ok tt) (Err Over) → ⊥
      done d = let u : ◌≡◌ {A = ℕ} 0 1 = cc in omega arith

  -- settings stay as they are
  pub unit-settings : (unit s).now.run.settings ≡ s.run.settings
  unfolding advanced_of closed_of
  unit-settings = by-unit s live (λ (t : Turned). t.now.run.settings ≡ s.run.settings)
      (λ z. by-tree s.run s.memory.positions s.memory.nodes (λ (t : TreeTurn). t.run.settings ≡ s.run.settings) (λ e. refl) (λ e f. refl) (λ e f. refl))
      (λ z. refl)
      (λ a b. by-finish s.run s.memory.positions s.memory.increments s.memory.gains s.memory.forces (λ (t : FinishTurn). t.run.settings ≡ s.run.settings) refl refl)

  -- the phase is one more, or an iteration is through
  pub unit-phase : is_done (unit s).why ≡ true → ((unit s).now.run.phase ≡ 0 → ⊥) → (unit s).now.run.phase ≡ s.run.phase + 1
  unfolding advanced_of closed_of
  unit-phase = by-unit s live (λ (t : Turned). is_done t.why ≡ true → (t.now.run.phase ≡ 0 → ⊥) → t.now.run.phase ≡ s.run.phase + 1)
      (λ z. by-tree s.run s.memory.positions s.memory.nodes (λ (t : TreeTurn). is_done t.why ≡ true → (t.run.phase ≡ 0 → ⊥) →
      t.run.phase ≡ s.run.phase + 1) (λ e d q. refl) (λ e f d. absurd (true≢false (sym d))) (λ e f d q. refl))
      (λ z d q. refl)
      (λ a b. by-finish s.run s.memory.positions s.memory.increments s.memory.gains s.memory.forces (λ (t : FinishTurn). is_done
      t.why ≡ true → (t.run.phase ≡ 0 → ⊥) → t.run.phase ≡ s.run.phase + 1) (λ d q. absurd (q refl)) (λ d. absurd (true≢false (sym d))))

-- a unit that is not done changes nothing
pub unit-refused : (s : State) → is_done (unit s).why ≡ false → (unit s).now ≡ s
unit-refused s = by_bool (is_done (unit s).why ≡ false → (unit s).now ≡ s) (is_ended s.run.standing)
    (λ e d. rw (sym (unit-over s e)))
    (λ live. by-unit s live (λ (t : Turned). is_done t.why ≡ false → t.now ≡ s)
    (λ z. by-tree s.run s.memory.positions s.memory.nodes (λ (t : TreeTurn). is_done t.why ≡ false →
    (with_tree s.memory t).now ≡ s) (λ e d. absurd (true≢false d)) (λ e f d. refl) (λ e f d. absurd (true≢false d)))
    (λ z d. absurd (true≢false d))
    (λ a b. by-finish s.run s.memory.positions s.memory.increments s.memory.gains s.memory.forces (λ (t : FinishTurn). is_done
    t.why ≡ false → (with_finish s.memory t).now ≡ s) (λ d. absurd (true≢false d)) (λ d. refl)))

-- so what a call works on stays workable
pub workable-keeps : (s : State) → Workable s → is_ended s.run.standing ≡ false → is_done (unit s).why ≡ true → Workable (unit s).now
workable-keeps s g live d =
    let n = s.run.settings.n in
    let m = n + s.run.phase in
    let n2 = g.settings.n-some in
    let w = unit-keeps m s g live (omega arith) d in
    retreed (m + 1) ((unit s).now.run.settings.n + (unit s).now.run.phase) (unit s).now w
    (λ x q. let e = unit-phase s live d q in let t = ordered-looser (m + 1) ((unit s).now.run.settings.n + (unit s).now.run.phase) (unit s).now
    (same (unit s).now (unit-settings s live) e) w in (t.contents x).tree q)
  where
    same : (u : State) → u.run.settings ≡ s.run.settings → u.run.phase ≡ s.run.phase + 1 → s.run.settings.n + s.run.phase + 1 ≤ u.run.settings.n + u.run.phase
    same u e f = rw e (omega (arith, f))
