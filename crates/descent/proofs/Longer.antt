-- A longer arena changes nothing that a unit does where it is done without: a run refused by 14 goes on as a run with that arena from the start. Assumes nothing.
use mathlib.Core.Path.{◌≡◌, sym, ap, ◌∙◌}
use mathlib.Core.List.{List, [], ◌∷◌, ◌++◌}
use mathlib.Core.Bool.{true, false, true≢false}
use Prim.Native.Nat.{ℕ, ◌+◌, ◌-◌, ◌≤◌}
use native.Mathlib.Omega.{arith}
use lib.ListN.{length, length-set, length-append}
use lib.Ieee.{Float, binary64, mul}
use Rattle.laws.proofs.Bools.{by_bool}
use Rattle.run_calls.specs.Machine.{stops, after, units_done, together, capped}
use Rattle.run_calls.proofs.Demand.{Grows, grown, goes_on, after-add, done-add, call-state, call-units, after-counts}
use Rattle.run_record.specs.declared.Run.{Run}
use Rattle.run_record.specs.Record.{is_tree, is_ended, advanced_of}
use Rattle.tree_node.specs.declared.Node.{Node}
use Rattle.tree_bodies.specs.declared.Acc.{Acc}
use Rattle.tree_node.proofs.Told.{nameable-most, nameable-longer}
use Rattle.tree_node.specs.Node.{point_of}
use Rattle.tree.specs.Insert.{Tree, tree, Insertion, insertion}
use Rattle.tree_bounds.specs.Bounds.{box_of}
use Rattle.tree.specs.Box.{boxed}
use Rattle.tree.proofs.Longer.{Fits, extended, longer-ok, box-longer, insert-longer, built-longer, repels-on-longer}
use Rattle.gradient.specs.Forces.{stored, attraction_of, forces_of}
use Rattle.run_entry.specs.State.{Memory, State}
use Rattle.run_entry.specs.Entry.{GoodTree, Ordered}
use Rattle.std.specs.Prelude.{Ok}
use Rattle.run_plan.specs.Plan.{exaggeration_of, group_of}
use Rattle.run_units.specs.Units.{unit, is_done, TreeTurn, tree_turn, box_turn, force_unit, Turned, turned, with_tree, with_forces}
use Rattle.run_units.proofs.Rooms.{group-zero, group-one}
use Rattle.run_units.proofs.One.{unit-tree, unit-force, unit-finish, by-unit}
use Rattle.run_budget.specs.Budget.{machine}
use Rattle.descent.specs.Descent.{work, units_of, answer_kind, works}
use Rattle.descent.specs.Honest.{points_in, Built, Honest}
use Rattle.descent.specs.Longer.{longer}
use Rattle.run_budget.proofs.Turns.{inserting, tree-box, tree-insert, by-tree}
use Rattle.run_budget.proofs.Keeps.{box-ok}
use Rattle.run_budget.proofs.Spends.{due}
use Rattle.descent.proofs.Lawful.{lawful, due-counts}
use Rattle.descent.proofs.Theorems.{units-told, call-keeps, demand-three}

-- ---- the tree of a state in order, in the tree's own words

tree-fits : {m : ℕ} (r : Run) (ns : List Node) → GoodTree m r ns → Fits r.settings.n r.settings.c m (tree r.used ns)
tree-fits r ns t = record { some = t.used-some; within = omega (arith, t.used-most, nameable-most (length ns)); sound = t.each-node }

-- a call with b on s, then a call with c on t. Beside it one call on u, whose budget is the units done of b, and c
pub record GoesOn (b c : ℕ) (s t u : State) : Type 0 where
  -- record and every area are left the same
  pub left : (work c t).left ≡ (work (units_of (work b s).answer + c) u).left
  -- the units told are as many
  pub units : units_of (work b s).answer + units_of (work c t).answer ≡ units_of (work (units_of (work b s).answer + c) u).answer
  -- the last answer is of the same kind
  pub kind : 1 ≤ c → answer_kind (work c t).answer ≡ answer_kind (work (units_of (work b s).answer + c) u).answer

-- ---- two calls are one with the sum of their budgets

units-done : (b : ℕ) (s : State) → Honest s → units_of (work b s).answer ≡ units_done machine b s
unfolding lawful
units-done b s g = units-told b s ∙ call-units machine lawful b s g

module _ (a c : ℕ) (t : State) (h : Honest t) where
  two-left : (work c (work a t).left).left ≡ (work (a + c) t).left
  unfolding work lawful
  two-left = call-state machine lawful c (work a t).left (call-keeps a t h) ∙ ap (after machine c) (call-state machine lawful a t h) ∙
      sym (after-add machine a c t) ∙ sym (call-state machine lawful (a + c) t h)

  two-units : units_of (work a t).answer + units_of (work c (work a t).left).answer ≡ units_of (work (a + c) t).answer
  unfolding work lawful
  two-units =
      let e = units-done c (work a t).left (call-keeps a t h) ∙ ap (units_done machine c) (call-state machine lawful a t h) in
      omega (arith, e, units-done a t h, units-done (a + c) t h, done-add machine a c t)

  two-kinds : 1 ≤ c → answer_kind (work c (work a t).left).answer ≡ answer_kind (work (a + c) t).answer
  unfolding works together
  two-kinds hc =
      let q : together (a ∷ []) + c ≡ together [] + (a + c) = omega arith in
      (demand-three (a ∷ []) c t h hc).kind ∙ ap (λ (k : ℕ). answer_kind (work (capped k) t).answer) q ∙ sym (demand-three [] (a + c) t h (omega (arith, hc))).kind

module _ (more : List Node) where
  -- ---- each unit, where counts were at most m: so of good states and of workable ones

  module _ (m : ℕ) (s : State) (g : Ordered m s) (live : is_ended s.run.standing ≡ false) (some : 1 ≤ m) where
    abbrev R : Run
    R = s.run

    abbrev M : Memory
    M = s.memory

    -- the longer arena's
    abbrev L : Memory
    L = (longer more s).memory

    box-same : group_of R ≡ 0 → R.phase ≡ 0 → unit (longer more s) ≡ turned (longer more (with_tree M (box_turn R M.positions M.nodes)).now) (Ok tt)
    box-same z e =
        unit-tree (longer more s) live z ∙ ap (λ (t : TreeTurn). with_tree L t) (tree-box R M.positions L.nodes e
        ∙ ap (λ (t : Tree). tree_turn (advanced_of R 1) t.nodes (Ok tt))
        (box-longer more M.positions R.settings.n R.settings.c M.nodes (g.areas.tree-long (group-zero R z).0).nodes-some))

    insert-same : group_of R ≡ 0 → (R.phase ≡ 0 → ⊥) → (inserting R M.positions M.nodes).full ≡ false
        → unit (longer more s) ≡ turned (longer more
        (with_tree M (tree_turn (advanced_of R (inserting R M.positions M.nodes).tree.used)
        (inserting R M.positions M.nodes).tree.nodes (Ok tt))).now) (Ok tt)
    insert-same z p f =
        let k = group-zero R z in
        let t = (g.contents k.0).tree p in
        let e = insert-longer more M.positions R.settings.n R.settings.c m (R.phase - 1) (tree R.used M.nodes) (omega (arith, k.1, p)) some (tree-fits R M.nodes t) f in
        unit-tree (longer more s) live z ∙ ap (λ (t : TreeTurn). with_tree L t) (tree-insert R M.positions L.nodes p (ap (λ (x : Insertion). x.full) e)
        ∙ ap (λ (x : Insertion). tree_turn (advanced_of R x.tree.used) x.tree.nodes (Ok tt)) e)

    force-same : group_of R ≡ 1 → force_unit R M.positions M.affinities M.indices M.offsets L.nodes M.forces ≡ force_unit R M.positions
        M.affinities M.indices M.offsets M.nodes M.forces
    unfolding force_unit forces_of
    force-same e =
        let c = R.settings.c in
        let i = R.phase - R.settings.n - 1 in
        by_bool (force_unit R M.positions M.affinities M.indices M.offsets L.nodes M.forces ≡ force_unit R M.positions M.affinities
        M.indices M.offsets M.nodes M.forces) (is_tree R.settings.method)
        (λ t.
        let o = (group-one R e).tree t in
        let f = tree-fits R M.nodes ((g.contents t).tree (λ z. omega (arith, z, o.0))) in
        rw t (ap (λ (a : Acc). stored c i (attraction_of (exaggeration_of R) c M.positions M.affinities M.indices M.offsets i) a M.forces)
        (repels-on-longer more R.settings.n c m (tree R.used M.nodes) f i (point_of M.positions c i)
        (mul binary64 R.settings.angle R.settings.angle))))
        (λ t. rw t)

    -- a unit that is done is done in the longer arena too, and leaves there what it leaves here
    pub unit-longer : is_done (unit s).why ≡ true → unit (longer more s) ≡ turned (longer more (unit s).now) (unit s).why
    unit-longer = by-unit s live (λ (t : Turned). is_done t.why ≡ true → unit (longer more s) ≡ turned (longer more t.now) t.why)
        (λ z. by-tree R M.positions M.nodes (λ (t : TreeTurn). is_done t.why ≡ true →
        unit (longer more s) ≡ turned (longer more (with_tree M t).now) t.why) (λ e d. box-same z e) (λ e f d. absurd (true≢false (sym d)))
        (λ e f d. insert-same z e f))
        (λ z d. unit-force (longer more s) live z ∙ ap (λ (F : List Float). with_forces L (advanced_of R R.used) F) (force-same z))
        (λ a b d. unit-finish (longer more s) live a b)

  -- ---- a longer arena keeps a state honest

  pub ordered-longer : (m : ℕ) (s : State) → Ordered m s → Ordered m (longer more s)
  ordered-longer m s g =
      let ns = s.memory.nodes in
      let l = length-append ns more in
      let a = g.areas in
      record {
        settings = g.settings;
        counters = g.counters;
        areas = record {
          positions-long = a.positions-long;
          increments-long = a.increments-long;
          gains-long = a.gains-long;
          forces-long = a.forces-long;
          tree-long = λ t. (let x = a.tree-long t in
              record {
                links-most = x.links-most;
                indices-most = x.indices-most;
                offsets-most = x.offsets-most;
                nodes-some = omega
                    (arith, x.nodes-some, l);
              });
          exact-long = a.exact-long;
        };
        contents = λ t. (let c = g.contents t in record {
          each-offset = c.each-offset;
          each_index = c.each_index;
          tree = λ q. (let x = c.tree q in record {
            used-some = x.used-some;
            used-most = omega
                (arith, x.used-most, nameable-longer (length ns) (length (ns ++ more)) (omega (arith, l)));
            each-node = longer-ok more s.run.settings.n
                s.run.settings.c m (tree s.run.used ns) (omega (arith, x.used-most, nameable-most (length ns))) x.each-node;
          });
        });
      }

  -- it is what the same insertions build in the longer arena
  built-same : (s : State) → Built s → Built (longer more s)
  built-same s b =
      let y = s.memory.positions in
      let n = s.run.settings.n in
      let c = s.run.settings.c in
      let k = points_in s.run in
      let t = boxed y n c b.before in
      let f : Fits n c 1 t = record { some = omega arith; within = rw (length-set b.before 0 (box_of y n c)) b.some; sound = box-ok n 1 c n y b.before b.some } in
      let e = built-longer more y n c 1 t (omega arith) f k (omega arith) (ap (λ (x : Insertion). x.full) (sym b.same)) in
      record {
        before = b.before ++ more;
        some = omega (arith, b.some, length-append b.before more);
        same = rw (box-longer more y n c b.before b.some) (ap (λ (x : Insertion). insertion false (extended more x.tree)) b.same ∙ sym e.1);
      }

  pub honest-longer : (s : State) → Honest s → Honest (longer more s)
  honest-longer s g = record { good = ordered-longer s.run.settings.n s g.good; grown = λ t q. built-same s (g.grown t q) }

  -- ---- THEOREM 4, second half

  -- every unit that is done is done in the longer arena too
  pub grows : Grows machine lawful (longer more)
  unfolding stops lawful
  grows = record {
    due = λ s g e. (let d = due s e in rw (unit-longer s.run.settings.n s g.good d.0 (omega (arith, g.good.settings.n-some)) d.1, d.0, d.1));
    same = λ s g e. (let d = due s e in rw (unit-longer s.run.settings.n s g.good d.0 (omega (arith, g.good.settings.n-some)) d.1));
  }

  -- lent a longer arena, a run refused by 14, or any other run, goes on as a run does that had this arena from the start:
  -- with c units more it is where that run is after the units done of b, and c
  pub goes-on-longer : (b c : ℕ) (s : State) → Honest s → after machine c (longer more (after machine b s)) ≡ after machine (units_done machine b s + c) (longer more s)
  unfolding lawful
  goes-on-longer b c s g = goes_on machine lawful (longer more) grows b c s g

  -- ---- the same, in the words of the work call

  module _ (b : ℕ) (s : State) (g : Honest s) where
    -- the longer run does the units that the other does
    units-longer : units_of (work (units_of (work b s).answer) (longer more s)).answer ≡ units_of (work b s).answer
    unfolding lawful
    units-longer =
        let u = units_of (work b s).answer in
        let e = units-done b s g in
        let here = after-counts machine (λ (x : State). x.run.units) due-counts b s in
        let there = after-counts machine (λ (x : State). x.run.units) due-counts u (longer more s) in
        let same = ap (λ (x : State). x.run.units) (ap (λ (k : ℕ). after machine k (longer more s)) e ∙ grown machine lawful (longer more) grows b s g) in
        omega (arith, e, here, there, same, units-done u (longer more s) (honest-longer s g))

    -- and is then where the other is, but for its arena
    pub catches-up : (work (units_of (work b s).answer) (longer more s)).left ≡ longer more (work b s).left
    unfolding work lawful
    catches-up =
        call-state machine lawful (units_of (work b s).answer) (longer more s) (honest-longer s g)
        ∙ ap (λ (k : ℕ). after machine k (longer more s)) (units-done b s g)
        ∙ grown machine lawful (longer more) grows b s g
        ∙ ap (longer more) (sym (call-state machine lawful b s g))

  -- a run refused by 14, or any other, whose arena is made longer between two calls: the second call does what it does in a run with that arena from the start
  pub works-on-longer : (b c : ℕ) (s : State) → Honest s → GoesOn b c s (longer more (work b s).left) (longer more s)
  works-on-longer b c s g =
      let u = units_of (work b s).answer in
      let t = longer more s in
      let h = honest-longer s g in
      let e = sym (catches-up b s g) in
      record {
        left = ap (λ (x : State). (work c x).left) e ∙ two-left u c t h;
        units = (let q = ap (λ (x : State). units_of (work c x).answer) e in omega (arith, q, units-longer b s g, two-units u c t h));
        kind = λ hc. ap (λ (x : State). answer_kind (work c x).answer) e ∙ two-kinds u c t h hc;
      }
