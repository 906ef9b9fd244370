-- Each unit keeps the tree the one that its insertions built: so no count is above n, and with room for 50 splits of each further point none is refused. Assumes nothing.
use mathlib.Core.Path.{◌≡◌, refl, sym, ap, ◌∙◌}
use mathlib.Core.List.{List, [], ◌∷◌}
use mathlib.Core.Bool.{true, false, true≢false}
use Prim.Native.Nat.{ℕ, zero, suc, ◌+◌, ◌-◌, ◌*◌, ◌^◌, ◌<◌, ◌≤◌}
use native.Mathlib.Omega.{arith}
use native.Mathlib.Nat.{le_refl, not-suc-le-zero, mul_comm}
use lib.ListN.{length}
use lib.Ieee.{Float}
use Rattle.laws.specs.Domain.{deepest}
use Rattle.laws.specs.Loops.{loop}
use Rattle.run_record.specs.declared.Run.{Run}
use Rattle.run_record.specs.Record.{is_tree, is_ended, advanced_of, closed_of}
use Rattle.tree_node.specs.declared.Node.{Node}
use Rattle.tree_node.specs.Node.{zeros3}
use Rattle.tree_node.specs.Arena.{nameable}
use Rattle.tree.specs.Insert.{Tree, tree, Insertion, insertion, insert_of, tree_ok, built, rooted, enough_nodes}
use Rattle.tree_bounds.specs.Bounds.{box_of, middle_step, reach_step}
use Rattle.tree.specs.Box.{boxed}
use Rattle.tree.proofs.Whole.{looser, In, first-in, in_all, built-next, room_in, taken, enough-named}
use Rattle.run_entry.specs.State.{Memory, State}
use Rattle.run_entry.proofs.Laws.{axes}
use Rattle.run_finish.specs.declared.Halt.TheVariants.{Full, Wild}
use Rattle.std.specs.Prelude.{Ok, Err}
use Rattle.run_plan.specs.Plan.{group_of}
use Rattle.run_finish.specs.Finish.{FinishTurn, Why}
use Rattle.run_units.specs.Units.{unit, is_done, TreeTurn, tree_turn, box_turn, force_unit, Turned, with_tree, with_forces, with_finish}
use Rattle.run_units.proofs.Rooms.{group-zero, group-one}
use Rattle.run_units.proofs.One.{by-unit}
use Rattle.descent.specs.Honest.{points_in, Built, Honest}
use Rattle.run_budget.proofs.Turns.{inserting, by-tree, by-finish}
use Rattle.run_budget.proofs.Keeps.{retreed, box-ok, unit-keeps, unit-settings}

-- ---- what was built is a tree, whose counts are at most the points in it

module _ (y : List Float) (n c : ℕ) where
  -- an arena with the box in front
  boxed-is : (v : Node) (ns : List Node) → boxed y n c (v ∷ ns) ≡ rooted (loop (middle_step y n c) c 0 zeros3) (loop (reach_step y n c) c 0 zeros3) ns
  unfolding box_of
  boxed-is v ns = refl

  built_in : (k : ℕ) (ns : List Node) → 0 < length ns → 1 ≤ k → k ≤ n → (built y c k (boxed y n c ns)).full ≡ false → In n c (length ns) k (built y c k (boxed y n c ns))
  unfolding box_of
  built_in k [] h l m e = absurd (not-suc-le-zero h)
  built_in k (v ∷ ns) h l m e = in_all y n c (loop (middle_step y n c) c 0 zeros3) (loop (reach_step y n c) c 0 zeros3) ns k l m e

  -- none refused so far: what is in the arena is well formed
  counts-few : (k : ℕ) (t : Tree) (before : List Node) → 0 < length before → 1 ≤ n → k ≤ n → insertion false t ≡ built y c k (boxed y n c before) → tree_ok n n c t ≡ true
  unfolding built loop
  counts-few zero t before h l m e = rw (ap (λ (x : Insertion). x.tree) e) (box-ok n n c n y before h)
  counts-few (suc k) t before h l m e =
      let i = built_in (suc k) before h (omega arith) m (ap (λ (x : Insertion). x.full) (sym e)) in
      rw (ap (λ (x : Insertion). x.tree) e) (looser n n c (suc k) n (built y c (suc k) (boxed y n c before)).tree (le_refl n) m i.tree)

  -- with so many nodes the next point finds its own
  next-in : (k : ℕ) (t : Tree) (before : List Node) → 0 < length before → k < n → insertion false t ≡ built y c k (boxed y n c before) →
      enough_nodes c n ≤ nameable (length t.nodes) → (insert_of y c k t).full ≡ false
  unfolding built loop box_of
  next-in zero t [] h l e room = absurd (not-suc-le-zero h)
  next-in zero t (v ∷ before) h l e room = rw (ap (λ (x : Insertion). x.tree) e, first-in y c (loop (middle_step y n c) c 0 zeros3) (loop (reach_step y n c) c 0 zeros3) before)
  next-in (suc k) t before h l e room =
      let b = built y c (suc k) (boxed y n c before) in
      let i = built_in (suc k) before h (omega arith) (omega (arith, l)) (ap (λ (x : Insertion). x.full) (sym e)) in
      let q : t ≡ b.tree = ap (λ (x : Insertion). x.tree) e in
      let wide : 1 + (n - 1) * (deepest * 2 ^ c) ≤ nameable (length b.tree.nodes) = rw (mul_comm (n - 1) (deepest * 2 ^ c)) (rw q at room) in
      rw (q, taken y c (suc k) b.tree (room_in y n c (length before) (suc k) b (rw i.nodes at wide) l i))

-- so a tree that its insertions built has no count above n
pub grown-counts : (s : State) → 1 ≤ s.run.settings.n → Built s → tree_ok s.run.settings.n s.run.settings.n s.run.settings.c (tree s.run.used s.memory.nodes) ≡ true
grown-counts s l b = counts-few s.memory.positions s.run.settings.n s.run.settings.c (points_in s.run) (tree s.run.used s.memory.nodes)
    b.before b.some l (omega arith) b.same

-- ---- each unit keeps it

module _ (s : State) (g : Honest s) (live : is_ended s.run.standing ≡ false) where
  abbrev R : Run
  R = s.run

  abbrev M : Memory
  M = s.memory

  box-grown : group_of R ≡ 0 → R.phase ≡ 0 → Built (with_tree M (box_turn R M.positions M.nodes)).now
  unfolding advanced_of built loop
  box-grown z e = record {
    before = M.nodes;
    some = (g.good.areas.tree-long (group-zero R z).0).nodes-some;
    same = (let q : points_in (advanced_of R 1) ≡ 0 = omega (arith, e) in rw q);
  }

  insert-grown : group_of R ≡ 0 → (R.phase ≡ 0 → ⊥) → (inserting R M.positions M.nodes).full ≡ false →
      Built (with_tree M (tree_turn (advanced_of R (inserting R M.positions M.nodes).tree.used)
      (inserting R M.positions M.nodes).tree.nodes (Ok tt))).now
  unfolding advanced_of
  insert-grown z p f =
      let k = group-zero R z in
      let b = g.grown k.0 p in
      let t = boxed M.positions R.settings.n R.settings.c b.before in
      let j : points_in R ≡ R.phase - 1 = omega (arith, k.1) in
      let j' : points_in (advanced_of R 0) ≡ suc (R.phase - 1) = omega (arith, k.1, p) in
      let e : insertion false (tree R.used M.nodes) ≡ built M.positions R.settings.c (R.phase - 1) t = rw j at b.same in
      let more = built-next M.positions R.settings.c t (R.phase - 1) (ap (λ (x : Insertion). x.full) (sym e)) in
      record {
        before = b.before;
        some = b.some;
        same = rw j' (whole_is (inserting R M.positions M.nodes) f ∙ (ap (λ (x : Insertion). insert_of M.positions R.settings.c (R.phase - 1) x.tree) e ∙ sym more));
      }
    where
      whole_is : (i : Insertion) → i.full ≡ false → insertion false i.tree ≡ i
      whole_is i e = rw (sym e)

  force-grown : group_of R ≡ 1 → is_tree R.settings.method ≡ true →
      Built (with_forces M (advanced_of R R.used) (force_unit R M.positions M.affinities M.indices M.offsets M.nodes M.forces)).now
  unfolding advanced_of
  force-grown e t =
      let o = (group-one R e).tree t in
      let b = g.grown t (λ z. omega (arith, o.0)) in
      let q : points_in (advanced_of R R.used) ≡ points_in R = omega (arith, o.0) in
      record { before = b.before; some = b.some; same = rw q b.same }

  unit-grown : is_done (unit s).why ≡ true → is_tree (unit s).now.run.settings.method ≡ true → ((unit s).now.run.phase ≡ 0 → ⊥) → Built (unit s).now
  unfolding advanced_of closed_of
  unit-grown = by-unit s live (λ (t : Turned). is_done t.why ≡ true → is_tree t.now.run.settings.method ≡ true → (t.now.run.phase ≡ 0 → ⊥) → Built t.now)
      (λ z. by-tree R M.positions M.nodes (λ (t : TreeTurn). is_done t.why ≡ true → is_tree t.run.settings.method ≡ true → (t.run.phase ≡ 0 → ⊥) →
      Built (with_tree M t).now) (λ e d x q. box-grown z e) (λ e f d. absurd (true≢false (sym d))) (λ e f d x q. insert-grown z e f))
      (λ z d x q. force-grown z x)
      (λ a b. by-finish R M.positions M.increments M.gains M.forces (λ (t : FinishTurn). is_done t.why ≡ true →
      is_tree t.run.settings.method ≡ true → (t.run.phase ≡ 0 → ⊥) → Built (with_finish M t).now) (λ d x q. absurd (q refl)) (λ d. absurd
      (true≢false (sym d))))

  -- a unit that is done leaves an honest state
  pub honest-keeps : is_done (unit s).why ≡ true → Honest (unit s).now
  honest-keeps d =
      let u = (unit s).now in
      let n = R.settings.n in
      let same = unit-settings s live in
      let w = unit-keeps n s g.good live (omega (arith, g.good.settings.n-some)) d in
      let grown = unit-grown d in
      record {
        good = retreed (n + 1) u.run.settings.n u w (λ x q. let t = (w.contents x).tree q in
            record { used-some = t.used-some; used-most = t.used-most; each-node = grown-counts u (omega (arith, w.settings.n-some)) (grown x q) });
        grown = grown;
      }

-- ---- with 1 + 50·2^c·(n - 1) nodes no insertion is refused

module _ (s : State) (g : Honest s) (live : is_ended s.run.standing ≡ false) (room : enough_nodes s.run.settings.c s.run.settings.n ≤ length s.memory.nodes) where
  insert-room : group_of s.run ≡ 0 → (s.run.phase ≡ 0 → ⊥) → (inserting s.run s.memory.positions s.memory.nodes).full ≡ false
  insert-room z p =
      let r = s.run in
      let k = group-zero r z in
      let b = g.grown k.0 p in
      let j : points_in r ≡ r.phase - 1 = omega (arith, k.1) in
      next-in s.memory.positions r.settings.n r.settings.c (r.phase - 1) (tree r.used s.memory.nodes) b.before b.some (omega (arith, k.1, p)) (rw j at b.same)
      (enough-named r.settings.c r.settings.n (length s.memory.nodes) (axes r.settings g.good.settings k.0).1 g.good.settings.n-most room)

  pub unit-never-full : (unit s).why ≡ Err Full → ⊥
  unit-never-full = by-unit s live (λ (t : Turned). t.why ≡ Err Full → ⊥)
      (λ z. by-tree s.run s.memory.positions s.memory.nodes (λ (t : TreeTurn). t.why ≡ Err Full →
      ⊥) (λ e q. apart-done q) (λ e f q. true≢false (sym f ∙ insert-room z e)) (λ e f q. apart-done q))
      (λ z q. apart-done q)
      (λ a b. by-finish s.run s.memory.positions s.memory.increments s.memory.gains s.memory.forces (λ (t : FinishTurn). t.why ≡ Err Full → ⊥) (λ q. apart-done q) (λ q. apart-wild q))
    where
      apart-done : ◌≡◌ {A = Why} (Ok tt) (Err Full) → ⊥
      apart-done q = let z : ◌≡◌ {A = ℕ} 0 1 = cc in omega arith

      apart-wild : ◌≡◌ {A = Why} (Err Wild) (Err Full) → ⊥
      apart-wild q = let z : ◌≡◌ {A = ℕ} 0 1 = cc in omega arith
