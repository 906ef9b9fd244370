-- Which unit is next, and that a state in order has what its parts ask. Assumes nothing.
use mathlib.Core.Path.{◌≡◌, sym, ◌∙◌}
use mathlib.Core.Bool.{true, false, cond}
use Prim.Native.Nat.{ℕ, suc, ◌+◌, ◌-◌, ◌*◌, ◌<◌, ◌≤◌}
use native.Mathlib.Omega.{arith}
use native.Mathlib.Nat.{le_refl}
use lib.Dec.{ltb, leb}
use lib.ListN.{length}
use borrow.Author.Tests.{ltb-true, leb-true, ltb-false, leb-false}
use Rattle.laws.specs.Domain.{most_word}
use Rattle.laws.proofs.Bools.{by_bool}
use Rattle.run_record.specs.declared.Run.{Run}
use Rattle.run_record.specs.Record.{is_tree, per_of}
use Rattle.run_record.proofs.Laws.{per-most, done-most, product-fits}
use Rattle.tree.specs.Insert.{tree}
use Rattle.tree.proofs.Whole.{looser}
use Rattle.run_entry.specs.State.{State}
use Rattle.run_entry.specs.Entry.{Workable}
use Rattle.run_entry.proofs.Laws.{axes}
use Rattle.run_rooms.proofs.Lists.{linked-at}
use Rattle.run_rooms.proofs.Places.{cells-forces}
use Rattle.run_plan.specs.Plan.{group_of}
use Rattle.run_finish.specs.FinishRoom.{Small, FinishRoom}
use Rattle.run_units.specs.Room.{TreeRoom, ForceRoom}

-- ---- which unit

group-tree : (r : Run) → is_tree r.settings.method ≡ true → group_of r ≡ cond (leb r.phase r.settings.n) 0 (cond (leb r.phase (2 * r.settings.n)) 1 2)
unfolding group_of
group-tree r t = rw t

group-exact : (r : Run) → is_tree r.settings.method ≡ false → group_of r ≡ cond (ltb r.phase (2 * r.settings.n)) 1 2
unfolding group_of
group-exact r t = rw t

-- a unit of the tree
pub group-zero : (r : Run) → group_of r ≡ 0 → (is_tree r.settings.method ≡ true) × (r.phase ≤ r.settings.n)
group-zero r e =
    let n = r.settings.n in
    let P = (is_tree r.settings.method ≡ true) × (r.phase ≤ n) in
    by_bool P (is_tree r.settings.method)
    (λ t. let q = sym (group-tree r t) ∙ e in by_bool P (leb r.phase n) (λ b. (t, leb-true r.phase n b))
    (λ b. by_bool P (leb r.phase (2 * n)) (λ d. absurd (let z : ◌≡◌ {A = ℕ} 1 0 = rw (b, d) at q in omega arith)) (λ d. absurd (let z : ◌≡◌ {A = ℕ} 2 0 = rw (b, d) at q in omega arith))))
    (λ t. let q = sym (group-exact r t) ∙ e in by_bool P (ltb r.phase (2 * n)) (λ d. absurd (let z : ◌≡◌ {A = ℕ} 1 0 = rw d at q in omega arith))
    (λ d. absurd (let z : ◌≡◌ {A = ℕ} 2 0 = rw d at q in omega arith)))

pub record OneUnit (r : Run) : Type 0 where
  pub tree : is_tree r.settings.method ≡ true → (r.settings.n < r.phase) × (r.phase ≤ 2 * r.settings.n)
  pub exact : is_tree r.settings.method ≡ false → r.phase < 2 * r.settings.n

-- a unit of the forces
pub group-one : (r : Run) → group_of r ≡ 1 → OneUnit r
group-one r e =
    let n = r.settings.n in
    record {
      tree = λ t. (let P = (n < r.phase) × (r.phase ≤ 2 * n) in let q = sym (group-tree r t) ∙ e in by_bool P (leb r.phase n) (λ b. absurd (let z : ◌≡◌ {A = ℕ} 0 1 = rw b at q in omega arith))
          (λ b. by_bool P (leb r.phase (2 * n)) (λ d. (leb-false r.phase n b, leb-true r.phase (2 * n) d)) (λ d. absurd (let z : ◌≡◌ {A = ℕ} 2 1 = rw (b, d) at q in omega arith))));
      exact = λ t. (let q = sym (group-exact r t) ∙ e in by_bool (r.phase < 2 * n) (ltb r.phase (2 * n)) (λ d. ltb-true r.phase (2 * n) d) (λ d. absurd
          (let z : ◌≡◌ {A = ℕ} 2 1 = rw d at q in omega arith)));
    }

-- neither: the last unit of an iteration
pub group-two : (r : Run) → (group_of r ≡ 0 → ⊥) → (group_of r ≡ 1 → ⊥) → r.phase < per_of r.settings.method r.settings.n → r.phase + 1 ≡ per_of r.settings.method r.settings.n
unfolding per_of
group-two r a b l =
    let n = r.settings.n in
    let P = r.phase + 1 ≡ per_of r.settings.method n in
    by_bool P (is_tree r.settings.method)
    (λ t. let h : r.phase < 2 * n + 2 = rw t at l in by_bool P (leb r.phase n) (λ x. absurd (a (group-tree r t ∙ rw x)))
    (λ x. by_bool P (leb r.phase (2 * n)) (λ y. absurd (b (group-tree r t ∙ rw (x, y)))) (λ y. rw t (omega (arith, leb-false r.phase (2 * n) y)))))
    (λ t. let h : r.phase < 2 * n + 1 = rw t at l in by_bool P (ltb r.phase (2 * n)) (λ x. absurd (b (group-exact r t ∙ rw x))) (λ x. rw t (omega (arith, ltb-false r.phase (2 * n) x))))

-- ---- what the parts ask

module _ (s : State) (g : Workable s) where
  pub small_of : Small s.run
  small_of =
      let r = s.run in
      let p = per-most r.settings.method r.settings.n g.settings.n-most in
      let d = product-fits r.done r.settings.iterations r.settings.method r.settings.n
      (done-most r.standing r.done r.settings.iterations r.phase r.settings.minimum g.counters.standing-fits)
      g.settings.iterations-most g.settings.n-most in
      let h = g.counters.phase-below in
      let t = g.counters.total in
      record { phase-small = omega arith; units_small = omega arith; n-most = g.settings.n-most }

  pub tree-room : group_of s.run ≡ 0 → TreeRoom s.run (length s.memory.positions) s.memory.nodes
  tree-room e =
      let z = group-zero s.run e in
      let c = g.contents z.0 in
      let n = s.run.settings.n in
      let p = small_of.phase-small in
      let m = g.settings.n-most in
      record {
        numbers = small_of;
        axes = axes s.run.settings g.settings z.0;
        phase-in = z.1;
        positions-in = g.areas.positions-long;
        nodes-some = (g.areas.tree-long z.0).nodes-some;
        used-some = λ q. (c.tree q).used-some;
        used-in = λ q. (c.tree q).used-most;
        sound = λ q. looser n n s.run.settings.c (n + s.run.phase) (most_word - 1) (tree s.run.used s.memory.nodes) (le_refl n) (omega arith) (c.tree q).each-node;
      }

  pub force-room : group_of s.run ≡ 1 → ForceRoom s.run (length s.memory.positions) (length s.memory.affinities) (length s.memory.forces)
      s.memory.affinities s.memory.indices s.memory.offsets s.memory.nodes
  force-room e =
      let r = s.run in
      let n = r.settings.n in
      let o = group-one r e in
      let p = small_of.phase-small in
      let m = g.settings.n-most in
      let t2 = g.settings.n-some in
      let f = g.areas.forces-long in
      let cf = cells-forces n r.settings.c in
      record {
        numbers = small_of;
        c-most = g.settings.c-most;
        phase-most = by_bool (r.phase ≤ 2 * n) (is_tree r.settings.method) (λ t. (o.tree t).1) (λ t. let h = o.exact t in omega arith);
        positions-in = g.areas.positions-long;
        forces-in = f;
        total-in = omega arith;
        phase-tree = λ t. (o.tree t).0;
        axes = λ t. axes r.settings g.settings t;
        used-some = λ t. ((g.contents t).tree (λ z. let h = o.tree t in omega arith)).used-some;
        used-in = λ t. ((g.contents t).tree (λ z. let h = o.tree t in omega arith)).used-most;
        sound = λ t. looser n (suc most_word) r.settings.c (n + r.phase) most_word (tree r.used s.memory.nodes) (omega arith) (omega arith)
            ((g.contents t).tree (λ z. let h = o.tree t in omega arith)).each-node;
        linked = λ t. (let h = o.tree t in linked-at r s.memory.indices s.memory.offsets s.memory.nodes (g.contents t) s.memory.affinities
            (g.areas.tree-long t) (r.phase - n - 1) (omega arith));
        phase-exact = o.exact;
        square-in = g.areas.exact-long;
      }

  pub finish-room : FinishRoom s.run (length s.memory.positions) (length s.memory.increments) (length s.memory.gains) (length s.memory.forces)
  finish-room =
      let r = s.run in
      let d = done-most r.standing r.done r.settings.iterations r.phase r.settings.minimum g.counters.standing-fits in
      let i = g.settings.iterations-most in
      record {
        numbers = small_of;
        done-small = omega arith;
        c-some = g.settings.c-some;
        c-most = g.settings.c-most;
        positions-in = g.areas.positions-long;
        increments-in = g.areas.increments-long;
        gains-in = g.areas.gains-long;
        forces-in = g.areas.forces-long;
      }
