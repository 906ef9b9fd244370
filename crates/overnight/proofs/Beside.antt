-- A run that was parked beside the one that was not, unit by unit: each unit is done on both or refused on both, for the same reason, and keeps them alike. Assumes nothing.
use mathlib.Core.Path.{◌≡◌, refl, sym, ap, subst, ◌∙◌}
use mathlib.Core.List.{List}
use mathlib.Core.Bool.{true, false, true≢false}
use Prim.Native.Nat.{ℕ, suc, ◌+◌, ◌-◌, ◌*◌, ◌<◌, ◌≤◌}
use native.Mathlib.Omega.{arith}
use native.Mathlib.Decide.{ℕ_discrete, dec_lt}
use native.Mathlib.Nat.{zero-mul, suc-mul, not-suc-le-zero}
use lib.ListN.{length, set, length-set}
use lib.Seq.{get_or-set_same}
use lib.Ieee.{Float}
use Rattle.laws.specs.Area.{at}
use Rattle.laws.proofs.Bools.{by_bool}
use Rattle.run_record.specs.declared.Run.{Run}
use Rattle.run_record.specs.Record.{is_tree, is_ended, per_of, advanced_of, stops_now, closed_of}
use Rattle.tree_node.specs.declared.Node.{Node}
use Rattle.tree_node.specs.Arena.{blank}
use Rattle.tree_node.proofs.Told.{nameable-most}
use Rattle.tree_bounds.specs.Bounds.{box_of}
use Rattle.tree.specs.Insert.{tree}
use Rattle.tree.proofs.Longer.{Fits}
use Rattle.run_entry.specs.State.{Memory, State, state}
use Rattle.run_entry.specs.Entry.{Good}
use Rattle.run_rooms.proofs.Lists.{offset-listed, linked-at}
use Rattle.run_rooms.proofs.Places.{cells-forces}
use Rattle.run_plan.specs.Plan.{group_of}
use Rattle.run_finish.specs.declared.Halt.TheVariants.{Full}
use Rattle.std.specs.Prelude.{Ok, Err}
use Rattle.run_finish.specs.Finish.{FinishTurn, finish_turn, finish_unit}
use Rattle.run_units.specs.Units.{unit, TreeTurn, tree_turn, box_turn, tree_unit, force_unit, Turned, with_tree, with_forces, with_finish}
use Rattle.run_units.proofs.Rooms.{group-zero, group-one, group-two}
use Rattle.run_units.proofs.One.{unit-tree, unit-force, unit-finish, by-unit}
use Rattle.run_budget.proofs.Turns.{inserting, by-tree, length-forces}
use Rattle.overnight.specs.Across.{reread, SameTo, Kept, SameNodes, force_places, SameRun}
use Rattle.overnight.proofs.Writes.{kept_on}
use Rattle.overnight.proofs.Points.{box-same}
use Rattle.overnight.proofs.Trees.{Twin, insert-same}
use Rattle.overnight.proofs.Forced.{one-method, Forced, tree-forced, exact-forced}
use Rattle.overnight.proofs.Finish.{Moves, by_both}

-- o was parked and o' read; s and t are where units have led from there
pub record Beside (o o' s t : State) : Type 0 where
  pub same : SameRun s t
  pub from : o.run.done ≤ s.run.done
  -- from the next box unit on
  pub nodes : is_tree s.run.settings.method ≡ true → (s.run.phase ≡ 0 → o.run.done < s.run.done) → SameNodes s.run.used t.run.used s.memory.nodes t.memory.nodes
  -- the places that this iteration's units have written
  pub points : is_tree s.run.settings.method ≡ true → SameTo ((s.run.phase - s.run.settings.n - 1) * (2 * s.run.settings.c + 1)) s.memory.forces t.memory.forces
  pub total : is_tree s.run.settings.method ≡ false → 0 < s.run.phase →
      at s.memory.forces (s.run.settings.n * s.run.settings.c) ≡ at t.memory.forces (s.run.settings.n * s.run.settings.c)
  pub rows : is_tree s.run.settings.method ≡ false → SameTo ((s.run.phase - s.run.settings.n) * s.run.settings.c) s.memory.forces t.memory.forces
  -- those that one has written since
  pub finished : o.run.done < s.run.done → SameTo (force_places s.run.settings) s.memory.forces t.memory.forces
  pub kept-positions : Kept o.memory.positions o'.memory.positions s.memory.positions t.memory.positions
  pub kept-increments : Kept o.memory.increments o'.memory.increments s.memory.increments t.memory.increments
  pub kept-gains : Kept o.memory.gains o'.memory.gains s.memory.gains t.memory.gains
  pub kept-forces : Kept o.memory.forces o'.memory.forces s.memory.forces t.memory.forces
  pub kept-used : o.run.used ≡ o'.run.used → s.run.used ≡ t.run.used

-- both units come to the same
abbrev pub Both : State → State → Turned → Turned → Type 0
Both o o' x x' = (x.why ≡ x'.why) × Beside o o' x.now x'.now

-- ---- rows

pub none_yet : (i w k : ℕ) → i ≡ 0 → k < i * w → ⊥
none_yet i w k e h = not-suc-le-zero (rw (e, zero-mul w) at h)

-- one row more
row_next : (i j w : ℕ) (F F' : List Float) → j ≡ suc i → SameTo (i * w) F F' → ((e : ℕ) → e < w → at F (i * w + e) ≡ at F' (i * w + e)) → SameTo (j * w) F F'
row_next i j w F F' e old new k l =
    let q : j * w ≡ i * w + w = ap (λ (x : ℕ). x * w) e ∙ suc-mul i w in
    elim (dec_lt k (i * w)) [
      | yes x ↦ old k x
      | no x ↦
          let z : i * w + (k - i * w) ≡ k = omega (arith, x) in
          subst (λ (p : ℕ). at F p ≡ at F' p) z (new (k - i * w) (omega (arith, l, q, x)))
    ]

group-same : (a : Float) (u : ℕ) (r : Run) → group_of (reread a u r) ≡ group_of r
unfolding group_of
group-same a u r = refl

module _ (o o' s : State) (a : Float) (u : ℕ) (m : Memory) (w : Beside o o' s (state (reread a u s.run) m)) (g : Good s)
    (g' : Good (state (reread a u s.run) m)) (live : is_ended s.run.standing ≡ false) where
  abbrev R : Run
  R = s.run

  abbrev R' : Run
  R' = reread a u s.run

  abbrev M : Memory
  M = s.memory

  abbrev t : State
  t = state (reread a u s.run) m

  abbrev n : ℕ
  n = s.run.settings.n

  abbrev c : ℕ
  c = s.run.settings.c

  -- ---- the tree

  tree-moves : is_tree R.settings.method ≡ true → R.phase ≤ n → (v v' : ℕ) (ns ns' : List Node) → Twin (tree v ns) (tree v' ns')
      → Both o o' (with_tree M (tree_turn (advanced_of R v) ns (Ok tt))) (with_tree m (tree_turn (advanced_of R' v') ns' (Ok tt)))
  unfolding advanced_of
  tree-moves x l v v' ns ns' d = (
    refl,
    record {
      same = record {
        record_same = refl;
        angle = w.same.angle;
        positions = w.same.positions;
        increments = w.same.increments;
        gains = w.same.gains;
        lists = w.same.lists;
        matrix = w.same.matrix;
        arena = d.long;
      };
      from = w.from;
      nodes = λ _ _. d.nodes;
      points = λ _ k h. absurd (none_yet (R.phase + 1 - n - 1) (2 * c + 1) k (omega (arith, l)) h);
      total = λ z. absurd (one-method R x z);
      rows = λ z. absurd (one-method R x z);
      finished = w.finished;
      kept-positions = w.kept-positions;
      kept-increments = w.kept-increments;
      kept-gains = w.kept-gains;
      kept-forces = w.kept-forces;
      kept-used = λ _. d.nodes.number;
    },
  )

  box-both : is_tree R.settings.method ≡ true → R.phase ≤ n → Both o o' (with_tree M (box_turn R M.positions M.nodes)) (with_tree m (box_turn R' m.positions m.nodes))
  box-both x l =
      let b = box_of M.positions n c in
      let b' = box_of m.positions n c in
      let q : b ≡ b' = box-same n c M.positions m.positions w.same.positions in
      let k = (g.areas.tree-long x).nodes-some in
      tree-moves x l 1 1 (set M.nodes 0 b) (set m.nodes 0 b') (record {
        nodes = record {
          number = refl;
          each = λ i li. (let z : i ≡ 0 = omega (arith, li) in rw z (get_or-set_same M.nodes 0 b blank k ∙ (q ∙ sym (get_or-set_same m.nodes 0 b' blank (omega (arith, k, w.same.arena))))));
        };
        long = length-set M.nodes 0 b ∙ (w.same.arena ∙ sym (length-set m.nodes 0 b'));
      })

  -- the tree as it is, of a run that is past its box
  fits : is_tree R.settings.method ≡ true → (R.phase ≡ 0 → ⊥) → Fits n c n (tree R.used M.nodes)
  fits x p = let k = (g.contents x).tree p in record { some = k.used-some; within = omega (arith, k.used-most, nameable-most (length M.nodes)); sound = k.each-node }

  inserts : is_tree R.settings.method ≡ true → R.phase ≤ n → (R.phase ≡ 0 → ⊥) →
      ((inserting R M.positions M.nodes).full ≡ (inserting R' m.positions m.nodes).full) ×
      Twin (inserting R M.positions M.nodes).tree (inserting R' m.positions m.nodes).tree
  inserts x l p = insert-same n c M.positions m.positions w.same.positions n (R.phase - 1) (tree R.used M.nodes) (tree u m.nodes)
      (omega (arith, l, p)) (omega (arith, g.settings.n-some)) (fits x p) (record { nodes = w.nodes x (λ z. absurd (p z)); long = w.same.arena })

  tree-both : group_of R ≡ 0 → Both o o' (with_tree M (tree_unit R M.positions M.nodes)) (with_tree m (tree_unit R' m.positions m.nodes))
  tree-both z =
      let k = group-zero R z in
      let T' = tree_unit R' m.positions m.nodes in
      by-tree R M.positions M.nodes (λ (x : TreeTurn). Both o o' (with_tree M x) (with_tree m T'))
      (λ e. by-tree R' m.positions m.nodes (λ (x' : TreeTurn). Both o o' (with_tree M (box_turn R M.positions M.nodes)) (with_tree m x'))
      (λ _. box-both k.0 k.1)
      (λ p. absurd (p e))
      (λ p. absurd (p e)))
      (λ p f. by-tree R' m.positions m.nodes (λ (x' : TreeTurn). Both o o' (with_tree M (tree_turn R M.nodes (Err Full))) (with_tree m x'))
      (λ e. absurd (p e))
      (λ _ _. (refl, w))
      (λ _ f'. absurd (true≢false (sym f ∙ ((inserts k.0 k.1 p).0 ∙ f')))))
      (λ p f. by-tree R' m.positions m.nodes (λ (x' : TreeTurn). Both o o'
      (with_tree M (tree_turn (advanced_of R (inserting R M.positions M.nodes).tree.used) (inserting R M.positions M.nodes).tree.nodes (Ok tt)))
      (with_tree m x'))
      (λ e. absurd (p e))
      (λ _ f'. absurd (true≢false (sym f' ∙ (sym (inserts k.0 k.1 p).0 ∙ f))))
      (λ _ _. tree-moves k.0 k.1 (inserting R M.positions M.nodes).tree.used (inserting R' m.positions m.nodes).tree.used
      (inserting R M.positions M.nodes).tree.nodes (inserting R' m.positions m.nodes).tree.nodes (inserts k.0 k.1 p).1))

  -- ---- the forces

  force-moves : group_of R ≡ 1 → (F F' : List Float) → Forced R M.forces m.forces F F' → (length M.forces ≡ length m.forces → length F ≡ length F') →
      Both o o' (with_forces M (advanced_of R R.used) F) (with_forces m (advanced_of R' u) F')
  unfolding advanced_of
  force-moves z F F' d long =
      let k = group-one R z in (
        refl,
        record {
          same = record {
            record_same = refl;
            angle = w.same.angle;
            positions = w.same.positions;
            increments = w.same.increments;
            gains = w.same.gains;
            lists = w.same.lists;
            matrix = w.same.matrix;
            arena = w.same.arena;
          };
          from = w.from;
          nodes = λ x _. w.nodes x (λ q. absurd (omega (arith, q, k.tree x)));
          points = λ x. row_next (R.phase - n - 1) (R.phase + 1 - n - 1) (2 * c + 1) F F' (omega (arith, k.tree x)) (λ p l. d.kept p (w.points x p l)) (d.tree x);
          total = λ x _. elim (dec_lt R.phase n) [
            | yes l ↦ d.total x l
            | no l ↦ d.kept (n * c) (w.total x (omega (arith, l, g.settings.n-some)))
          ];
          rows = λ x. elim (dec_lt R.phase n) [
            | yes l ↦ λ p h. absurd (none_yet (R.phase + 1 - n) c p (omega (arith, l)) h)
            | no l ↦ row_next (R.phase - n) (R.phase + 1 - n) c F F' (omega (arith, l)) (λ p h. d.kept p (w.rows x p h)) (d.row x (omega (arith, l)))
          ];
          finished = λ q p l. d.kept p (w.finished q p l);
          kept-positions = w.kept-positions;
          kept-increments = w.kept-increments;
          kept-gains = w.kept-gains;
          kept-forces = kept_on w.kept-forces (record { each = d.kept; long = long });
          kept-used = w.kept-used;
        },
      )

  forced : group_of R ≡ 1 → Forced R M.forces m.forces (force_unit R M.positions M.affinities M.indices M.offsets M.nodes M.forces)
      (force_unit R' m.positions m.affinities m.indices m.offsets m.nodes m.forces)
  forced z =
      let k = group-one R z in
      let U = force_unit R M.positions M.affinities M.indices M.offsets M.nodes M.forces in
      let U' = force_unit R' m.positions m.affinities m.indices m.offsets m.nodes m.forces in
      by_bool (Forced R M.forces m.forces U U') (is_tree R.settings.method)
      (λ x.
      let b = k.tree x in
      let p : R.phase ≡ 0 → ⊥ = λ q. omega (arith, q, b) in
      let i = R.phase - n - 1 in
      let cs = g.contents x in
      tree-forced R a u M.positions m.positions M.affinities m.affinities M.indices m.indices M.offsets m.offsets M.nodes m.nodes
      M.forces m.forces w.same.positions x (w.same.angle x) (w.same.lists x)
      (record { nodes = w.nodes x (λ q. absurd (p q)); long = w.same.arena })
      n (fits x p) b.0 b.1 (linked-at R M.indices M.offsets M.nodes cs M.affinities (g.areas.tree-long x) i (omega (arith, b)))
      (offset-listed R M.indices M.offsets M.nodes cs (n - (i + 1)) (i + 1) (omega (arith, b))) g.areas.forces-long g'.areas.forces-long)
      (λ x.
      let f = cells-forces n c in
      exact-forced R a u M.positions m.positions M.affinities m.affinities M.indices m.indices M.offsets m.offsets M.nodes m.nodes
      M.forces m.forces w.same.positions x (w.same.matrix x) (k.exact x) g.settings.n-some (w.total x)
      (omega (arith, f, g.areas.forces-long, g.settings.n-some)) (omega (arith, f, g'.areas.forces-long, g.settings.n-some)))

  -- ---- the finish

  last-phase : (group_of R ≡ 0 → ⊥) → (group_of R ≡ 1 → ⊥) → (is_tree R.settings.method ≡ true → R.phase ≡ 2 * n + 1) × (is_tree R.settings.method ≡ false → R.phase ≡ 2 * n)
  unfolding per_of
  last-phase x y =
      let q = group-two R x y g.counters.phase-below in
      ((λ b. let e : R.phase + 1 ≡ 2 * n + 2 = rw b at q in omega (arith, e)), (λ b. let e : R.phase + 1 ≡ 2 * n + 1 = rw b at q in omega (arith, e)))

  all-points : is_tree R.settings.method ≡ true → R.phase ≡ 2 * n + 1 → SameTo (n * (2 * c + 1)) M.forces m.forces
  all-points x e = let q : R.phase - n - 1 ≡ n = omega (arith, e) in rw q at (w.points x)

  all-rows : is_tree R.settings.method ≡ false → R.phase ≡ 2 * n → SameTo (n * c) M.forces m.forces
  all-rows x e = let q : R.phase - n ≡ n = omega (arith, e) in rw q at (w.rows x)

  all-forces : (group_of R ≡ 0 → ⊥) → (group_of R ≡ 1 → ⊥) → SameTo (force_places R.settings) M.forces m.forces
  all-forces x y =
      let l = last-phase x y in
      by_bool (SameTo (force_places R.settings) M.forces m.forces) (is_tree R.settings.method)
      (λ b. rw b (all-points b (l.0 b)))
      (λ b. rw b (λ k h. elim (ℕ_discrete k (n * c)) [
        | yes e ↦ rw e (w.total b (omega (arith, l.1 b, g.settings.n-some)))
        | no e ↦ all-rows b (l.1 b) k (omega (arith, h, e))
      ]))

  finish-moves : (group_of R ≡ 0 → ⊥) → (group_of R ≡ 1 → ⊥) → (norm : Float) (Y Y' I I' G G' : List Float) → Moves (n * c) M.positions m.positions Y Y' →
      Moves (n * c) M.increments m.increments I I' → Moves (n * c) M.gains m.gains G G'
      → Both o o' (with_finish M (finish_turn (closed_of R norm) Y I G (Ok tt))) (with_finish m (finish_turn (closed_of R' norm) Y' I' G' (Ok tt)))
  unfolding closed_of stops_now
  finish-moves x y norm Y Y' I I' G G' sy si sg =
      let l = last-phase x y in (
        refl,
        record {
          same = record {
            record_same = refl;
            angle = w.same.angle;
            positions = sy.here;
            increments = si.here;
            gains = sg.here;
            lists = w.same.lists;
            matrix = w.same.matrix;
            arena = w.same.arena;
          };
          from = omega (arith, w.from);
          nodes = λ b _. w.nodes b (λ q. absurd (omega (arith, q, l.0 b)));
          points = λ b k h. absurd (none_yet (0 - n - 1) (2 * c + 1) k (omega arith) h);
          total = λ b h. absurd (not-suc-le-zero h);
          rows = λ b k h. absurd (none_yet (0 - n) c k (omega arith) h);
          finished = λ _. all-forces x y;
          kept-positions = kept_on w.kept-positions sy.kept;
          kept-increments = kept_on w.kept-increments si.kept;
          kept-gains = kept_on w.kept-gains sg.kept;
          kept-forces = w.kept-forces;
          kept-used = w.kept-used;
        },
      )

  finish-both : (group_of R ≡ 0 → ⊥) → (group_of R ≡ 1 → ⊥) → Both o o' (with_finish M (finish_unit R M.positions M.increments M.gains M.forces))
      (with_finish m (finish_unit R' m.positions m.increments m.gains m.forces))
  finish-both x y =
      let l = last-phase x y in
      by_both R a u M.positions m.positions M.increments m.increments M.gains m.gains M.forces m.forces g.settings.c-some
      w.same.positions w.same.increments w.same.gains (λ b. all-points b (l.0 b)) (λ b. all-rows b (l.1 b))
      g.areas.positions-long g'.areas.positions-long g.areas.increments-long g'.areas.increments-long g.areas.gains-long g'.areas.gains-long
      (λ (f f' : FinishTurn). Both o o' (with_finish M f) (with_finish m f'))
      (finish-moves x y)
      (refl, w)

  -- ---- a unit

  same_length : length M.forces ≡ length m.forces →
      length (force_unit R M.positions M.affinities M.indices M.offsets M.nodes M.forces) ≡ length
      (force_unit R' m.positions m.affinities m.indices m.offsets m.nodes m.forces)
  same_length e = length-forces R M.positions M.affinities M.indices M.offsets M.nodes M.forces ∙
      (e ∙ sym (length-forces R' m.positions m.affinities m.indices m.offsets m.nodes m.forces))

  unit-here : Both o o' (unit s) (unit t)
  unit-here =
      let q = group-same a u R in
      by-unit s live (λ (x : Turned). Both o o' x (unit t))
      (λ z. subst (λ (x' : Turned). Both o o' (with_tree M (tree_unit R M.positions M.nodes)) x') (sym (unit-tree t live (q ∙ z))) (tree-both z))
      (λ z. subst (λ (x' : Turned). Both o o'
      (with_forces M (advanced_of R R.used) (force_unit R M.positions M.affinities M.indices M.offsets M.nodes M.forces)) x')
      (sym (unit-force t live (q ∙ z)))
      (force-moves z (force_unit R M.positions M.affinities M.indices M.offsets M.nodes M.forces)
      (force_unit R' m.positions m.affinities m.indices m.offsets m.nodes m.forces) (forced z) same_length))
      (λ x y. subst (λ (x' : Turned). Both o o' (with_finish M (finish_unit R M.positions M.increments M.gains M.forces)) x')
      (sym (unit-finish t live (λ e. x (sym q ∙ e)) (λ e. y (sym q ∙ e)))) (finish-both x y))

-- of a run that has not ended
pub unit-both : (o o' s t : State) → Beside o o' s t → Good s → Good t → is_ended s.run.standing ≡ false → Both o o' (unit s) (unit t)
unit-both o o' s t w g g' live =
    let a = t.run.settings.angle in
    let u = t.run.used in
    let e : t ≡ state (reread a u s.run) t.memory = ap (λ (r : Run). state r t.memory) w.same.record_same in
    subst (λ (x : State). Both o o' (unit s) (unit x)) (sym e) (unit-here o o' s a u t.memory (subst (Beside o o' s) e w) g (subst Good e g') live)
