-- What the tree is worth (tree_worth, Theorems) of every honest state between box and finish, and so after any calls from there. Assumes nothing.
--     honest-worth        of an honest state
--     works-worth         after any calls on an honest state
--     begun-worth         after any calls from preparation on: the insertions are taken from the units that the answers told
--     flat-forces         with an angle of zero the forces unit of a point stores the sum over those leaves
use mathlib.Core.Path.{◌≡◌, refl, sym, ap, subst, ◌∙◌}
use mathlib.Core.List.{List, [], ◌∷◌}
use mathlib.Core.Bool.{true}
use Prim.Native.Nat.{ℕ, ◌+◌, ◌-◌, ◌*◌, ◌%◌, ◌<◌, min}
use native.Mathlib.Omega.{arith}
use native.Mathlib.Nat.{mod-eq_of_lt, mul-add-mod_self_right, min-le_right, zero-add}
use lib.Dec.{eqb}
use lib.ListN.{length}
use lib.Ieee.{Float}
use Rattle.laws.proofs.Bools.{by_bool}
use Rattle.tree_node.specs.declared.Cell.{Cell}
use Rattle.tree_node.specs.Node.{point_of}
use Rattle.tree_walk.specs.Repel.{nothing}
use Rattle.gradient.specs.Forces.{attraction_of, stored, forces_of}
use Rattle.run_record.specs.declared.Settings.{Settings}
use Rattle.run_record.specs.declared.Run.{Run}
use Rattle.run_record.specs.Record.{is_tree, per_of, fresh_run}
use Rattle.run_entry.specs.State.{State}
use Rattle.run_entry.specs.Entry.{Good}
use Rattle.descent.specs.Descent.{work, works, told_all}
use Rattle.descent.specs.Honest.{points_in, Honest}
use Rattle.descent.proofs.Theorems.{call-keeps, stays-honest, after-each}
use Rattle.descent.proofs.Framed.{work-frames}
use Rattle.std.specs.Prelude.{Result, Ok, Err}
use Rattle.prepare.specs.Prepare.{Lent, lengths_of, prepare_fault, prepared}
use Rattle.prepare.proofs.Begins.{begun_state, preparation-honest}
use Rattle.tree_worth.specs.Worth.{leaves_add, leaves_in, NoAngle}
use Rattle.tree_worth.proofs.Theorems.{tree-worth}
use Rattle.worth.specs.Insertions.{insertions_in, Midway, tree_in, TreeWorth}

-- the phase is what the total leaves
module _ (s : State) (g : Good s) (tree : is_tree s.run.settings.method ≡ true) where
  abbrev n : ℕ
  n = s.run.settings.n

  per-is : per_of s.run.settings.method n ≡ 2 * n + 2
  unfolding per_of
  per-is = rw tree

  pub phase-left : s.run.units % (2 * n + 2) ≡ s.run.phase
  phase-left =
      let k = g.counters in
      let e : s.run.units ≡ s.run.done * (2 * n + 2) + s.run.phase = rw per-is at k.total in
      let l : s.run.phase < 2 * n + 2 = rw per-is at k.phase-below in
      rw e (mul-add-mod_self_right s.run.done (2 * n + 2) s.run.phase ∙ mod-eq_of_lt l)

-- ---- an honest state between box and finish

module _ (s : State) (h : Honest s) (tree : is_tree s.run.settings.method ≡ true) (inside : Midway s.run.settings.n s.run.units) where
  abbrev left : s.run.units % (2 * s.run.settings.n + 2) ≡ s.run.phase
  left = phase-left s h.good tree

  points-are : points_in s.run ≡ insertions_in s.run.settings.n s.run.units
  points-are = ap (λ (x : ℕ). min (x - 1) s.run.settings.n) (sym left)

  pub honest-worth : TreeWorth s.run.settings.c (insertions_in s.run.settings.n s.run.units) s
  honest-worth =
      let b = h.grown tree (λ z. inside (left ∙ z)) in
      let y = s.memory.positions in
      subst (λ (i : ℕ). TreeWorth s.run.settings.c i s) points-are
      (tree-worth y s.run.settings.n s.run.settings.c (points_in s.run) b.before b.some (min-le_right (s.run.phase - 1) s.run.settings.n) (tree_in s) b.same)

  -- the forces unit of point q, whatever the lists and the forces area hold
  pub flat-forces : NoAngle s.run.settings.angle → (x : Float) (q : ℕ) (W : List Float) (I O : List ℕ) (F : List Float)
      → forces_of x s.run.settings.angle s.run.settings.c s.memory.positions W I O s.run.used s.memory.nodes q F
      ≡ stored s.run.settings.c q (attraction_of x s.run.settings.c s.memory.positions W I O q)
      (leaves_add s.run.settings.c q (point_of s.memory.positions s.run.settings.c q) s.memory.nodes
      (leaves_in s.run.settings.c (tree_in s)) nothing) F
  unfolding forces_of
  flat-forces a x q W I O F =
      let c = s.run.settings.c in
      let y = s.memory.positions in
      ap (λ r. stored c q (attraction_of x c y W I O q) r F) (honest-worth.flat q (point_of y c q) s.run.settings.angle a)

-- ---- after any calls

-- the settings stay
pub works-settings : (bs : List ℕ) (s : State) → Honest s → (works bs s).run.settings ≡ s.run.settings
unfolding works
works-settings [] s h = refl
works-settings (b ∷ bs) s h = works-settings bs (work b s).left (call-keeps b s h) ∙ (work-frames b s h).1

-- the insertions are taken from the units that the record had and the answers told since
module _ (s : State) (h : Honest s) (tree : is_tree s.run.settings.method ≡ true) (bs : List ℕ) where
  abbrev done : ℕ
  done = s.run.units + told_all bs s

  pub works-worth : Midway s.run.settings.n done → TreeWorth s.run.settings.c (insertions_in s.run.settings.n done) (works bs s)
  works-worth inside =
      let t = works bs s in
      let e = works-settings bs s h in
      let u : t.run.units ≡ done = (after-each bs s).total in
      let w : TreeWorth t.run.settings.c (insertions_in t.run.settings.n t.run.units) t = honest-worth t (stays-honest bs s h)
      (ap (λ (x : Settings). is_tree x.method) e ∙ tree) (λ z. inside
      (ap (λ (x : Settings). done % (2 * x.n + 2)) (sym e) ∙ ap (λ (x : ℕ). x % (2 * t.run.settings.n + 2)) (sym u) ∙ z)) in
      subst (λ (x : Settings). TreeWorth x.c (insertions_in x.n done) t) e (subst (λ (x : ℕ). TreeWorth t.run.settings.c (insertions_in t.run.settings.n x) t) u w)

-- ---- from preparation on: the answers tell all units

module _ (s : Settings) (table start : List Float) (cs : List Cell) (l : Lent) (run : Run) (ready : (prepared s table start (length cs) l).answer ≡ Ok run) where
  abbrev begun : State
  begun = begun_state s table start cs l run ready

  fresh-is : run ≡ fresh_run s
  unfolding prepared
  fresh-is =
      let fault = prepare_fault s table start (lengths_of l (length cs)) in
      by_bool (run ≡ fresh_run s) (eqb fault 0)
      (λ e. let q : ◌≡◌ {A = Result Run ℕ} (Ok (fresh_run s)) (Ok run) = rw e at ready in cc)
      (λ e. absurd (let q : ◌≡◌ {A = Result Run ℕ} (Err fault) (Ok run) = rw e at ready in let z : ◌≡◌ {A = ℕ} 0 1 = cc in omega arith))

  fresh-settings : run.settings ≡ s
  unfolding fresh_run
  fresh-settings = ap (λ (x : Run). x.settings) fresh-is

  fresh-units : run.units ≡ 0
  unfolding fresh_run
  fresh-units = ap (λ (x : Run). x.units) fresh-is

  pub begun-worth : (bs : List ℕ) → is_tree s.method ≡ true → Midway s.n (told_all bs begun) → TreeWorth s.c (insertions_in s.n (told_all bs begun)) (works bs begun)
  begun-worth bs tree =
      let told = told_all bs begun in
      let t = works bs begun in
      let u : begun.run.units + told ≡ told = ap (λ (x : ℕ). x + told) fresh-units ∙ zero-add told in
      let w : Midway run.settings.n (begun.run.units + told) →
      TreeWorth run.settings.c (insertions_in run.settings.n (begun.run.units + told)) t = works-worth begun
      (preparation-honest s table start cs l run ready) (ap (λ (x : Settings). is_tree x.method) fresh-settings ∙ tree) bs in
      subst (λ (x : Settings). Midway x.n told → TreeWorth x.c (insertions_in x.n told) t) fresh-settings
      (subst (λ (x : ℕ). Midway run.settings.n x → TreeWorth run.settings.c (insertions_in run.settings.n x) t) u w)
