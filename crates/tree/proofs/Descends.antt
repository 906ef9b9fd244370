-- What the proofs of the root, of a level and of the dry descent cite, over the nodes. Assumes nothing.
use mathlib.Core.Path.{◌≡◌, refl, sym, ap, subst, ◌∙◌}
use mathlib.Core.List.{List}
use mathlib.Core.Bool.{true, false, cond, true≢false}
use Prim.Native.Nat.{ℕ, suc, ◌+◌, ◌-◌, ◌*◌, ◌<◌, ◌≤◌, ◌^◌}
use native.Mathlib.Omega.{arith}
use lib.ListN.{length, set, length-set}
use lib.Ieee.{Float}
use lib.Pow.{pow_mono}
use borrow.Author.Tests.{eq-eqb, ne_eqb}
use native.Mathlib.Decide.{ℕ_discrete}
use Rattle.laws.specs.Domain.{deepest, most_word}
use Rattle.laws.proofs.Numbers.{row_in}
use Rattle.tree_node.specs.declared.Node.{Node}
use Rattle.tree_node.specs.declared.Cell.{Cell}
use Rattle.tree_node.specs.Node.{Axes, point_of}
use Rattle.tree_node.specs.Arena.{leaf_word, nodes_of, node_at}
use Rattle.tree_node.proofs.Told.{nodes-length}
use Rattle.tree_children.specs.Children.{child_index}
use Rattle.tree_bounds.specs.Bounds.{box_of}
use Rattle.tree_turns.specs.declared.Out.{Out}
use Rattle.tree_turns.specs.Turns.{child_of}
use Rattle.tree_turns.proofs.Words.{child-word}
use Rattle.tree.specs.declared.Probe.{Probe}
use Rattle.tree.specs.declared.Way.{Way}
use Rattle.tree.specs.declared.Split.{Split}
use Rattle.tree.specs.Insert.{tree, subdivided, level_at, leaf_needs, growable}
use Rattle.tree.specs.Ways.{ample, dry_needs, probing_of, LeafIn, probed_of, way_turn, met_of, MetAsks, LevelAsks}
use Rattle.tree.proofs.Inserting.{Dry, dry-start, dry-next, dry-leaf, tree-point, next-in}

-- ---- the root

module _ (cs : List Cell) (y : List Float) (n c : ℕ) (v : Node) (ev : v ≡ box_of y n c) where
  pub root-asks : 0 < length cs → (0 < length cs) × (leaf_word v.leaf ≤ most_word)
  unfolding box_of
  root-asks h = (h, rw ev (omega arith))

  pub root_told : (ds : List Cell) → nodes_of ds ≡ set (nodes_of cs) 0 v → nodes_of ds ≡ set (nodes_of cs) 0 (box_of y n c)
  root_told ds e = e ∙ ap (λ (x : Node). set (nodes_of cs) 0 x) ev

-- ---- the children of a split node

-- a made child's leaf has a word
pub child-asks : (s : Split) (b : ℕ) (x : Node) → x ≡ child_of s.c s.out.node s.out.old s.q b → s.out.old < most_word → leaf_word x.leaf ≤ most_word
child-asks s b x ex h = rw ex (omega (arith, child-word s.c s.out.node s.out.old s.q b h))

-- ---- a level

module _ (w : Way) (y : List Float) (cs : List Cell) (k : LevelAsks w (length y) (nodes_of cs)) (v : Node) (ev : v ≡ node_at (nodes_of cs) w.node) where
  pub level_in : w.node < length cs
  level_in = omega (arith, k.node_in, nodes-length cs)

  pub level-met : MetAsks (length y) w v
  level-met = subst (MetAsks (length y) w) (sym ev) k.meets

  module _ (s : Split) (es : s ≡ met_of y w v) where
    abbrev met-is : s ≡ met_of y w (node_at (nodes_of cs) w.node)
    met-is = es ∙ ap (met_of y w) ev

    out-is : s.out ≡ way_turn w (node_at (nodes_of cs) w.node)
    unfolding met_of
    out-is = ap (λ (x : Split). x.out) met-is

    pub level-stores : (w.node < length cs) × (leaf_word s.out.node.leaf ≤ most_word)
    level-stores = (level_in, rw out-is k.leaf-named)

    pub level-splits : (ds : List Cell) → nodes_of ds ≡ set (nodes_of cs) w.node s.out.node → (Axes s.c) × (s.out.old < most_word) ×
        (s.out.node.first + s.out.fresh ≤ length ds)
    unfolding met_of
    level-splits ds ed =
        let l : length ds ≡ length (nodes_of cs) = sym (nodes-length ds) ∙ ap (λ (ns : List Node). length ns) ed ∙ length-set (nodes_of cs) w.node s.out.node in
        (subst Axes (sym (ap (λ (z : Split). z.c) met-is)) k.meets.axes, rw out-is k.old-named, rw (out-is, l) k.room)

    pub level-steps : (m : ℕ) → length cs ≡ m → m * 88 < 2 ^ 63 → w.used + s.out.fresh < 2 ^ 64
    level-steps m e h = rw out-is (omega (arith, k.room, k.meets.used-named, nodes-length cs, e, h))

    pub level-told : (ds : List Cell) → nodes_of ds ≡ set (nodes_of cs) w.node s.out.node
        → (es : List Cell) → nodes_of es ≡ subdivided s.c s.out.node s.out.old s.q s.out.fresh (nodes_of ds)
        → (tree (w.used + s.out.fresh) (nodes_of es) ≡ level_at y w.c w.p w.j w.depth w.node (tree w.used (nodes_of cs))) ×
        (s.out.next ≡ (way_turn w (node_at (nodes_of cs) w.node)).next) × (s.out.last ≡ (way_turn w (node_at (nodes_of cs) w.node)).last)
    unfolding met_of
    level-told ds ed es' ee = (rw (ee, ed, met-is), ap (λ (o : Out). o.next) out-is, ap (λ (o : Out). o.last) out-is)

-- ---- the dry descent

pub record Probes (y : List Float) (used j c : ℕ) (ns : List Node) (s : Probe) : Type 0 where
  pub p-same : s.p ≡ point_of y c j
  pub c-same : s.c ≡ c
  pub on : s.ended ≡ false → (s.node < used) × Dry y c (point_of y c j) ns s.depth s.node × (ample (length ns) used c ≡ false)
  pub off : s.ended ≡ true → s.more ≡ dry_needs y c j (tree used ns)

-- nodes that may yet be met
abbrev pub probes_left : ℕ → Probe → ℕ
probes_left used s = cond s.ended 0 (suc (used - s.node))

module _ (y : List Float) (used j c : ℕ) (cs : List Cell) (m : ℕ) (em : length cs ≡ m) where
  pub probing-asks : Axes c → m * 88 < 2 ^ 63 → used ≤ length cs → used + deepest * 2 ^ c < 2 ^ 64
  probing-asks a h l = omega (arith, pow_mono {i = c} {j = 3} a.1, em, h, l)

  pub probes-start : 0 < used → (s : Probe) → s ≡ probing_of y m used j c → Probes y used j c (nodes_of cs) s
  probes-start h s es = subst (Probes y used j c (nodes_of cs)) (sym (es ∙ ap (λ (x : ℕ). probing_of y x used j c) (sym em ∙ sym (nodes-length cs))))
      (record { p-same = refl; c-same = refl; on = λ e. (h, dry-start y c (point_of y c j) (nodes_of cs), e); off = λ e. rw e })

module _ (y : List Float) (n used j c : ℕ) (cs : List Cell) (inside : used ≤ length cs) (rows : n * c ≤ length y) (ok : growable n c (tree used (nodes_of cs)) ≡ true)
    (s : Probe) (k : Probes y used j c (nodes_of cs) s) where
  abbrev ns : List Node
  ns = nodes_of cs

  abbrev p : List Float
  p = point_of y c j

  module _ (going : s.ended ≡ false) where
    abbrev here : s.node < used
    here = (k.on going).0

    pub probes-in : s.node < length cs
    probes-in = omega (arith, here, inside)

    in_list : s.node < length ns
    in_list = omega (arith, probes-in, nodes-length cs)

    module _ (v : Node) (ev : v ≡ node_at ns s.node) where
      pub probes-asks : Axes c → (m : ℕ) → length cs ≡ m → m < 2 ^ 64 → (Axes s.c) × (s.depth + 1 < 2 ^ 64) × LeafIn (length y) s.c v.leaf
      probes-asks a m e h = (
        subst Axes (sym k.c-same) a,
        omega (arith, (k.on going).1.deep, probes-in, e, h),
        λ o eo. subst (λ (x : ℕ). o * x + x ≤ length y) (sym k.c-same)
            (row_in o n c (length y) (tree-point n c (most_word - 1) (tree used ns) ok s.node o here (sym (ap (λ (x : Node). x.leaf) ev) ∙ eo)) rows),
      )

      leaf-told : (node_at ns s.node).first ≡ 0 →
          probed_of y s v ≡ record {
            p = s.p;
            c = s.c;
            depth = s.depth;
            node = s.node;
            ended = true;
            more = leaf_needs y c p s.depth (node_at ns s.node)
                (node_at ns s.node).leaf;
          }
      unfolding probed_of
      leaf-told z = rw (ev, eq-eqb _ _ z, k.p-same, k.c-same)

      inner-told : ((node_at ns s.node).first ≡ 0 → ⊥) →
          probed_of y s v ≡ record {
            p = s.p;
            c = s.c;
            depth = s.depth + 1;
            node = (node_at ns s.node).first + child_index c
                (node_at ns s.node).centre p;
            ended = false;
            more = 0;
          }
      unfolding probed_of
      inner-told z = rw (ev, ne_eqb _ _ z, k.p-same, k.c-same)

      pub probes-next : (u : Probe) → u ≡ probed_of y s v → Probes y used j c ns u × (probes_left used u < probes_left used s)
      probes-next u eu = subst (λ (x : Probe). Probes y used j c ns x × (probes_left used x < probes_left used s)) (sym eu)
          (elim (ℕ_discrete (node_at ns s.node).first 0) [
            | yes z ↦ rw (leaf-told z) (
              record { p-same = k.p-same; c-same = k.c-same; on = λ e. absurd (true≢false e); off = λ _. rw (k.on going).2 (dry-leaf (k.on going).1 in_list (node_at ns s.node).leaf z refl) },
              rw going (omega arith),
            )
            | no z ↦
                let h = next-in n c (most_word - 1) (tree used ns) p ok s.node here z in
                rw (inner-told z) (
                  record { p-same = k.p-same; c-same = k.c-same; on = λ _. (h.1, dry-next (k.on going).1 in_list z h.0, (k.on going).2); off = λ e. absurd (true≢false (sym e)) },
                  rw going (omega (arith, h, here)),
                )
          ])

  pub probes-end : s.ended ≡ true → s.more ≡ dry_needs y c j (tree used ns)
  probes-end = k.off
