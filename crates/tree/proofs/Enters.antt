-- What the proof of an insertion cites: what its loop holds on to, over the nodes. Assumes nothing.
use mathlib.Core.Path.{◌≡◌, refl, sym, ap, subst, ◌∙◌}
use mathlib.Core.List.{List}
use mathlib.Core.Bool.{true, false, cond, true≢false}
use Prim.Native.Nat.{ℕ, suc, ◌+◌, ◌-◌, ◌*◌, ◌<◌, ◌≤◌, ◌^◌}
use native.Mathlib.Omega.{arith}
use lib.Dec.{ltb}
use lib.ListN.{length}
use lib.Ieee.{Float}
use borrow.Author.Tests.{ltb-true, ltb-false, le-ltb, leb-true}
use Rattle.laws.specs.Domain.{deepest, most_word}
use Rattle.laws.proofs.Bools.{by_bool}
use Rattle.tree_node.specs.declared.Node.{Node}
use Rattle.tree_node.specs.declared.Cell.{Cell}
use Rattle.tree_node.specs.Node.{Axes, point_of}
use Rattle.tree_node.specs.Arena.{nodes_of, node_at, nameable}
use Rattle.tree_node.proofs.Told.{nodes-length, nameable-most, nameable-word}
use Rattle.tree_turns.specs.declared.Out.{Out}
use Rattle.tree.specs.declared.Way.{Way}
use Rattle.tree.specs.declared.Step.{Step}
use Rattle.tree.specs.Insert.{Tree, tree, turn_at, level_at, insertion, insert_of, growable}
use Rattle.tree.specs.Ways.{ample, dry_needs, way_turn, LevelAsks, entering_of, sunk_of}
use Rattle.tree.proofs.Descends.{probing-asks}
use Rattle.tree.proofs.Inserting.{Sinks, sinks-start, sinks_on, sinks_in, sinks-asks, sinks-few, sinks-up}
use Rattle.tree.proofs.Whole.{needed, needed-few, refused, taken}

module _ (y : List Float) (n used j c : ℕ) (ns₀ : List Node) where
  abbrev whole : ℕ
  whole = used + needed y c j (tree used ns₀)

  -- what the loop holds on to: until it ends, the levels so far have led to this node; then, what insertion is
  pub record Entered (w : Way) (ns : List Node) : Type 0 where
    pub p-same : w.p ≡ point_of y c j
    pub c-same : w.c ≡ c
    pub j-same : w.j ≡ j
    pub on : w.ended ≡ false → (w.full ≡ false) × (whole ≤ nameable (length ns₀)) ×
        Sinks n c (most_word - 1) (length ns₀) whole y (point_of y c j) j (tree used ns₀) w.depth w.node (tree w.used ns)
    pub off : w.ended ≡ true → insertion w.full (tree w.used ns) ≡ insert_of y c j (tree used ns₀)

  abbrev pub levels_left : Way → ℕ
  levels_left w = cond w.ended 0 (suc (length ns₀ - w.depth))

module _ (y : List Float) (n used j c : ℕ) (cs₀ : List Cell) where
  abbrev ns₀ : List Node
  ns₀ = nodes_of cs₀

  abbrev need : ℕ
  need = needed y c j (tree used ns₀)

  dry-few : dry_needs y c j (tree used ns₀) ≤ deepest * 2 ^ c
  dry-few = by_bool (dry_needs y c j (tree used ns₀) ≤ deepest * 2 ^ c) (ample (length ns₀) used c) (λ f. rw f (omega arith)) (λ f. rw f (needed-few y c j (tree used ns₀)))

  pub needs-asks : (more : ℕ) → more ≡ dry_needs y c j (tree used ns₀) → Axes c → (m : ℕ) → length cs₀ ≡ m → m * 88 < 2 ^ 63 → used ≤ length cs₀ → used + more < 2 ^ 64
  needs-asks more e a m em h l = omega (arith, e, dry-few, probing-asks y used j c cs₀ m em a h l)

  -- in an ample arena the point goes in, counted or not
  uncounted : entering_of y (length ns₀) used (dry_needs y c j (tree used ns₀)) j c ≡ entering_of y (length ns₀) used need j c
  uncounted = by_bool (entering_of y (length ns₀) used (dry_needs y c j (tree used ns₀)) j c ≡ entering_of y (length ns₀) used need j c) (ample (length ns₀) used c)
      (λ f.
      let room = leb-true (used + deepest * 2 ^ c) (nameable (length ns₀)) f in
      rw (f, le-ltb (nameable (length ns₀)) (used + 0) (omega (arith, room)), le-ltb (nameable (length ns₀)) (used + need) (omega (arith, room, needed-few y c j (tree used ns₀)))))
      (λ f. rw f)

  module _ (ok : growable n c (tree used ns₀) ≡ true) (some : 0 < used) (inside : used ≤ length cs₀) where
    enters-first : Entered y n used j c ns₀ (entering_of y (length ns₀) used need j c) ns₀
    enters-first = by_bool (Entered y n used j c ns₀ (entering_of y (length ns₀) used need j c) ns₀) (ltb (nameable (length ns₀)) (used + need))
        (λ f. record {
          p-same = refl;
          c-same = refl;
          j-same = refl;
          on = λ e. absurd (true≢false (sym f ∙ e));
          off = λ _. rw f (sym (refused y c j (tree used ns₀) (ltb-true (nameable (length ns₀)) (used + need) f)));
        })
        (λ f. record {
          p-same = refl;
          c-same = refl;
          j-same = refl;
          on = λ _. (
            f,
            ltb-false (nameable (length ns₀)) (used + need) f,
            sinks-start n c (most_word - 1) y (point_of y c j) j (tree used ns₀) need refl ok some (omega (arith, inside, nodes-length cs₀)),
          );
          off = λ e. absurd (true≢false (sym e ∙ f));
        })

  pub enters-start : (more : ℕ) → more ≡ dry_needs y c j (tree used ns₀) → growable n c (tree used ns₀) ≡ true → 0 < used → used ≤ length cs₀
      → (m : ℕ) → length cs₀ ≡ m → (w : Way) → w ≡ entering_of y m used more j c → Entered y n used j c ns₀ w ns₀
  enters-start more em ok some inside m e w ew =
      subst (λ (x : Way). Entered y n used j c ns₀ x ns₀)
      (sym (ew ∙ ap (λ (x : ℕ). entering_of y x used more j c) (sym e ∙ sym (nodes-length cs₀)) ∙ ap (λ (x : ℕ). entering_of y (length ns₀) used x j c) em ∙ uncounted))
      (enters-first ok some inside)

  module _ (w : Way) (cs : List Cell) (k : Entered y n used j c ns₀ w (nodes_of cs)) where
    abbrev p : List Float
    p = point_of y c j

    abbrev t : Tree
    t = tree w.used (nodes_of cs)

    module _ (going : w.ended ≡ false) (hj : j < n) where
      abbrev named : whole y n used j c ns₀ ≤ nameable (length ns₀)
      named = (k.on going).1

      fit : whole y n used j c ns₀ ≤ length ns₀
      fit = omega (arith, named, nameable-most (length ns₀))

      abbrev goes : Sinks n c (most_word - 1) (length ns₀) (whole y n used j c ns₀) y p j (tree used ns₀) w.depth w.node t
      goes = (k.on going).2

      turn-same : way_turn w (node_at (nodes_of cs) w.node) ≡ turn_at c p j w.depth w.node t
      turn-same = rw (k.c-same, k.p-same, k.j-same)

      level-same : level_at y w.c w.p w.j w.depth w.node t ≡ level_at y c p j w.depth w.node t
      level-same = rw (k.c-same, k.p-same, k.j-same)

      pub enters-asks : Axes c → n * c ≤ length y → n ≤ most_word → LevelAsks w (length y) (nodes_of cs)
      enters-asks a rows hn =
          let g = goes in
          let q = sinks-asks g hj (omega arith) fit rows hn in
          let few = sinks-few g hj (omega arith) fit in
          let cap : length (nodes_of cs) ≡ length ns₀ = g.ok.nodes in
          record {
            node_in = omega (arith, g.ok.node, g.ok.room, cap);
            meets = record {
              axes = subst Axes (sym k.c-same) a;
              few = omega (arith, few);
              used-named = omega (arith, g.ok.total, named, nameable-word (length ns₀));
              old-in = subst (λ (x : ℕ). (way_turn w (node_at (nodes_of cs) w.node)).old * x + x ≤ length y) (sym k.c-same) (rw turn-same q.row);
            };
            room = rw (turn-same, cap) q.room;
            leaf-named = rw turn-same (omega (arith, q.word));
            old-named = rw turn-same q.old;
          }

      pub enters-deep : (m : ℕ) → length cs₀ ≡ m → m < 2 ^ 64 → w.depth + 1 < 2 ^ 64
      enters-deep m e h = omega (arith, sinks-up goes hj (omega arith) fit, nodes-length cs₀, e, h)

      module _ (s : Step) (ds : List Cell)
          (es : (tree s.used (nodes_of ds) ≡ level_at y w.c w.p w.j w.depth w.node t) ×
          (s.next ≡ (way_turn w (node_at (nodes_of cs) w.node)).next) × (s.last ≡ (way_turn w (node_at (nodes_of cs) w.node)).last)) (u : Way)
          (eu : u ≡ sunk_of w s) where
        led : tree s.used (nodes_of ds) ≡ level_at y c p j w.depth w.node t
        led = es.0 ∙ level-same

        last-same : s.last ≡ (turn_at c p j w.depth w.node t).last
        last-same = es.2 ∙ ap (λ (o : Out). o.last) turn-same

        pub enters-next : Entered y n used j c ns₀ u (nodes_of ds)
        enters-next = subst (λ (x : Way). Entered y n used j c ns₀ x (nodes_of ds)) (sym eu)
            (record {
              p-same = k.p-same;
              c-same = k.c-same;
              j-same = k.j-same;
              on = λ e. ((k.on going).0, named, sinks_on goes hj (omega arith) fit (tree s.used (nodes_of ds)) s.next s.last led (es.1 ∙ ap (λ (o : Out). o.next) turn-same) last-same e);
              off = λ e. rw (k.on going).0 (ap (insertion false)
                  (sinks_in goes hj (omega arith) fit (tree s.used (nodes_of ds)) s.last led last-same e) ∙ sym (taken y c j (tree used ns₀) named));
            })

        pub enters-nearer : levels_left y n used j c ns₀ u < levels_left y n used j c ns₀ w
        enters-nearer = rw (eu, going) (by_bool (cond s.last 0 (suc (length ns₀ - (w.depth + 1))) < suc (length ns₀ - w.depth)) s.last (λ e. rw e
            (omega arith)) (λ e. rw e (omega (arith, sinks-up goes hj (omega arith) fit))))

    pub enters-end : w.ended ≡ true → insertion w.full (tree w.used (nodes_of cs)) ≡ insert_of y c j (tree used ns₀)
    enters-end = k.off
