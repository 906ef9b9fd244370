-- Where the areas lie in a parked file, which numbers they hold, and that they fit the areas of a work call. Assumes nothing.
use mathlib.Core.Path.{◌≡◌, sym, subst, ◌∙◌}
use mathlib.Core.List.{List}
use mathlib.Core.Bool.{Bool, true, false, cond, not, ◌&&◌, ◌||◌}
use Prim.Native.Nat.{ℕ, ◌+◌, ◌-◌, ◌*◌, ◌<◌, ◌≤◌}
use native.Mathlib.Omega.{arith}
use lib.Dec.{eqb, ltb, leb}
use lib.ListN.{length}
use borrow.Author.Tests.{ltb-true, leb-true, le-ltb, lt-ltb, eqb-true}
use Rattle.laws.specs.Domain.{most_frames}
use Rattle.laws.proofs.Bools.{and_left, and_right, by_bool}
use Rattle.little.specs.Little.{word_in}
use Rattle.run_record.specs.Record.{is_tree}
use Rattle.run_entry.specs.Entry.{GoodAreas}
use Rattle.record_words.specs.RecordWords.{settings_of}
use Rattle.record_words.proofs.Laws.{method-tree}
use Rattle.parked.specs.declared.Layout.{Layout}
use Rattle.parked.specs.Layout.{layout_of}
use Rattle.parked.specs.Fine.{layout_by, word_fine, affinity_fine, held_fits, index_fits, offset_fits}
use Rattle.parked_file.specs.File.{is_parked}
use Rattle.unpark.specs.Unpark.{record_read, settings_read}
use Rattle.unpark.specs.Steps.{Narrow, ListsRoom}
use Rattle.parked_file.proofs.Lies.{Lies}
use Rattle.parked_file.proofs.Heads.{Headed, links-few}
use Rattle.parked_file.proofs.Stands.{file-lies, head-good, parked-head, parked-end, parked-word}

-- ---- the words of the lists

module _ (g : ℕ → ℕ) (l : Layout) (h : Lies l) where
  index_is : (i : ℕ) → i < l.links → word_fine g l (l.indices + i) ≡ ltb (g (l.indices + i)) l.n
  unfolding word_fine affinity_fine index_fits
  index_is i m =
      let w = l.indices + i in
      rw (le-ltb w l.affinities (omega (arith, h.held)), le-ltb w l.indices (omega arith), lt-ltb w l.weights (omega (arith, h.indices)), lt-ltb (w - l.indices) l.links (omega arith))

  offset-is : (i : ℕ) → l.tree ≡ true → i < l.held → word_fine g l (l.affinities + i) ≡ offset_fits g l (l.affinities + i - l.affinities) (l.affinities + i)
  unfolding word_fine affinity_fine held_fits
  offset-is i t m =
      let w = l.affinities + i in
      rw (le-ltb w l.affinities (omega arith), lt-ltb w l.indices (omega (arith, h.held)), lt-ltb (w - l.affinities) l.held (omega arith), t)

  offset-few : (k w : ℕ) → offset_fits g l k w ≡ true → g w ≤ l.links
  unfolding offset_fits
  offset-few k w e = by (eqb k 0) e
    where
      A : Bool
      A = leb (g (w - 1)) (g w)

      B : Bool
      B = leb (g w) l.links

      C : Bool
      C = not (eqb k l.n) || eqb (g w) l.links

      by : (b : Bool) → cond b (eqb (g w) 0) (A && B && C) ≡ true → g w ≤ l.links
      by true q = omega (arith, eqb-true (g w) 0 q)
      by false q = leb-true (g w) l.links (and_right A B (and_left (A && B) C q))

-- ---- in a parked file

pub record Spans (f : List ℕ) (l : Layout) : Type 0 where
  pub positions : 8 * (12 + l.cells) ≤ length f
  pub increments : 8 * (l.increments + l.cells) ≤ length f
  pub gains : 8 * (l.gains + l.cells) ≤ length f
  pub held : 8 * (l.affinities + l.held) ≤ length f
  pub indices : 8 * (l.indices + l.links) ≤ length f
  pub weights : 8 * (l.weights + l.links) ≤ length f

module _ (f : List ℕ) (p : is_parked f ≡ true) where
  abbrev L : Layout
  L = layout_by (word_in f)

  abbrev in_head : Headed (word_in f)
  in_head = head-good f (parked-head f p)

  spans-it : Spans f L
  spans-it =
      let h = file-lies f in
      let e = parked-end f p in
      record {
        positions = omega (arith, e, h.positions, h.increments, h.gains, h.held, h.indices, h.weights);
        increments = omega (arith, e, h.increments, h.gains, h.held, h.indices, h.weights);
        gains = omega (arith, e, h.gains, h.held, h.indices, h.weights);
        held = omega (arith, e, h.held, h.indices, h.weights);
        indices = omega (arith, e, h.indices, h.weights);
        weights = omega (arith, e, h.weights);
      }

  n-is : L.n ≤ most_frames
  unfolding layout_by layout_of
  n-is = in_head.first.n-most

  links-are : L.links ≤ 40000000
  unfolding layout_by layout_of
  links-are = links-few (word_in f) in_head

  indices-narrow : Narrow f L.indices L.links
  indices-narrow i m =
      let h = file-lies f in
      omega (
        arith,
        n-is,
        ltb-true (word_in f (L.indices + i)) L.n
            (sym (index_is (word_in f) L h i m) ∙ parked-word f p (L.indices + i) (omega (arith, h.positions, h.increments, h.gains, h.held))
            (omega (arith, h.indices, h.weights))),
      )

  offsets-narrow : L.tree ≡ true → Narrow f L.affinities L.held
  offsets-narrow t i m =
      let h = file-lies f in
      omega (
        arith,
        links-are,
        offset-few (word_in f) L h (L.affinities + i - L.affinities) (L.affinities + i)
            (sym (offset-is (word_in f) L h i t m) ∙ parked-word f p (L.affinities + i) (omega (arith, h.positions, h.increments, h.gains))
            (omega (arith, h.held, h.indices, h.weights))),
      )

  -- the same of what is equal to it
  module _ (l : Layout) (e : l ≡ layout_by (word_in f)) where
    pub spans : Spans f l
    spans = subst (Spans f) (sym e) spans-it

    pub narrow-indices : Narrow f l.indices l.links
    narrow-indices = subst (λ (y : Layout). Narrow f y.indices y.links) (sym e) indices-narrow

    pub narrow-offsets : l.tree ≡ true → Narrow f l.affinities l.held
    narrow-offsets = subst (λ (y : Layout). y.tree ≡ true → Narrow f y.affinities y.held) (sym e) offsets-narrow

  -- ---- in the areas of a work call

  module _ {P I G A X O F nodes : ℕ} (r : GoodAreas (settings_read (word_in f)) P I G A X O F nodes) where
    tree_is : is_tree (settings_read (word_in f)).method ≡ L.tree
    unfolding settings_read settings_of record_read layout_by layout_of
    tree_is = method-tree (word_in f 0) in_head.first.method

    pub cells-room : (L.cells ≤ P) × (L.cells ≤ I) × (L.cells ≤ G)
    unfolding settings_read settings_of record_read layout_by layout_of
    cells-room = (r.positions-long, r.increments-long, r.gains-long)

    pub lists-room : ListsRoom L A X O
    unfolding settings_read settings_of record_read layout_by layout_of
    lists-room = record {
      indices-long = by_bool (L.links ≤ X) L.tree (λ t. omega (arith, in_head.third.links-in, (r.tree-long (tree_is ∙ t)).indices-most)) (λ t. omega (arith, in_head.third.links-none t));
      matrix-long = λ t. rw t (r.exact-long (tree_is ∙ t));
      weights-long = λ t. omega (arith, in_head.third.links-in, (r.tree-long (tree_is ∙ t)).links-most);
      offsets-long = λ t. rw t (r.tree-long (tree_is ∙ t)).offsets-most;
    }
