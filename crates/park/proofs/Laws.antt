-- What the entry tests on words show of a run that is parked, what the loop that writes its words keeps, and what the call cites. Assumes nothing.
use Rattle.std.specs.Prelude.{Err}
use mathlib.Core.List.{List, ◌++◌, append_assoc}
use mathlib.Core.Path.{◌≡◌, refl, sym, ap, subst, ◌∙◌}
use mathlib.Core.Bool.{Bool, true, false, ◌&&◌}
use Prim.Native.Nat.{ℕ, ◌+◌, ◌-◌, ◌*◌, ◌/◌, ◌<◌, ◌≤◌}
use native.Mathlib.Omega.{arith}
use native.Mathlib.Nat.{le_trans, mul_comm, mul-le-mul}
use lib.Dec.{eqb, leb}
use lib.ListN.{length, take, drop}
use lib.Seq.{drop-drop}
use borrow.Author.Tests.{leb-true, eq-eqb, ne_eqb, lt-ltb, le-ltb}
use Rattle.laws.specs.Area.{num}
use Rattle.laws.specs.Joined.{written}
use Rattle.laws.proofs.Bools.{and_left, and_right}
use Rattle.laws.proofs.Laid.{Lays, lays-next}
use Rattle.little.specs.Little.{little_bytes}
use Rattle.tree_node.specs.declared.Node.{Node}
use Rattle.tree_node.specs.declared.Cell.{Cell}
use Rattle.tree_node.specs.Arena.{nodes_of}
use Rattle.run_record.specs.declared.Run.{Run}
use Rattle.run_record.specs.Record.{is_tree, k_of, sizes_of}
use Rattle.run_record.proofs.Laws.{k-most}
use Rattle.run_entry.specs.declared.Fault.{Fault}
use Rattle.run_entry.specs.Entry.{Found, is_fine, offset_fine, listed}
use Rattle.run_entry.proofs.Laws.{found-none, GoodAt, at-fine, links-is}
use Rattle.record_words.specs.RecordWords.{settings_fine, settings_of, run_fine, run_of}
use Rattle.record_words.proofs.Laws.{method-tree, run_long}
use Rattle.words_entry.specs.WordsEntry.{words_fault}
use Rattle.words_entry.proofs.Laws.{words-fine}
use Rattle.parked.specs.declared.Layout.{Layout}
use Rattle.parked.specs.Layout.{layout_of}
use Rattle.parked.specs.Parked.{Stored, stored_of, links_in, layout_in, parked_word, StoredRoom}
use Rattle.parked.proofs.Laws.{end-most}
use Rattle.std.specs.Prelude.{Result, Ok, Err}
use Rattle.park.specs.declared.ParkFault.{ParkFault}
use Rattle.park.specs.declared.ParkFault.TheVariants.{Inside, Barred, Short, Bad}
use Rattle.park.specs.Park.{calm_state, parking, parked_into, park_tested, park_of, LayoutRoom, ParkRoom}

-- ---- the loop: w words are written

-- word w of the file, as bytes
abbrev pub word_bytes : Layout → Stored → ℕ → List ℕ
word_bytes l d w = little_bytes 8 (parked_word l d w)

pub words-next : {row : ℕ → List ℕ} {n : ℕ} {t₀ t t' : List ℕ} {w : ℕ} → Lays 8 row n t₀ w t → w < n → 8 * n ≤ length t₀ → length (row w) ≡ 8 →
    length t' ≡ length t → t' ≡ written (row w) (8 * w) t → Lays 8 row n t₀ (w + 1) t'
words-next {row} {n} {t₀} {t} {t'} {w} r h m k s e = lays-next 8 row r h (omega arith) s (e ∙ lies)
  where
    lies : written (row w) (8 * w) t ≡ take (w * 8) t ++ (row w ++ drop 8 (drop (w * 8) t))
    lies =
        append_assoc (take (8 * w) t) (row w) (drop (8 * w + length (row w)) t)
        ∙ ap (λ (x : ℕ). take (8 * w) t ++ (row w ++ drop (8 * w + x) t)) k
        ∙ ap (λ (x : List ℕ). take (8 * w) t ++ (row w ++ x)) (sym (drop-drop 8 (8 * w) t))
        ∙ ap (λ (x : ℕ). take x t ++ (row w ++ drop 8 (drop x t))) (mul_comm 8 w)

-- ---- the tests: what they show, whatever the values are

module _ (r : Run) (p i g a f : ℕ) (xs off : List ℕ) (ns : List Node) where
  abbrev Shown : Type 0
  Shown = GoodAt r p i g a f xs off ns

  -- the links that are listed pass no slot
  listed-within : Shown → is_tree r.settings.method ≡ true → listed r.settings off ≤ 2 * r.settings.n * k_of r.settings
  unfolding offset_fine
  listed-within s t =
      let n = r.settings.n in
      let l = (sizes_of r.settings).links in
      let e = (s.contents t).each-offset n (omega arith) in
      let q : leb (num off (n - 1)) (num off n) && leb (num off n) l ≡ true = rw (ne_eqb n 0 (λ z. omega (arith, z, s.settings.n-some))) at e in
      omega (arith, leb-true (num off n) l (and_right (leb (num off (n - 1)) (num off n)) (leb (num off n) l) q), links-is r.settings)

  slots-most : Shown → 2 * r.settings.n * k_of r.settings ≤ 40000000
  slots-most s =
      let k = (k-most r.settings s.settings).1 in
      let h : 2 * r.settings.n ≤ 8192 = omega (arith, s.settings.n-most) in
      let j : k_of r.settings ≤ 4096 = omega (arith, k, s.settings.n-most) in
      omega (arith, mul-le-mul h j)

method-word : (w : List ℕ) → run_fine w ≡ true → num w 3 ≤ 1
unfolding run_fine settings_fine
method-word w e =
    let F = leb 9 (length w) && leb (num w 3) 1 in
    leb-true (num w 3) 1 (and_right (leb 9 (length w)) (leb (num w 3) 1) (and_right (leb 14 (length w)) F (and_left (leb 14 (length w) && F) (leb (num w 9) 2) e)))

links-under : (t : Bool) (n m : ℕ) (off : List ℕ) → (t ≡ true → num off n ≤ m) → links_in t n off ≤ m
unfolding links_in
links-under true n m off h = h refl
links-under false n m off h = omega arith

module _ (w P I G A : List ℕ) (f : ℕ) (xs off : List ℕ) (ns : List Node) where
  abbrev run : Run
  run = run_of w

  abbrev Seen : Type 0
  Seen = Shown run (length P) (length I) (length G) (length A) f xs off ns

  abbrev fault : Found
  fault = words_fault w (length P) (length I) (length G) (length A) f xs off ns

  read : is_fine fault ≡ true → (run_fine w ≡ true) × Seen
  read e =
      let q = words-fine w (length P) (length I) (length G) (length A) f xs off ns e in
      (q.0, at-fine run (length P) (length I) (length G) (length A) f xs off ns q.1)

  module _ (h : num w 3 ≤ 1) (s : Seen) where
    is-tree : eqb (num w 3) 1 ≡ true → is_tree run.settings.method ≡ true
    unfolding run_of settings_of
    is-tree t = method-tree (num w 3) h ∙ t

    is-exact : eqb (num w 3) 1 ≡ false → is_tree run.settings.method ≡ false
    unfolding run_of settings_of
    is-exact t = method-tree (num w 3) h ∙ t

    within-slots : eqb (num w 3) 1 ≡ true → num off (num w 0) ≤ 2 * run.settings.n * k_of run.settings
    unfolding run_of settings_of
    within-slots t = listed-within run (length P) (length I) (length G) (length A) f xs off ns s (is-tree t)

    lists-within : (m : ℕ) → (is_tree run.settings.method ≡ true → 2 * run.settings.n * k_of run.settings ≤ m) → links_in (eqb (num w 3) 1) (num w 0) off ≤ m
    lists-within m q = links-under (eqb (num w 3) 1) (num w 0) m off (λ t. le_trans (within-slots t) (q (is-tree t)))

    layout-room : 14 ≤ length w → LayoutRoom w off
    unfolding run_of settings_of
    layout-room l = record {
      words_long = l;
      frames-most = s.settings.n-most;
      components-most = s.settings.c-most;
      last-offset = λ t. omega (arith, (s.areas.tree-long (is-tree t)).offsets-most);
      links-most = lists-within 40000000 (λ t. slots-most run (length P) (length I) (length G) (length A) f xs off ns s);
    }

    areas-room : 14 ≤ length w → StoredRoom (layout_in w off) (stored_of w P I G A xs off)
    unfolding run_of settings_of layout_in layout_of
    areas-room l = record {
      run_long = l;
      positions-long = s.areas.positions-long;
      increments-long = s.areas.increments-long;
      gains-long = s.areas.gains-long;
      matrix-long = λ t. rw t (s.areas.exact-long (is-exact t));
      offsets-long = λ t. rw t (s.areas.tree-long (is-tree t)).offsets-most;
      indices-long = lists-within (length xs) (λ t. (s.areas.tree-long t).indices-most);
      weights-long = lists-within (length A) (λ t. (s.areas.tree-long t).links-most);
    }

  pub park-room : is_fine fault ≡ true → ParkRoom (stored_of w P I G A xs off)
  park-room e =
      let q = read e in
      let l = run_long w q.0 in
      record { layout = layout-room (method-word w q.0) q.1 l; areas = areas-room (method-word w q.0) q.1 l }

-- ---- once they have found f: what the room is good for, and what is answered in each case

module _ (d : Stored) (l : Layout) (el : l ≡ layout_in d.run d.offsets) (g : ParkRoom d) where
  pub words-room : StoredRoom l d
  words-room = subst (λ (x : Layout). StoredRoom x d) (sym el) g.areas

  pub end-small : l.end ≤ 100000000
  unfolding layout_in
  end-small =
      let r = g.layout in
      let tree = eqb (num d.run 3) 1 in
      subst (λ (x : Layout). x.end ≤ 100000000) (sym el)
      (end-most tree (num d.run 0) (num d.run 2) (links_in tree (num d.run 0) d.offsets) r.frames-most r.components-most r.links-most)

module _ (f : Found) (d : Stored) (t : List ℕ) where
  pub bad-said : (b : Fault) → f ≡ Err b → parking (Err (Bad b)) t ≡ park_tested f d t
  unfolding park_tested
  bad-said b e = rw e

  module _ (e : is_fine f ≡ true) where
    pub inside-said : (num d.run 11 ≡ 0 → ⊥) → parking (Err Inside) t ≡ park_tested f d t
    unfolding park_tested
    inside-said n = rw (found-none f e, ne_eqb (num d.run 11) 0 n)

    module _ (z : num d.run 11 ≡ 0) (l : Layout) (el : l ≡ layout_in d.run d.offsets) where
      pub barred-said : calm_state l.cells d.positions d.increments d.gains ≡ false → parking (Err Barred) t ≡ park_tested f d t
      unfolding park_tested
      barred-said n = rw (found-none f e, eq-eqb (num d.run 11) 0 z, sym el, n)

      module _ (c : calm_state l.cells d.positions d.increments d.gains ≡ true) where
        pub small-said : length t < 8 * l.end → parking (Err Short) t ≡ park_tested f d t
        unfolding park_tested
        small-said h = rw (found-none f e, eq-eqb (num d.run 11) 0 z, sym el, c, lt-ltb (length t) (8 * l.end) h)

        pub written-said : 8 * l.end ≤ length t → (t' : List ℕ) → t' ≡ parked_into l d t → parking (Ok (l.end / 4)) t' ≡ park_tested f d t
        unfolding park_tested
        written-said h t' q = rw (found-none f e, eq-eqb (num d.run 11) 0 z, sym el, c, le-ltb (length t) (8 * l.end) h, q)

-- ---- what the call cites, with the machine's counts of the areas

module _ (w P I G A xs off : List ℕ) (f : ℕ) (cs : List Cell) (p i g a : ℕ) (lp : length P ≡ p) (li : length I ≡ i) (lg : length G ≡ g) (la : length A ≡ a)
    (t : Found) (et : t ≡ words_fault w p i g a f xs off (nodes_of cs)) where
  fault-is : t ≡ fault w P I G A f xs off (nodes_of cs)
  fault-is = et ∙ rw (lp, li, lg, la)

  pub park-asks : is_fine t ≡ true → ParkRoom (stored_of w P I G A xs off)
  park-asks e = park-room w P I G A f xs off (nodes_of cs) (subst (λ (x : Found). is_fine x ≡ true) fault-is e)

  pub park-said : (x : Result ℕ ParkFault) (b₀ b : List ℕ) → parking x b ≡ park_tested t (stored_of w P I G A xs off) b₀ → parking x b ≡ park_of (stored_of w P I G A xs off) f (nodes_of cs) b₀
  unfolding park_of
  park-said x b₀ b e = e ∙ ap (λ (y : Found). park_tested y (stored_of w P I G A xs off) b₀) fault-is
