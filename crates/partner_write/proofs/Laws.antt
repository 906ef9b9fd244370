-- Lists of records written one after the other, what the entry tests on words show of a run whose lists are written, and what the call cites. Assumes nothing.
use Rattle.std.specs.Prelude.{Err}
use mathlib.Core.List.{List, [], ◌++◌, append_assoc, append-nil}
use mathlib.Core.Path.{◌≡◌, refl, sym, ap, subst, ◌∙◌}
use mathlib.Core.Bool.{true, false, ◌&&◌}
use Prim.Native.Nat.{ℕ, zero, suc, ◌+◌, ◌-◌, ◌*◌, ◌<◌, ◌≤◌}
use native.Mathlib.Omega.{arith}
use native.Mathlib.Numerals.{add-one}
use native.Mathlib.Nat.{le_trans, le_refl, le_antisymm, zero-add, add-zero}
use lib.Dec.{leb}
use lib.ListN.{length, take, drop, length-append, take-append-drop}
use lib.Seq.{take_at, drop_at, drop-drop, length-take-le}
use borrow.Author.Tests.{leb-true, eqb-true, eq-eqb, ne_eqb, lt-ltb, le-ltb}
use Rattle.laws.specs.Area.{num}
use Rattle.laws.specs.Joined.{joined, written}
use Rattle.laws.proofs.Bools.{and_left, and_right}
use Rattle.laws.proofs.Joined.{joined-next, joined-none}
use Rattle.laws.proofs.Laid.{laid-size}
use Rattle.little.specs.Little.{little_bytes}
use Rattle.little.proofs.Bytes.{length-bytes}
use Rattle.tree_node.specs.declared.Node.{Node}
use Rattle.tree_node.specs.declared.Cell.{Cell}
use Rattle.tree_node.specs.Arena.{nodes_of}
use Rattle.run_record.specs.declared.Run.{Run}
use Rattle.run_record.specs.Record.{is_tree, sizes_of}
use Rattle.run_entry.specs.declared.Fault.{Fault}
use Rattle.run_entry.specs.Entry.{Found, is_fine, offset_fine}
use Rattle.run_entry.proofs.Laws.{found-none, GoodAt, at-fine, links-is}
use Rattle.record_words.specs.RecordWords.{method_of, settings_of, run_of}
use Rattle.record_words.proofs.Laws.{run_long}
use Rattle.words_entry.specs.WordsEntry.{words_fault}
use Rattle.words_entry.proofs.Laws.{words-fine}
use Rattle.parked.specs.Parked.{stored_of}
use Rattle.std.specs.Prelude.{Result, Ok, Err}
use Rattle.partner_write.specs.declared.ListsFault.{ListsFault}
use Rattle.partner_write.specs.declared.ListsFault.TheVariants.{NoLists, Short, Bad}
use Rattle.partner_write.specs.Write.{link_record, link_at, list_records, lists_bytes, lists_into, listing, lists_tested, written_lists, ListsLie, WriteRoom}

-- ---- lists written one after the other

module _ {A : Type 0} where
  pub written_after : (X Y : List A) (b p : ℕ) (l : List A) → b ≤ length l → p ≡ b + length X → written Y p (written X b l) ≡ written (X ++ Y) b l
  written_after X Y b p l h e =
      let P = take b l ++ X in
      let Q = drop (b + length X) l in
      let s : length P ≡ b + length X = length-append (take b l) X ∙ ap (λ (x : ℕ). x + length X) (length-take-le b l h) in
      ap (λ (x : ℕ). written Y x (P ++ Q)) e
      ∙ ap (λ (x : List A). x ++ Y ++ drop (b + length X + length Y) (P ++ Q)) (take_at P Q (b + length X) s)
      ∙ ap (λ (x : List A). (P ++ Y) ++ x) (sym (drop-drop (length Y) (b + length X) (P ++ Q)) ∙ ap (drop (length Y)) (drop_at P Q (b + length X) s) ∙ drop-drop (length Y) (b + length X) l)
      ∙ ap (λ (x : List A). x ++ drop (b + length X + length Y) l) (append_assoc (take b l) X Y)
      ∙ ap (λ (x : ℕ). take b l ++ (X ++ Y) ++ drop x l) (sum (length X) (length Y) (length (X ++ Y)) (length-append X Y))
    where
      sum : (x y z : ℕ) → z ≡ x + y → b + x + y ≡ b + z
      sum x y z e = omega arith

  written_none : (b : ℕ) (l : List A) → l ≡ written [] b l
  written_none b l = sym (ap (λ (x : List A). x ++ drop (b + 0) l) (append-nil (take b l)) ∙ ap (λ (x : ℕ). take b l ++ drop x l) (add-zero b) ∙ take-append-drop b l)

  -- the loop that writes them: i of n stand from place b on
  pub record RowsPut (row : ℕ → List A) (b n : ℕ) (l₀ : List A) (i : ℕ) (l : List A) : Type 0 where
    pub within : i ≤ n
    pub size : length l ≡ length l₀
    pub same : l ≡ written (joined row i) b l₀

  module _ {row : ℕ → List A} {b n : ℕ} {l₀ : List A} where
    pub rows-put-start : RowsPut row b n l₀ 0 l₀
    rows-put-start = record { within = omega arith; size = refl; same = written_none b l₀ ∙ ap (λ (x : List A). written x b l₀) (sym (joined-none row)) }

    pub rows-put-next : {i p : ℕ} {l l' : List A} → RowsPut row b n l₀ i l → i < n → b ≤ length l₀ → p ≡ b + length (joined row i) → length l' ≡ length l →
        l' ≡ written (row i) p l → RowsPut row b n l₀ (i + 1) l'
    rows-put-next {i} {p} {l} {l'} r h m k s e = record {
      within = omega arith;
      size = s ∙ r.size;
      same = e ∙ ap (written (row i) p) r.same ∙ written_after (joined row i) (row i) b p l₀ m k ∙ ap (λ (x : List A). written x b l₀) (sym (joined-next row i));
    }

    pub rows-put-done : {i : ℕ} {l : List A} → RowsPut row b n l₀ i l → n ≤ i → l ≡ written (joined row n) b l₀
    rows-put-done {i} {l} r h = r.same ∙ ap (λ (x : ℕ). written (joined row x) b l₀) (le_antisymm r.within h)

-- ---- a record, a list, the lists

pub link-size : (from to w : ℕ) → length (link_record from to w) ≡ 16
link-size from to w = length-append (little_bytes 4 from) (little_bytes 4 to ++ little_bytes 8 w) ∙
    rw (length-bytes 4 from, length-append (little_bytes 4 to) (little_bytes 8 w), length-bytes 4 to, length-bytes 8 w)

pub link-written : (from to w a : ℕ) (l l1 l2 l3 : List ℕ) → a + 16 ≤ length l → l1 ≡ written (little_bytes 4 from) a l →
    l2 ≡ written (little_bytes 4 to) (a + 4) l1 → l3 ≡ written (little_bytes 8 w) (a + 8) l2 → l3 ≡ written (link_record from to w) a l
link-written from to w a l l1 l2 l3 h e1 e2 e3 =
    let F = little_bytes 4 from in
    let T = little_bytes 4 to in
    e3
    ∙ ap (written (little_bytes 8 w) (a + 8)) (e2 ∙ ap (written T (a + 4)) e1 ∙ written_after F T a (a + 4) l (omega arith) (ap (λ (x : ℕ). a + x) (sym (length-bytes 4 from))))
    ∙ written_after (F ++ T) (little_bytes 8 w) a (a + 8) l (omega arith) (ap (λ (x : ℕ). a + x) (sym (length-append F T ∙ rw (length-bytes 4 from, length-bytes 4 to))))
    ∙ ap (λ (x : List ℕ). written x a l) (append_assoc F T (little_bytes 8 w))

links-long : (W I : List ℕ) (from a t : ℕ) → length (joined (link_at W I from a) t) ≡ t * 16
links-long W I from a t = laid-size 16 (link_at W I from a) t (λ i h. link-size from (num I (a + i)) (num W (a + i)))

-- one link more of a list
pub link-next : {row : ℕ → List ℕ} {k t : ℕ} {l₀ l l' : List ℕ} (a : ℕ) → RowsPut row (16 * a) k l₀ t l → t < k → 16 * (a + k) ≤ length l₀ → ((j : ℕ) →
    length (row j) ≡ 16) → length l' ≡ length l → l' ≡ written (row t) (16 * (a + t)) l → RowsPut row (16 * a) k l₀ (t + 1) l'
link-next {row} {k} {t} a r h m w s e = rows-put-next {p = 16 * (a + t)} r h (omega arith) (omega (arith, laid-size 16 row t (λ j x. w j))) s e

module _ {n : ℕ} {W I O : List ℕ} (g : ListsLie n W I O) where
  -- no offset is above a later one
  rise-to : (d i : ℕ) → i + d ≡ n → num O i ≤ num O n
  rise-to zero i h = let e : i ≡ n = omega arith in rw e (le_refl (num O n))
  rise-to (suc d) i h = le_trans (g.offsets-rise i (omega arith)) (rise-to d (i + 1) (omega arith))

  pub list-within : (i : ℕ) → i < n → (num O i ≤ num O (i + 1)) × (num O (i + 1) ≤ num O n)
  list-within i h = (g.offsets-rise i h, rise-to (n - (i + 1)) (i + 1) (omega arith))

  pub lists-size : (i : ℕ) → i ≤ n → length (joined (list_records W I O) i) ≡ 16 * num O i
  unfolding joined list_records
  lists-size zero h = omega (arith, g.offsets-begin)
  lists-size (suc i) h =
      let e = add-one i in
      omega (
        arith,
        length-append (joined (list_records W I O) i) (list_records W I O i),
        lists-size i (omega arith),
        links-long W I i (num O i) (num O (i + 1) - num O i),
        g.offsets-rise i (omega arith),
        ap (num O) e,
      )

  -- one list more
  pub list-next : {i : ℕ} {t₀ t t' : List ℕ} → RowsPut (list_records W I O) 0 n t₀ i t → i < n → length t' ≡ length t →
      t' ≡ written (joined (link_at W I i (num O i)) (num O (i + 1) - num O i)) (16 * num O i) t → RowsPut (list_records W I O) 0 n t₀ (i + 1) t'
  unfolding list_records
  list-next {i} r h s e = rows-put-next {p = 16 * num O i} r h (omega arith) (omega (arith, lists-size i (omega arith))) s e

  pub lists-end : {i : ℕ} {t₀ t : List ℕ} → RowsPut (list_records W I O) 0 n t₀ i t → n ≤ i → t ≡ lists_into n W I O t₀
  unfolding lists_into lists_bytes
  lists-end {i} {t₀} r h = rows-put-done r h ∙ ap (λ (x : ℕ). joined (list_records W I O) n ++ drop x t₀) (zero-add (length (joined (list_records W I O) n)) ∙ lists-size n (le_refl n))

-- ---- the tests: what they show, whatever the values are

module _ (r : Run) (p i g a f : ℕ) (xs off : List ℕ) (ns : List Node) (s : GoodAt r p i g a f xs off ns) (t : is_tree r.settings.method ≡ true) where
  -- an offset past the first is not below the one before it, and passes no slot
  next-offset : (j : ℕ) → j < r.settings.n → (num off j ≤ num off (j + 1)) × (num off (j + 1) ≤ (sizes_of r.settings).links)
  unfolding offset_fine
  next-offset j h =
      let l = (sizes_of r.settings).links in
      let e = (s.contents t).each-offset (j + 1) (omega arith) in
      let q : leb (num off (j + 1 - 1)) (num off (j + 1)) && leb (num off (j + 1)) l ≡ true = rw (ne_eqb (j + 1) 0 (λ z. omega arith)) at e in
      let b = leb-true (num off (j + 1 - 1)) (num off (j + 1)) (and_left (leb (num off (j + 1 - 1)) (num off (j + 1))) (leb (num off (j + 1)) l) q) in
      let z : j + 1 - 1 ≡ j = omega arith in
      (rw z at b, leb-true (num off (j + 1)) l (and_right (leb (num off (j + 1 - 1)) (num off (j + 1))) (leb (num off (j + 1)) l) q))

  last-offset : num off r.settings.n ≤ (sizes_of r.settings).links
  last-offset =
      let n = r.settings.n in
      let z : n - 1 + 1 ≡ n = omega (arith, s.settings.n-some) in
      rw z at (next-offset (n - 1) (omega (arith, s.settings.n-some))).1

  first-offset : num off 0 ≡ 0
  unfolding offset_fine
  first-offset = eqb-true (num off 0) 0 ((s.contents t).each-offset 0 (omega arith))

  lists-lie : (W : List ℕ) → length W ≡ a → ListsLie r.settings.n W xs off
  lists-lie W e =
      let l = links-is r.settings in
      let x = s.areas.tree-long t in
      record {
        offsets-long = omega (arith, x.offsets-most);
        offsets-begin = first-offset;
        offsets-rise = λ j h. (next-offset j h).0;
        weights-long = omega (arith, last-offset, l, x.links-most);
        indices-long = omega (arith, last-offset, l, x.indices-most);
      }

tree-word : (x : ℕ) → x ≡ 1 → is_tree (method_of x) ≡ true
unfolding method_of
tree-word x e = rw e

-- what the tests ask of the run's words and areas is what the writing asks
module _ (w P I G A : List ℕ) (f : ℕ) (xs off : List ℕ) (ns : List Node) where
  abbrev found : Found
  found = words_fault w (length P) (length I) (length G) (length A) f xs off ns

  write-room : is_fine found ≡ true → WriteRoom w A xs off
  unfolding run_of settings_of
  write-room e =
      let q = words-fine w (length P) (length I) (length G) (length A) f xs off ns e in
      let s = at-fine (run_of w) (length P) (length I) (length G) (length A) f xs off ns q.1 in
      record {
        words_long = run_long w q.0;
        lists = λ t. lists-lie (run_of w) (length P) (length I) (length G) (length A) f xs off ns s (tree-word (num w 3) t) A refl;
      }

-- ---- once they have found f: what is answered in each case

module _ (f : Found) (w W I O t : List ℕ) where
  pub lists-bad : (b : Fault) → f ≡ Err b → listing (Err (Bad b)) t ≡ lists_tested f w W I O t
  unfolding lists_tested
  lists-bad b e = rw e

  module _ (e : is_fine f ≡ true) where
    pub lists-none : (num w 3 ≡ 1 → ⊥) → listing (Err NoLists) t ≡ lists_tested f w W I O t
    unfolding lists_tested
    lists-none n = rw (found-none f e, ne_eqb (num w 3) 1 n)

    module _ (m : num w 3 ≡ 1) where
      pub lists-short : length t < 16 * num O (num w 0) → listing (Err Short) t ≡ lists_tested f w W I O t
      unfolding lists_tested
      lists-short h = rw (found-none f e, eq-eqb (num w 3) 1 m, lt-ltb (length t) (16 * num O (num w 0)) h)

      pub lists-told : 16 * num O (num w 0) ≤ length t → (t' : List ℕ) → t' ≡ lists_into (num w 0) W I O t → listing (Ok (num O (num w 0))) t' ≡ lists_tested f w W I O t
      unfolding lists_tested
      lists-told h t' q = rw (found-none f e, eq-eqb (num w 3) 1 m, le-ltb (length t) (16 * num O (num w 0)) h, q)

-- ---- what the call cites, with the machine's counts of the areas

module _ (w P I G A xs off : List ℕ) (f : ℕ) (cs : List Cell) (p i g a : ℕ) (lp : length P ≡ p) (li : length I ≡ i) (lg : length G ≡ g) (la : length A ≡ a)
    (t : Found) (et : t ≡ words_fault w p i g a f xs off (nodes_of cs)) where
  fault-is : t ≡ found w P I G A f xs off (nodes_of cs)
  fault-is = et ∙ rw (lp, li, lg, la)

  pub write-asks : is_fine t ≡ true → WriteRoom w A xs off
  write-asks e = write-room w P I G A f xs off (nodes_of cs) (subst (λ (x : Found). is_fine x ≡ true) fault-is e)

  pub write-said : (x : Result ℕ ListsFault) (b₀ b : List ℕ) → listing x b ≡ lists_tested t w A xs off b₀ → listing x b ≡ written_lists (stored_of w P I G A xs off) f (nodes_of cs) b₀
  unfolding written_lists
  write-said x b₀ b e = e ∙ ap (λ (y : Found). lists_tested y w A xs off b₀) fault-is
