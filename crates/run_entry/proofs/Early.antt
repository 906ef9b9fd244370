-- What `fault_at` cites: the tests before those of the nodes, and these, are all of them. Assumes nothing.
use Rattle.std.specs.Prelude.{Result, Ok, Err}
use mathlib.Core.List.{List}
use mathlib.Core.Path.{◌≡◌, refl, sym, ap, subst, ◌∙◌}
use mathlib.Core.Bool.{Bool, true, false, cond, not, ◌&&◌, true≢false}
use Prim.Native.Nat.{ℕ, ◌+◌, ◌-◌}
use lib.Dec.{eqb, ltb}
use lib.ListN.{length}
use borrow.Author.Tests.{not-true, not-false, eq-eqb, ne_eqb}
use Rattle.laws.proofs.Bools.{by_bool, and_left, and_right}
use Rattle.run_record.specs.declared.Run.{Run}
use Rattle.run_record.specs.Record.{is_tree}
use Rattle.tree_node.specs.declared.Node.{Node}
use Rattle.tree_node.specs.declared.Cell.{Cell}
use Rattle.tree_node.specs.Node.{Axes}
use Rattle.tree_node.specs.Arena.{nodes_of}
use Rattle.tree_node.proofs.Told.{nodes-length}
use Rattle.tree.specs.Insert.{tree}
use Rattle.tree.specs.Contents.{contents_of}
use Rattle.tree_contents.specs.declared.Unsound.{Unsound}
use Rattle.run_entry.specs.declared.Fault.{Fault}
use Rattle.run_entry.specs.declared.Fault.TheVariants.{Offsets, Index}
use Rattle.run_entry.specs.Entry.{
  Found,
  areas_fit,
  first_offset,
  first_index,
  listed,
  tree_fault,
  tree_fault_at,
  contents_fault,
  is_fine,
  record_fault,
  lists_fault,
  fault_before_tree,
  asks_tree,
  fault_at,
}
use Rattle.run_entry.proofs.Laws.{axes, record-fine, found-none}

-- the nodes are tested where the lists are fine
contents-split : (r : Run) (xs off : List ℕ) (ns : List Node) → contents_fault r xs off ns ≡ cond (is_fine (lists_fault r xs off)) (tree_fault_at r ns) (lists_fault r xs off)
unfolding contents_fault lists_fault
contents-split r xs off ns = by (ltb (first_offset r.settings off) (r.settings.n + 1)) (ltb (first_index r.settings xs off) (listed r.settings off))
  where
    by : (a b : Bool)
        → cond a (Err (Offsets (first_offset r.settings off - 1))) (cond b (Err (Index (first_index r.settings xs off))) (tree_fault_at r ns))
        ≡ cond (is_fine (cond a (Err (Offsets (first_offset r.settings off - 1))) (cond b (Err (Index (first_index r.settings xs off))) (Ok tt)))) (tree_fault_at r ns)
        (cond a (Err (Offsets (first_offset r.settings off - 1))) (cond b (Err (Index (first_index r.settings xs off))) (Ok tt)))
    by true b = refl
    by false true = refl
    by false false = refl

module _ (r : Run) (p i g a f : ℕ) (xs off : List ℕ) (ns : List Node) where
  abbrev early : Found
  early = fault_before_tree r p i g a f xs off (length ns)

  record-first : is_fine early ≡ true → is_fine (record_fault r) ≡ true
  unfolding fault_before_tree
  record-first e = by_bool (is_fine (record_fault r) ≡ true) (is_fine (record_fault r)) (λ t. t) (λ t. rw t at e)

  asked-axes : asks_tree r early ≡ true → Axes r.settings.c
  unfolding asks_tree
  asked-axes e =
      let tree = is_tree r.settings.method in
      let b = and_left (is_fine early && tree) (not (eqb r.phase 0)) e in
      axes r.settings (record-fine r (record-first (and_left (is_fine early) tree b))).0 (and_right (is_fine early) tree b)

  -- the nodes are asked: what they say
  asked : asks_tree r early ≡ true → tree_fault (contents_of r.settings.n r.settings.c (tree r.used ns)) ≡ fault_at r p i g a f xs off ns
  unfolding asks_tree fault_before_tree fault_at tree_fault_at
  asked e = by_bool (tree_fault (contents_of r.settings.n r.settings.c (tree r.used ns)) ≡ fault_at r p i g a f xs off ns) (is_fine (record_fault r))
      (λ u. by_bool (tree_fault (contents_of r.settings.n r.settings.c (tree r.used ns)) ≡ fault_at r p i g a f xs off ns)
      (areas_fit r.settings p i g a (length xs) (length off) f (length ns))
      (λ v. by_bool (tree_fault (contents_of r.settings.n r.settings.c (tree r.used ns)) ≡ fault_at r p i g a f xs off ns) (is_tree r.settings.method)
      (λ w.
      let q : is_fine (lists_fault r xs off) && true && not (eqb r.phase 0) ≡ true = rw (u, v, w) at e in
      let l : is_fine (lists_fault r xs off) ≡ true = and_left (is_fine (lists_fault r xs off)) true (and_left (is_fine (lists_fault r xs off) && true) (not (eqb r.phase 0)) q) in
      let z : eqb r.phase 0 ≡ false = not-true (eqb r.phase 0) (and_right (is_fine (lists_fault r xs off) && true) (not (eqb r.phase 0)) q) in
      rw (u, v, w, contents-split r xs off ns, l, z))
      (λ w. absurd (true≢false (sym (rw (u, v, w) at e)))))
      (λ v. absurd (true≢false (sym (rw (u, v) at e)))))
      (λ u. absurd (true≢false (sym (rw (u, u) at e))))

  -- they are not: what was found before
  unasked : asks_tree r early ≡ false → early ≡ fault_at r p i g a f xs off ns
  unfolding asks_tree fault_before_tree fault_at tree_fault_at
  unasked e = by_bool (early ≡ fault_at r p i g a f xs off ns) (is_fine (record_fault r))
      (λ u. by_bool (early ≡ fault_at r p i g a f xs off ns) (areas_fit r.settings p i g a (length xs) (length off) f (length ns))
      (λ v. by_bool (early ≡ fault_at r p i g a f xs off ns) (is_tree r.settings.method)
      (λ w. by_bool (early ≡ fault_at r p i g a f xs off ns) (is_fine (lists_fault r xs off))
      (λ l.
      let z : eqb r.phase 0 ≡ true = not-false (eqb r.phase 0) (rw (u, v, w, l) at e) in
      rw (u, v, w, contents-split r xs off ns, l, z) (found-none (lists_fault r xs off) l))
      (λ l. rw (u, v, w, contents-split r xs off ns, l)))
      (λ w. rw (u, v, w)))
      (λ v. rw (u, v)))
      (λ u. rw u)

-- ---- what the code finds: t before the nodes

module _ (r : Run) (p i g a f : ℕ) (xs off : List ℕ) (cs : List Cell) (t : Found) (et : t ≡ fault_before_tree r p i g a f xs off (length cs)) where
  early-is : t ≡ fault_before_tree r p i g a f xs off (length (nodes_of cs))
  early-is = et ∙ ap (fault_before_tree r p i g a f xs off) (sym (nodes-length cs))

  pub early-axes : asks_tree r t ≡ true → Axes r.settings.c
  early-axes y = asked-axes r p i g a f xs off (nodes_of cs) (subst (λ (x : Found). asks_tree r x ≡ true) early-is y)

  pub early-asked : asks_tree r t ≡ true → (k : Result Unit Unsound) → k ≡ contents_of r.settings.n r.settings.c (tree r.used (nodes_of cs)) →
      (w : Found) → w ≡ tree_fault k → w ≡ fault_at r p i g a f xs off (nodes_of cs)
  early-asked y k ek w ew = ew ∙ ap tree_fault ek ∙ asked r p i g a f xs off (nodes_of cs) (subst (λ (x : Found). asks_tree r x ≡ true) early-is y)

  pub early-unasked : asks_tree r t ≡ false → t ≡ fault_at r p i g a f xs off (nodes_of cs)
  early-unasked y = early-is ∙ unasked r p i g a f xs off (nodes_of cs) (subst (λ (x : Found). asks_tree r x ≡ false) early-is y)

-- where nothing was found, the nodes are to be tested in a Barnes-Hut run inside an iteration
pub asks-inside : (r : Run) → is_tree r.settings.method ≡ true → (r.phase ≡ 0 → ⊥) → asks_tree r (Ok tt) ≡ true
unfolding asks_tree
asks-inside r t n = rw (t, ne_eqb r.phase 0 n)

pub asks-between : (r : Run) → r.phase ≡ 0 → asks_tree r (Ok tt) ≡ false
unfolding asks_tree
asks-between r e = by_bool (asks_tree r (Ok tt) ≡ false) (is_tree r.settings.method) (λ t. rw (t, eq-eqb r.phase 0 e)) (λ t. rw t)

pub asks-exact : (r : Run) → is_tree r.settings.method ≡ false → asks_tree r (Ok tt) ≡ false
unfolding asks_tree
asks-exact r t = rw t

pub asks-faulty : (r : Run) (f : Fault) → asks_tree r (Err f) ≡ false
unfolding asks_tree
asks-faulty r f = refl
