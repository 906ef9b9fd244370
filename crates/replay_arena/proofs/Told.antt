-- What the proofs of the adaptors cite, and their callers: laws of lists and of definitions, without memory. Assumes nothing.
use Rattle.std.proofs.Common.{◌≡◌, ℕ, suc, ◌-◌, ◌*◌, ◌<◌, ◌≤◌, true, List, ◌++◌, length, take, drop, set, sym, ap, ◌∙◌, arith, take-append-drop, take_at, drop_at}
use lib.Seq.{set-append_left}
use lib.Ieee.{Float}
use Rattle.laws.specs.Domain.{most_word}
use Rattle.tree_node.specs.declared.Node.{Node}
use Rattle.tree_node.specs.declared.Cell.{Cell}
use Rattle.tree_node.specs.Node.{Axes}
use Rattle.tree_node.specs.Arena.{nodes_of}
use Rattle.tree_node.proofs.Told.{nodes-length, nodes-append, nameable-most, nameable-word}
use Rattle.tree_bounds.specs.Bounds.{box_of}
use Rattle.tree_walk.specs.declared.Eye.{Eye}
use Rattle.tree_walk.specs.Repel.{Blocks}
use Rattle.tree.specs.declared.Inserted.{Inserted}
use Rattle.tree.specs.Insert.{tree, insertion, insert_of, growable}
use Rattle.tree.proofs.Tested.{Sound, fine-sound}
use Rattle.tree.proofs.Whole.{looser}
use Rattle.tree.proofs.Opens.{blocks-of}
use Rattle.replay_arena.specs.declared.Put.{Put}
use Rattle.replay_arena.specs.Fronts.{front, behind, fine_of, Walkable, put_of, told_by}

-- ---- what is well formed

-- how many nodes are in use
pub fine-used : (k used n c : ℕ) (cs : List Cell) → fine_of k used n c cs ≡ true → (0 < used) × (used ≤ length (take k cs)) × (used ≤ most_word)
fine-used k used n c cs e =
    let s : Sound n c (tree used (front k cs)) = fine-sound n c (tree used (front k cs)) e in
    let m = nameable-most (length (front k cs)) in
    let w = nameable-word (length (front k cs)) in
    let l : length (front k cs) ≡ length (take k cs) = nodes-length (take k cs) in
    (s.some, omega (arith, s.within, m, l), omega (arith, s.within, w))

-- a force walk may go through it
pub fine-walks : (k used n c : ℕ) (cs : List Cell) → n ≤ most_word → fine_of k used n c cs ≡ true → Walkable k used c cs
fine-walks k used n c cs h e =
    let u = fine-used k used n c cs e in
    (u.0, u.1, u.2, looser n (suc most_word) c n most_word (tree used (front k cs)) (omega (arith, h)) h (fine-sound n c (tree used (front k cs)) e).nodes)

-- ---- `plant_in`
module _ (n c k : ℕ) (cs : List Cell) (y : List Float) (ready : (Axes c) × (n * c ≤ length y) × (0 < k) × (k ≤ 512)) where
  pub plant-asks : length (take k cs) ≡ k → (Axes c) × (n * c ≤ length y) × (0 < length (take k cs))
  plant-asks l = (ready.0, ready.1, omega (arith, l, ready.2))

  pub plant-told : length (take k cs) ≡ k → (ds : List Cell) → nodes_of ds ≡ set (nodes_of (take k cs)) 0 (box_of y n c) → nodes_of (ds ++ drop k cs) ≡ set (nodes_of cs) 0 (box_of y n c)
  plant-told l ds e =
      let h : 0 < length (nodes_of (take k cs)) = omega (arith, l, ready.2, nodes-length (take k cs)) in
      nodes-append ds (drop k cs) ∙ ap (λ (ns : List Node). ns ++ nodes_of (drop k cs)) e ∙ sym (set-append_left (nodes_of (take k cs)) (nodes_of (drop k cs)) 0 (box_of y n c) h)
      ∙ ap (λ (ns : List Node). set ns 0 (box_of y n c)) (sym (nodes-append (take k cs) (drop k cs)) ∙ ap nodes_of (take-append-drop k cs))

-- ---- `put_in`
module _ (n used j c k : ℕ) (cs : List Cell) (y : List Float) (ready : (Axes c) × (k ≤ 512) × (n * c ≤ length y) × (j < n) × (n < most_word) × (fine_of k used n c cs ≡ true)) where
  pub put-asks : (Axes c) × (0 < used) × (used ≤ length (take k cs)) × (n * c ≤ length y) × (j < n) × (n ≤ most_word) × (growable n c (tree used (nodes_of (take k cs))) ≡ true)
  put-asks =
      let u = fine-used k used n c cs ready.5 in (
        ready.0,
        u.0,
        u.1,
        ready.2,
        ready.3,
        omega (arith, ready.4),
        looser n n c n (most_word - 1) (tree used (front k cs)) (omega arith) (omega (arith, ready.4))
            (fine-sound n c (tree used (front k cs)) ready.5).nodes,
      )

  pub put-told : (a : Inserted) (ds : List Cell) → insertion a.full (tree a.used (nodes_of ds)) ≡ insert_of y c j (tree used (nodes_of (take k cs))) → length ds ≡ k
      → (p : Put) → p ≡ put_of a (ds ++ drop k cs) → (told_by k p ≡ insert_of y c j (tree used (front k cs))) × (behind k p.cells ≡ behind k cs)
  put-told a ds e l p ep = (
    ap (told_by k) ep ∙ ap (λ (es : List Cell). insertion a.full (tree a.used (nodes_of es))) (take_at ds (drop k cs) k l) ∙ e,
    ap (λ (q : Put). behind k q.cells) ep ∙ drop_at ds (drop k cs) k l,
  )

-- ---- `force_in`
pub force-asks : (k used : ℕ) (eye : Eye) (cs : List Cell) → (Axes eye.c) × (k ≤ 512) × Walkable k used eye.c cs
    → (Axes eye.c) × (0 < used) × (used ≤ length (take k cs)) × (used ≤ most_word) × Blocks used eye.c (nodes_of (take k cs))
force-asks k used eye cs r = (r.0, r.2.0, r.2.1, r.2.2, blocks-of used eye.c (front k cs) r.2.3)
