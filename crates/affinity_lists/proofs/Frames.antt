-- Writing all lists, in all five areas: between two frames the lists from i on are written, and the cursors stand at i. Assumes nothing.
use mathlib.Core.Path.{◌≡◌, subst, ◌∙◌}
use mathlib.Core.List.{List}
use Prim.Native.Nat.{ℕ, ◌+◌, ◌-◌, ◌*◌, ◌<◌, ◌≤◌}
use native.Mathlib.Omega.{arith}
use lib.Ieee.{Float}
use lib.ListN.{length, set}
use Rattle.laws.specs.Domain.{most_frames}
use Rattle.laws.specs.Area.{zero64}
use Rattle.laws.specs.Joined.{ending}
use Rattle.laws.proofs.Parts.{Scratch, scratch-start, scratch-clear}
use Rattle.areas.specs.Filled.{filled}
use Rattle.affinity_lists.specs.Lists.{links_of, Areas, areas, lists_made, Prepared}
use Rattle.affinity_lists.specs.Steps.{list_sought, weights_sought, Room, Lowered, Topped}
use Rattle.affinity_lists.proofs.Filled.{Filled, filled-start, filled-small, filled-end, filled_next, offsets-same, Cursors, cursors-start, cursors-next, RowReady, ready-room}

-- b: the areas before the first list is written, a: the areas now; the preparation row of values is not used
pub record Frames (n k : ℕ) (b : Areas) (i q : ℕ) (a : Areas) : Type 0 where
  pub lists : Filled n k b.indices b.weights b.offsets i q a.weights a.indices a.offsets
  pub cursors : Cursors n k b.indices i a.row_indices
  pub names : Scratch n b.row_indices a.row_indices
  pub room : n ≤ length a.row_indices

module _ {n k : ℕ} {b : Areas} (ok : Prepared n k b) where
  -- the areas with other offsets and other preparation indices: at the start the end of the last list is written, and the cursors are set
  abbrev begun : List ℕ → List ℕ → Areas
  begun Q T = areas b.weights b.indices Q b.row_values T

  pub frames-start : {links : ℕ} {T : List ℕ} → links ≡ links_of n k b.indices → length T ≡ length b.row_indices → Topped b.indices b.row_indices n k T
      → Frames n k (begun (set b.offsets n links) T) n links (begun (set b.offsets n links) T)
  frames-start {links} e h t = record {
    lists = filled-start n k b.indices b.weights b.offsets ok.rows links e ok.offsets;
    cursors = cursors-start ok.frames.0 ok.rows t;
    names = scratch-start;
    room = omega (arith, ok.row_indices, h);
  }

  module _ {i q : ℕ} {Q T : List ℕ} {W : List Float} {I O : List ℕ} {X : List Float} {R : List ℕ} (f : Frames n k (begun Q T) i q (areas W I O X R)) where
    -- a place is far below 2^32
    pub frames_small : q ≤ 2 * (most_frames * most_frames)
    frames_small = filled-small n k b.indices b.weights Q ok.rows ok.frames.0 ok.frames.1 f.lists

    -- list i - 1 is written
    module _ (h : 0 < i) where
      ready : RowReady n k b.indices b.weights Q (i - 1) q W I O R
      ready =
          let e : i ≡ i - 1 + 1 = omega arith in
          record {
            filled = subst (λ (x : ℕ). Filled n k b.indices b.weights Q x q W I O) e f.lists;
            cursors = subst (λ (x : ℕ). Cursors n k
                b.indices x R) e f.cursors;
            size_r = f.room;
          }

      pub frames-room : Room W I O R n k (i - 1) q
      frames-room = ready-room (ok.weights, ok.indices) ok.rows ok.frames ready

      pub frames-next : {q' : ℕ} {W' : List Float} {I' R' : List ℕ} → q' ≡ q - length (list_sought I O n k (i - 1)) →
          W' ≡ ending (weights_sought W I O n k (i - 1)) q W → I' ≡ ending (list_sought I O n k (i - 1)) q I
          → length R' ≡ length R → Lowered I O R n k (i - 1) R' → Frames n k (begun Q T) (i - 1) q' (areas W' I' (set O (i - 1) q') X R')
      frames-next {q'} {W'} {I'} e e_w e_i m d = record {
        lists = filled_next (ok.weights, ok.indices) ok.rows ok.frames ready q' W' I' e e_w e_i;
        cursors = cursors-next (ok.weights, ok.indices) ok.rows ok.frames ready d;
        names = record { size = m ∙ f.names.size; tail = d.tail ∙ f.names.tail };
        room = omega (arith, m, f.room);
      }

  -- no frame is left, and the preparation rows are filled
  pub frames-done : (links : ℕ) {i q : ℕ} {T : List ℕ} {W : List Float} {I O R : List ℕ} {X' : List Float} {R' : List ℕ} → i ≡ 0 → Topped b.indices b.row_indices n k T
      → Frames n k (begun (set b.offsets n links) T) i q (areas W I O b.row_values R) → X' ≡ filled zero64 n b.row_values → R' ≡ filled 0 n R → areas W I O X' R' ≡ lists_made n k b
  frames-done links z t f e_x e_r =
      let g = filled-end n k b.indices b.weights (set b.offsets n links) ok.rows z f.lists in
      rw (g.0, g.1, g.2 ∙ offsets-same n k b.indices b.weights b.offsets ok.rows links, e_x, scratch-clear 0 e_r f.names, t.tail)
