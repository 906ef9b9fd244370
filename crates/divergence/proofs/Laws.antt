-- What the entry tests show of a state that is asked for its figure, and what the exaggeration of a finished iteration was. Assumes nothing.
use mathlib.Core.List.{List}
use mathlib.Core.Path.{◌≡◌, ap, subst, ◌∙◌}
use mathlib.Core.Bool.{true}
use mathlib.Core.Logic.{◌⊎◌, inl, inr}
use Prim.Native.Nat.{ℕ, ◌+◌, ◌<◌, ◌≤◌, min}
use native.Mathlib.Omega.{arith}
use native.Mathlib.Nat.{le_trans}
use lib.Dec.{ltb}
use lib.ListN.{length}
use lib.Ieee.{Float}
use borrow.Author.Tests.{ltb-true, ltb-false, le-leb, lt-leb}
use Rattle.laws.specs.Domain.{early_iterations}
use Rattle.laws.proofs.Bools.{by_bool}
use Rattle.laws.proofs.Numbers.{order}
use Rattle.tree_node.specs.declared.Cell.{Cell}
use Rattle.tree_node.specs.Arena.{nodes_of}
use Rattle.run_record.specs.declared.Run.{Run}
use Rattle.run_record.specs.Record.{closed_of}
use Rattle.run_plan.specs.Plan.{exaggeration_of}
use Rattle.run_entry.specs.State.{memory, state}
use Rattle.run_entry.specs.Entry.{Found, is_fine, fault_at, fault_of}
use Rattle.run_entry.proofs.Laws.{fault-fine}
use Rattle.run_rooms.proofs.Lists.{linked-at}
use Rattle.std.specs.Prelude.{Result}
use Rattle.divergence.specs.declared.DivergenceFault.{DivergenceFault}
use Rattle.divergence.specs.Divergence.{last_exaggeration, divergence_fault, after_tests, divergence_of, FigureRoom}

-- after a finish it is the exaggeration that the finished iteration went by
pub exaggeration-kept : (r : Run) (norm : Float) → last_exaggeration (closed_of r norm) ≡ exaggeration_of r
unfolding last_exaggeration exaggeration_of closed_of
exaggeration-kept r norm =
    let d = r.done in
    by_bool (last_exaggeration (closed_of r norm) ≡ exaggeration_of r) (ltb d early_iterations)
    (λ t. rw (t, le-leb (d + 1) early_iterations (omega (arith, ltb-true d early_iterations t))))
    (λ t. rw (t, lt-leb (d + 1) early_iterations (omega (arith, ltb-false d early_iterations t))))

-- ---- the areas, by their lengths

module _ (r : Run) (y v g P : List Float) (xs off : List ℕ) (F : List Float) (cs : List Cell) (z : List Float) where
  -- a state whose positions are no longer than the copy, and that passes the tests, has room for the figure
  room_of : (p : List Float) → length p ≤ length z → is_fine (fault_of (state r (memory p v g P xs off F cs))) ≡ true → FigureRoom r P xs off F z
  room_of p l e =
      let h = fault-fine (state r (memory p v g P xs off F cs)) e in
      record {
        total-room = record { settings-good = h.settings; forces-long = h.areas.forces-long };
        copy-long = le_trans h.areas.positions-long l;
        exact-long = h.areas.exact-long;
        lists-within = λ t i b. linked-at r xs off (nodes_of cs) (h.contents t) P (h.areas.tree-long t) i b;
      }

  module _ (q : ℕ) (eq : q ≡ min (length y) (length z)) (f : Found) (ef : f ≡ fault_at r q (length v) (length g) (length P) (length F) xs off (nodes_of cs)) where
    -- the fault of a state whose positions have the tested length
    fault-as : (p : List Float) → length p ≡ q → f ≡ fault_of (state r (memory p v g P xs off F cs))
    unfolding fault_of
    fault-as p lp = ef ∙ rw lp

    by_order : (length z ≤ length y) ⊎ (length y < length z) → is_fine f ≡ true → FigureRoom r P xs off F z
    by_order (inl l) t = room_of z (omega arith) (subst (λ (x : Found). is_fine x ≡ true) (fault-as z (omega (arith, eq, l))) t)
    by_order (inr l) t = room_of y (omega arith) (subst (λ (x : Found). is_fine x ≡ true) (fault-as y (omega (arith, eq, l))) t)

    pub divergence-asks : is_fine f ≡ true → FigureRoom r P xs off F z
    divergence-asks t = by_order (order (length y) (length z)) t

    fault-is : f ≡ divergence_fault r (memory y v g P xs off F cs) z
    unfolding divergence_fault
    fault-is = ef ∙ rw eq

    pub divergence-told : (t : Result Float DivergenceFault) → t ≡ after_tests f r P xs off F z → t ≡ divergence_of r (memory y v g P xs off F cs) z
    unfolding divergence_of
    divergence-told t et = et ∙ ap (λ (x : Found). after_tests x r P xs off F z) fault-is
