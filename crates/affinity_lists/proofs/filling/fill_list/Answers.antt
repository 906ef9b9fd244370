use mathlib.Core.Path.{◌≡◌, refl, sym, ◌∙◌}
use mathlib.Core.Bool.{Bool, true, false}
use lib.Ieee.{Float}
use Rattle.std.specs.Prelude.{Some, None}
use Rattle.std.specs.Bool.{then_some}
use Prim.Native.Nat.{◌-◌}
use Rattle.affinity_lists.proofs.Listing.{writing_start, writing-mark, writing-sought, writing_pass, writing-room, writing-next, writing-below, writing-held, writing-done}
use lib.ListN.{length-set}
use native.Mathlib.Omega.{arith}
use Rattle.affinity_lists.proofs.filling.fill_list.Goals as goal

-- what the weight of a link tells
joined : (b : Bool) (v w : Float) → Some w ≡ then_some b v → true ≡ b
joined true v w e = refl
joined false v w e = cc

weighs : (b : Bool) (v w : Float) → Some w ≡ then_some b v → w ≡ v
weighs true v w e = cc
weighs false v w e = cc

apart : (b : Bool) (v : Float) → None ≡ then_some b v → false ≡ b
apart true v e = cc
apart false v e = refl

pub offset_bounds-row_indices-i : goal.offset_bounds-row_indices-i
offset_bounds-row_indices-i c =
    omega (arith, c.requires.frame, c.requires.sizes)

pub bounds-row_indices-i : goal.bounds-row_indices-i
bounds-row_indices-i c =
    omega (arith, c.requires.frame, c.requires.sizes)

pub loop-j-init : goal.loop-j-init
loop-j-init c =
    writing_start c.requires

pub loop-j-preserved-then-j-i : goal.loop-j-preserved-then-j-i
loop-j-preserved-then-j-i c =
    writing-mark c.requires (c.loop-j.j - 1) c.loop-j.j (omega arith) c.loop-j.invariant c.if-j-i.true

pub offset_bounds-row_indices-j : goal.offset_bounds-row_indices-j
offset_bounds-row_indices-j c =
    omega (arith, c.requires.sizes, c.loop-j.invariant.within, c.loop-j.invariant.size)

pub bounds-row_indices-j : goal.bounds-row_indices-j
bounds-row_indices-j c =
    omega (arith, c.requires.sizes, c.loop-j.invariant.within, c.loop-j.invariant.size)

pub link_of-link-requires : goal.link_of-link-requires
link_of-link-requires c =
    writing-sought c.requires (c.loop-j.j - 1) c.loop-j.j (omega arith) c.loop-j.invariant c.if-j-i.false

pub loop-j-preserved-in_default : goal.loop-j-preserved-in_default
loop-j-preserved-in_default c =
    writing_pass c.requires (c.loop-j.j - 1) c.loop-j.j (omega arith) c.loop-j.invariant c.if-j-i.false false (apart _ _ (sym c.in_default.is ∙ c.link_of-link.ensures.weight_value)) _
    c.link_of-link.ensures.row_value refl

pub offset_bounds-row_indices-j-in-loop-j : goal.offset_bounds-row_indices-j-in-loop-j
offset_bounds-row_indices-j-in-loop-j c =
    omega (
      arith,
      writing-room c.requires (c.loop-j.j - 1) c.loop-j.j (omega arith) c.loop-j.invariant c.if-j-i.false true (joined _ _ _ (sym c.in-Some.is ∙ c.link_of-link.ensures.weight_value)) _
          c.link_of-link.ensures.row_value refl,
    )

pub bounds-row_indices-j-in-loop-j : goal.bounds-row_indices-j-in-loop-j
bounds-row_indices-j-in-loop-j c =
    omega (
      arith,
      writing-room c.requires (c.loop-j.j - 1) c.loop-j.j (omega arith) c.loop-j.invariant c.if-j-i.false true (joined _ _ _ (sym c.in-Some.is ∙ c.link_of-link.ensures.weight_value)) _
          c.link_of-link.ensures.row_value refl,
    )

pub overflow_sub-q : goal.overflow_sub-q
overflow_sub-q c =
    omega (
      arith,
      writing-room c.requires (c.loop-j.j - 1) c.loop-j.j (omega arith) c.loop-j.invariant c.if-j-i.false true (joined _ _ _ (sym c.in-Some.is ∙ c.link_of-link.ensures.weight_value)) _
          c.link_of-link.ensures.row_value refl,
    )

pub offset_bounds-weights-q : goal.offset_bounds-weights-q
offset_bounds-weights-q c =
    omega (
      arith,
      writing-room c.requires (c.loop-j.j - 1) c.loop-j.j (omega arith) c.loop-j.invariant c.if-j-i.false true (joined _ _ _ (sym c.in-Some.is ∙ c.link_of-link.ensures.weight_value)) _
          c.link_of-link.ensures.row_value refl,
    )

pub bounds-weights-q : goal.bounds-weights-q
bounds-weights-q c =
    omega (
      arith,
      writing-room c.requires (c.loop-j.j - 1) c.loop-j.j (omega arith) c.loop-j.invariant c.if-j-i.false true (joined _ _ _ (sym c.in-Some.is ∙ c.link_of-link.ensures.weight_value)) _
          c.link_of-link.ensures.row_value refl,
    )

pub overflow_cast-indices : goal.overflow_cast-indices
overflow_cast-indices c =
    omega (arith, c.requires.frame, c.loop-j.invariant.within)

pub offset_bounds-indices-q : goal.offset_bounds-indices-q
offset_bounds-indices-q c =
    omega (
      arith,
      writing-room c.requires (c.loop-j.j - 1) c.loop-j.j (omega arith) c.loop-j.invariant c.if-j-i.false true (joined _ _ _ (sym c.in-Some.is ∙ c.link_of-link.ensures.weight_value)) _
          c.link_of-link.ensures.row_value refl,
    )

pub bounds-indices-q : goal.bounds-indices-q
bounds-indices-q c =
    omega (
      arith,
      writing-room c.requires (c.loop-j.j - 1) c.loop-j.j (omega arith) c.loop-j.invariant c.if-j-i.false true (joined _ _ _ (sym c.in-Some.is ∙ c.link_of-link.ensures.weight_value)) _
          c.link_of-link.ensures.row_value refl,
    )

pub loop-j-preserved : goal.loop-j-preserved
loop-j-preserved c =
    writing-next c.requires (c.loop-j.j - 1) c.loop-j.j (omega arith) c.loop-j.invariant c.if-j-i.false true (joined _ _ _ (sym c.in-Some.is ∙ c.link_of-link.ensures.weight_value)) _
    c.link_of-link.ensures.row_value refl _ _ _ refl (weighs _ _ _ (sym c.in-Some.is ∙ c.link_of-link.ensures.weight_value)) c.link_of-link.ensures.cursor_value

pub overflow_sub-m : goal.overflow_sub-m
overflow_sub-m c =
    omega (arith, writing-below c.requires (omega arith) c.loop-j.invariant)

pub held-requires : goal.held-requires
held-requires c =
    writing-held c.requires (omega arith) c.loop-j.invariant

pub offset_bounds-row_indices-i-2 : goal.offset_bounds-row_indices-i-2
offset_bounds-row_indices-i-2 c =
    omega (arith, c.requires.frame, c.requires.sizes, c.loop-j.invariant.size)

pub bounds-row_indices-i-2 : goal.bounds-row_indices-i-2
bounds-row_indices-i-2 c =
    omega (arith, c.requires.frame, c.requires.sizes, c.loop-j.invariant.size)

pub shape_of-weights : goal.shape_of-weights
shape_of-weights c =
    c.loop-j.invariant.weights.size

pub shape_of-indices : goal.shape_of-indices
shape_of-indices c =
    c.loop-j.invariant.indices.size

pub shape_of-row_indices : goal.shape_of-row_indices
shape_of-row_indices c =
    length-set c.loop-j.row_indices _ _ ∙ c.loop-j.invariant.size

pub returns : goal.returns
returns c =
    let d = writing-done c.requires (omega arith) c.loop-j.invariant _ c.held.ensures in
    record { value = d.0; weights_after = d.1; indices_after = d.2; lowered = d.3 }
