use lib.ListN.{length, set, length-set}
use Rattle.take_lists.proofs.AllLists.{closes-start, closes-offset, closes-frame, closes-room, closes-next, closes-done}
use Prim.Native.Nat.{ℕ, ◌+◌}
use mathlib.Core.Path.{◌≡◌, refl, ap, ◌∙◌}
use native.Mathlib.Omega.{arith}
use Rattle.laws.specs.Area.{num}
use Rattle.take_lists.proofs.pack_all.Goals as goal

same : (x : ℕ) → x ≡ x
same x = refl

pub loop-i-init : goal.loop-i-init
loop-i-init c =
    (closes-start c.requires.1 c.requires.2 c.requires.3, λ k. (c.type_inv.offsets k).fits)

pub offset_bounds-offsets-j : goal.offset_bounds-offsets-j
offset_bounds-offsets-j c =
    omega (arith, closes-frame c.requires.1 c.requires.2 c.requires.3 c.loop-i.invariant.0 c.loop-i-test.true (same (num c.args.keep.now c.loop-i.i)))

pub bounds-offsets-j : goal.bounds-offsets-j
bounds-offsets-j c =
    omega (arith, closes-frame c.requires.1 c.requires.2 c.requires.3 c.loop-i.invariant.0 c.loop-i-test.true (same (num c.args.keep.now c.loop-i.i)))

pub offset_bounds-offsets-j-in-loop-i : goal.offset_bounds-offsets-j-in-loop-i
offset_bounds-offsets-j-in-loop-i c =
    omega (arith, closes-frame c.requires.1 c.requires.2 c.requires.3 c.loop-i.invariant.0 c.loop-i-test.true (same (num c.args.keep.now c.loop-i.i)))

pub bounds-offsets-j-in-loop-i : goal.bounds-offsets-j-in-loop-i
bounds-offsets-j-in-loop-i c =
    omega (arith, closes-frame c.requires.1 c.requires.2 c.requires.3 c.loop-i.invariant.0 c.loop-i-test.true (same (num c.args.keep.now c.loop-i.i)))

pub overflow_sub-k : goal.overflow_sub-k
overflow_sub-k c =
    omega (
      arith,
      closes-room c.requires.1 c.requires.2 c.requires.3 c.loop-i.invariant.0 c.loop-i-test.true
          (same (num c.args.keep.now c.loop-i.i)) (same (num c.loop-i.offsets (num c.args.keep.now c.loop-i.i))) (same (num c.loop-i.offsets (num c.args.keep.now c.loop-i.i + 1))),
    )

pub overflow_cast-offsets : goal.overflow_cast-offsets
overflow_cast-offsets c =
    omega (arith, closes-offset c.requires.1 c.requires.2 c.requires.3 c.loop-i.invariant.0, c.loop-i.invariant.1 c.args.n)

pub offset_bounds-offsets-i : goal.offset_bounds-offsets-i
offset_bounds-offsets-i c =
    omega (arith, closes-offset c.requires.1 c.requires.2 c.requires.3 c.loop-i.invariant.0)

pub bounds-offsets-i : goal.bounds-offsets-i
bounds-offsets-i c =
    omega (arith, closes-offset c.requires.1 c.requires.2 c.requires.3 c.loop-i.invariant.0)

pub pack_list-q-requires : goal.pack_list-q-requires
pack_list-q-requires c =
    let room = closes-room c.requires.1 c.requires.2 c.requires.3 c.loop-i.invariant.0 c.loop-i-test.true
    (same (num c.args.keep.now c.loop-i.i)) (same (num c.loop-i.offsets (num c.args.keep.now c.loop-i.i))) (same (num c.loop-i.offsets (num c.args.keep.now c.loop-i.i + 1))) in
    (c.requires.1, omega (arith, c.requires.0, c.requires.2.few), omega (arith, room), omega (arith, room), omega (arith, room))

pub loop-i-preserved : goal.loop-i-preserved
loop-i-preserved c = (
  closes-next c.requires.1 c.requires.2 c.requires.3 c.loop-i.invariant.0 c.loop-i-test.true
      (same (num c.args.keep.now c.loop-i.i)) (same (num c.loop-i.offsets (num c.args.keep.now c.loop-i.i))) (same (num c.loop-i.offsets (num c.args.keep.now c.loop-i.i + 1)))
      c.pack_list-q.ensures.value
      c.pack_list-q.ensures.weights_after c.pack_list-q.ensures.indices_after c.pack_list-q.auto.weights c.pack_list-q.auto.indices,
  c.loop-i.invariant.1,
)

pub overflow_cast-offsets-2 : goal.overflow_cast-offsets-2
overflow_cast-offsets-2 c =
    omega (arith, closes-offset c.requires.1 c.requires.2 c.requires.3 c.loop-i.invariant.0, c.loop-i.invariant.1 c.args.n)

pub offset_bounds-offsets-keep : goal.offset_bounds-offsets-keep
offset_bounds-offsets-keep c =
    omega (arith, closes-offset c.requires.1 c.requires.2 c.requires.3 c.loop-i.invariant.0, c.loop-i-test.false)

pub bounds-offsets-keep : goal.bounds-offsets-keep
bounds-offsets-keep c =
    omega (arith, closes-offset c.requires.1 c.requires.2 c.requires.3 c.loop-i.invariant.0, c.loop-i-test.false)

pub shape_of-weights : goal.shape_of-weights
shape_of-weights c =
    c.loop-i.invariant.0.weights.size

pub shape_of-indices : goal.shape_of-indices
shape_of-indices c =
    c.loop-i.invariant.0.indices.size

pub shape_of-offsets : goal.shape_of-offsets
shape_of-offsets c =
    length-set c.loop-i.offsets _ _ ∙ c.loop-i.invariant.0.offsets.size

pub returns : goal.returns
returns c =
    let d = closes-done c.requires.1 c.requires.2 c.requires.3 c.loop-i.invariant.0 c.loop-i-test.false in
    let end : length c.args.keep.now ≡ c.loop-i.i = omega (arith, c.loop-i.auto.i-end, c.loop-i-test.false) in
    record { value = d.0; weights_after = d.1; indices_after = d.2; offsets_after = ap (λ (x : ℕ). set c.loop-i.offsets x c.loop-i.q) end ∙ d.3 }
