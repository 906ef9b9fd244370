-- `take_lists::pack_lists` meets its contract: the packed lists, and zeros past them. Assumes nothing.
use Rattle.take_lists.proofs.AllLists.{left-within, weights-shrunk, indices-shrunk, offsets-shrunk}
use Prim.Native.Nat.{ℕ}
use mathlib.Core.Path.{◌≡◌, refl, ◌∙◌}
use native.Mathlib.Omega.{arith}
use Rattle.laws.specs.Area.{num}
use Rattle.take_lists.proofs.pack_lists.Goals as goal

same : (x : ℕ) → x ≡ x
same x = refl

pub offset_bounds-offsets-n : goal.offset_bounds-offsets-n
offset_bounds-offsets-n c =
    omega (arith, c.requires.0)

pub bounds-offsets-n : goal.bounds-offsets-n
bounds-offsets-n c =
    omega (arith, c.requires.3.offsets-long)

pub pack_all-q-requires : goal.pack_all-q-requires
pack_all-q-requires c =
    (c.requires.0, c.requires.1, c.requires.2, c.requires.3)

pub clear_between-requires : goal.clear_between-requires
clear_between-requires c =
    let within = left-within c.args.keep.now c.args.weights.now c.args.indices.now c.args.offsets.now c.requires.1 c.requires.2 c.requires.3
    c.pack_all-q.ensures.value (same (num c.args.offsets.now c.args.n)) in
    (omega (arith, within), omega (arith, within, c.requires.3.weights-long, (same (num c.args.offsets.now c.args.n)), c.pack_all-q.auto.weights))

pub clear_between-requires-2 : goal.clear_between-requires-2
clear_between-requires-2 c =
    let within = left-within c.args.keep.now c.args.weights.now c.args.indices.now c.args.offsets.now c.requires.1 c.requires.2 c.requires.3
    c.pack_all-q.ensures.value (same (num c.args.offsets.now c.args.n)) in
    (omega (arith, within), omega (arith, within, c.requires.3.indices-long, (same (num c.args.offsets.now c.args.n)), c.pack_all-q.auto.indices))

pub overflow_add-keep : goal.overflow_add-keep
overflow_add-keep c =
    omega (arith, c.requires.0, c.requires.2.few)

pub overflow_add-n : goal.overflow_add-n
overflow_add-n c =
    omega (arith, c.requires.0)

pub clear_between-requires-3 : goal.clear_between-requires-3
clear_between-requires-3 c =
    (omega (arith, c.requires.2.few), omega (arith, c.requires.3.offsets-long, c.pack_all-q.auto.offsets))

pub shape_of-weights : goal.shape_of-weights
shape_of-weights c =
    c.clear_between.auto.area ∙ c.pack_all-q.auto.weights

pub shape_of-indices : goal.shape_of-indices
shape_of-indices c =
    c.clear_between-2.auto.area ∙ c.pack_all-q.auto.indices

pub shape_of-offsets : goal.shape_of-offsets
shape_of-offsets c =
    c.clear_between-3.auto.area ∙ c.pack_all-q.auto.offsets

pub returns : goal.returns
returns c = (
  weights-shrunk c.args.keep.now c.args.weights.now c.args.indices.now c.args.offsets.now c.requires.1 c.requires.2 c.requires.3
      c.pack_all-q.ensures.value (same (num c.args.offsets.now c.args.n)) c.pack_all-q.ensures.weights_after c.clear_between.ensures,
  indices-shrunk c.args.keep.now c.args.weights.now c.args.indices.now
      c.args.offsets.now c.requires.1 c.requires.2 c.requires.3 c.pack_all-q.ensures.value (same (num c.args.offsets.now c.args.n)) c.pack_all-q.ensures.indices_after c.clear_between-2.ensures,
  offsets-shrunk
      c.args.keep.now c.args.weights.now c.args.indices.now c.args.offsets.now c.requires.1 c.requires.2 c.requires.3 c.pack_all-q.ensures.offsets_after
      c.clear_between-3.ensures,
)
