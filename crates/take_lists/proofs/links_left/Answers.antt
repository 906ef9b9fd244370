use Rattle.take_gone.proofs.Next.{abreast-start, abreast-room, abreast-pass, abreast-next}
use Rattle.take_lists.proofs.Counting.{tallies-start, tallies-pass, tallies-inside, tallies-room, tallies-next, tallies-done}
use mathlib.Core.Path.{◌≡◌, refl, sym, ◌∙◌}
use Prim.Native.Nat.{ℕ, ◌+◌}
use native.Mathlib.Omega.{arith}
use Rattle.laws.specs.Area.{num}
use Rattle.take_lists.proofs.links_left.Goals as goal

same : (x : ℕ) → x ≡ x
same x = refl

pub loop-j-init : goal.loop-j-init
loop-j-init c =
    (tallies-start c.requires.2, abreast-start c.requires.1)

pub overflow_cast-j : goal.overflow_cast-j
overflow_cast-j c =
    omega (arith, c.requires.0, c.loop-j-test.true)

pub is_next-requires : goal.is_next-requires
is_next-requires c =
    c.loop-j.invariant.1

pub overflow_add-g : goal.overflow_add-g
overflow_add-g c =
    omega (arith, abreast-room c.loop-j.invariant.1 (sym c.is_next.ensures ∙ c.if-is_next.true))

pub loop-j-preserved-then-is_next : goal.loop-j-preserved-then-is_next
loop-j-preserved-then-is_next c =
    let found = sym c.is_next.ensures ∙ c.if-is_next.true in
    (tallies-pass c.requires.2 c.loop-j-test.true c.loop-j.invariant.0 (sym found), abreast-pass c.loop-j.invariant.1 found)

pub offset_bounds-offsets-j : goal.offset_bounds-offsets-j
offset_bounds-offsets-j c =
    omega (arith, c.requires.2.offsets-long, c.loop-j-test.true)

pub bounds-offsets-j : goal.bounds-offsets-j
bounds-offsets-j c =
    omega (arith, c.requires.2.offsets-long, c.loop-j-test.true)

pub overflow_add-j : goal.overflow_add-j
overflow_add-j c =
    omega (arith, c.requires.0, c.loop-j-test.true)

pub offset_bounds-offsets-j-in-loop-j : goal.offset_bounds-offsets-j-in-loop-j
offset_bounds-offsets-j-in-loop-j c =
    omega (arith, c.requires.2.offsets-long, c.loop-j-test.true)

pub bounds-offsets-j-in-loop-j : goal.bounds-offsets-j-in-loop-j
bounds-offsets-j-in-loop-j c =
    omega (arith, c.requires.2.offsets-long, c.loop-j-test.true)

pub overflow_sub-offsets : goal.overflow_sub-offsets
overflow_sub-offsets c =
    omega (arith, (same (num c.args.offsets.now c.loop-j.j)), (same (num c.args.offsets.now (c.loop-j.j + 1))), c.requires.2.offsets-rise c.loop-j.j c.loop-j-test.true)

pub list_left-c-requires : goal.list_left-c-requires
list_left-c-requires c =
    (c.requires.1, omega (arith, tallies-inside c.requires.2 c.loop-j-test.true c.loop-j.invariant.0 (same (num c.args.offsets.now c.loop-j.j)) (same (num c.args.offsets.now (c.loop-j.j + 1)))))

pub overflow_add-c : goal.overflow_add-c
overflow_add-c c =
    omega (
      arith,
      tallies-room c.requires.2 c.loop-j-test.true c.loop-j.invariant.0 (same (num c.args.offsets.now c.loop-j.j)) (same (num c.args.offsets.now (c.loop-j.j + 1))) c.list_left-c.ensures,
      c.type_inv.offsets (c.loop-j.j + 1),
    )

pub loop-j-preserved : goal.loop-j-preserved
loop-j-preserved c =
    let no = sym c.is_next.ensures ∙ c.if-is_next.false in (
      tallies-next c.requires.2 c.loop-j-test.true c.loop-j.invariant.0 (same (num c.args.offsets.now c.loop-j.j)) (same (num c.args.offsets.now (c.loop-j.j + 1))) c.list_left-c.ensures (sym no),
      abreast-next
          c.loop-j.invariant.1 no,
    )

pub returns : goal.returns
returns c =
    tallies-done c.requires.2 c.requires.3 c.loop-j-test.false c.loop-j.invariant.0
