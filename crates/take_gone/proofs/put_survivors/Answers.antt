use Rattle.take_gone.proofs.Next.{abreast-start, abreast-room, abreast-pass, abreast-next}
use Rattle.take_gone.proofs.Left.{surviving-start, surviving-room, surviving-pass, surviving-next, surviving-done}
use mathlib.Core.Path.{sym, ◌∙◌}
use native.Mathlib.Omega.{arith}
use Rattle.take_gone.proofs.put_survivors.Goals as goal

pub loop-j-init : goal.loop-j-init
loop-j-init c =
    (surviving-start, abreast-start c.requires.2)

pub overflow_cast-j : goal.overflow_cast-j
overflow_cast-j c =
    omega (arith, c.requires.0, c.loop-j-test.true)

pub is_next-requires : goal.is_next-requires
is_next-requires c =
    c.loop-j.invariant.1

pub overflow_add-g : goal.overflow_add-g
overflow_add-g c =
    let the-loop = c.loop-j in
    omega (arith, abreast-room the-loop.invariant.1 (sym c.is_next.ensures ∙ c.if-is_next.true))

pub loop-j-preserved-then-is_next : goal.loop-j-preserved-then-is_next
loop-j-preserved-then-is_next c =
    let the-loop-test = c.loop-j-test in
    let the-loop = c.loop-j in (
      surviving-pass the-loop.invariant.0 the-loop-test.true (sym c.is_next.ensures ∙ c.if-is_next.true),
      abreast-pass the-loop.invariant.1
          (sym c.is_next.ensures ∙ c.if-is_next.true),
    )

pub overflow_cast-old : goal.overflow_cast-old
overflow_cast-old c =
    let the-loop-test = c.loop-j-test in
    omega (arith, c.requires.0, the-loop-test.true)

pub offset_bounds-old-q : goal.offset_bounds-old-q
offset_bounds-old-q c =
    let the-loop-test = c.loop-j-test in
    let the-loop = c.loop-j in
    omega (arith, surviving-room the-loop.invariant.0 the-loop-test.true c.requires.1, the-loop.invariant.0.front.size)

pub bounds-old-q : goal.bounds-old-q
bounds-old-q c =
    let the-loop-test = c.loop-j-test in
    let the-loop = c.loop-j in
    omega (arith, surviving-room the-loop.invariant.0 the-loop-test.true c.requires.1, the-loop.invariant.0.front.size)

pub overflow_add-q : goal.overflow_add-q
overflow_add-q c =
    let the-loop-test = c.loop-j-test in
    let the-loop = c.loop-j in
    omega (arith, surviving-room the-loop.invariant.0 the-loop-test.true c.requires.1, the-loop.invariant.0.front.size)

pub loop-j-preserved : goal.loop-j-preserved
loop-j-preserved c =
    let the-loop-test = c.loop-j-test in
    let the-loop = c.loop-j in (
      surviving-next the-loop.invariant.0 the-loop-test.true c.requires.1 (sym c.is_next.ensures ∙ c.if-is_next.false),
      abreast-next
          the-loop.invariant.1 (sym c.is_next.ensures ∙ c.if-is_next.false),
    )

pub shape_of-old : goal.shape_of-old
shape_of-old c =
    c.loop-j.invariant.0.front.size

pub returns : goal.returns
returns c =
    let told = surviving-done c.loop-j.invariant.0 c.loop-j-test.false in
    record { value = told.0; after = told.1 }
