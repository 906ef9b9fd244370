use Rattle.take_gone.proofs.Next.{abreast-start, abreast-room, abreast-pass, abreast-next}
use Rattle.take_gone.specs.Gone.{survivors}
use Rattle.take_calm.proofs.Over.{sums-left-start, sums-left-pass, sums-left-next, sums-left-done, sum_over}
use Rattle.take_gone.proofs.Left.{survivors-few}
use Rattle.laws.proofs.Numbers.{row_in}
use Rattle.laws.specs.Area.{at}
use lib.Ieee.{Float, in_float, binary64, of_int, div}
use lib.IntN.{pos}
use lib.Dec.{le→leb}
use mathlib.Core.Path.{sym, ap, ◌∙◌}
use Prim.Native.Nat.{ℕ, ◌+◌, ◌*◌, ◌^◌}
use native.Mathlib.Omega.{arith}
use Rattle.take_calm.proofs.mean_left.Goals as goal

pub loop-j-init : goal.loop-j-init
loop-j-init c =
    (sums-left-start, abreast-start c.requires.3)

pub overflow_cast-j : goal.overflow_cast-j
overflow_cast-j c =
    omega (arith, c.requires.0, c.loop-j-test.true)

pub is_next-requires : goal.is_next-requires
is_next-requires c =
    c.loop-j.invariant.1

pub overflow_add-g : goal.overflow_add-g
overflow_add-g c =
    omega (arith, abreast-room c.loop-j.invariant.1 (sym c.is_next.ensures ∙ c.if-is_next.true))

pub loop-j-preserved-then-is_next : goal.loop-j-preserved-then-is_next
loop-j-preserved-then-is_next c = (
  sums-left-pass c.loop-j.invariant.0 c.loop-j-test.true (sym c.is_next.ensures ∙ c.if-is_next.true),
  abreast-pass c.loop-j.invariant.1
      (sym c.is_next.ensures ∙ c.if-is_next.true),
)

pub overflow_mul-s : goal.overflow_mul-s
overflow_mul-s c =
    omega (arith, row_in c.loop-j.j c.args.n c.args.c _ c.loop-j-test.true c.requires.2, c.requires.1)

pub overflow_add-s : goal.overflow_add-s
overflow_add-s c =
    omega (arith, row_in c.loop-j.j c.args.n c.args.c _ c.loop-j-test.true c.requires.2, c.requires.1)

pub offset_bounds-positions-j : goal.offset_bounds-positions-j
offset_bounds-positions-j c =
    omega (arith, row_in c.loop-j.j c.args.n c.args.c _ c.loop-j-test.true c.requires.2, c.requires.1)

pub bounds-positions-j : goal.bounds-positions-j
bounds-positions-j c =
    omega (arith, row_in c.loop-j.j c.args.n c.args.c _ c.loop-j-test.true c.requires.2, c.requires.1)

pub loop-j-preserved : goal.loop-j-preserved
loop-j-preserved c = (
  sums-left-next c.loop-j.invariant.0 c.loop-j-test.true (sym c.is_next.ensures ∙ c.if-is_next.false),
  abreast-next c.loop-j.invariant.1
      (sym c.is_next.ensures ∙ c.if-is_next.false),
)

pub int_to_float-result : goal.int_to_float-result
unfolding in_float
int_to_float-result c =
    le→leb c.args.m (2 ^ 53) (omega (arith, c.requires.0, c.requires.4, survivors-few c.args.gone.now c.args.n))

pub returns : goal.returns
returns c =
    ap (λ (x : Float). div binary64 x (of_int binary64 (pos c.args.m))) (sums-left-done c.loop-j.invariant.0 c.loop-j-test.false) ∙ ap
    (λ (k : ℕ). div binary64
    (sum_over (λ i. at c.args.positions.now (i * c.args.c + c.args.d))
    (survivors c.args.gone.now c.args.n)) (of_int binary64 (pos k))) c.requires.4
