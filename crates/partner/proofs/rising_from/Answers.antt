use mathlib.Core.Path.{◌≡◌, sym, subst, ◌∙◌}
use Prim.Native.Nat.{ℕ, ◌-◌}
use Rattle.partner.specs.Partner.{PairsRise, whole_links}
use Rattle.partner.proofs.Judged.{rise-none, rise_one, rise-next}
use native.Mathlib.Omega.{arith}
use Rattle.partner.proofs.rising_from.Goals as goal

pub returns-then-rest-eq0 : goal.returns-then-rest-eq0
returns-then-rest-eq0 c =
    (omega (arith, c.requires), rise-none _ _)

pub loop-k-init : goal.loop-k-init
loop-k-init c =
    (omega arith, omega (arith, c.requires, c.if-rest-eq0.false), rise_one _ _)

pub is_raised-requires : goal.is_raised-requires
is_raised-requires c =
    omega (arith, c.loop-k-test.true, c.requires)

pub returns-then-not-is_raised : goal.returns-then-not-is_raised
returns-then-not-is_raised c =
    (c.loop-k.invariant.1, c.loop-k.invariant.2)

pub loop-k-preserved : goal.loop-k-preserved
loop-k-preserved c = (
  omega arith,
  omega (arith, c.loop-k-test.true, c.requires),
  rise-next c.loop-k.invariant.0 c.loop-k.invariant.2
      (sym c.is_raised.ensures ∙ c.if-not-is_raised.false),
)

pub returns : goal.returns
returns c =
    let n = whole_links c.args.file.now - c.args.a in
    let e : c.loop-k.k ≡ n = omega (arith, c.loop-k.auto.k-end) in
    (omega (arith, c.requires), subst (λ (x : ℕ). PairsRise c.args.file.now c.args.a x) e c.loop-k.invariant.2)
