use mathlib.Core.Path.{◌≡◌, subst}
use Prim.Native.Nat.{ℕ, ◌<◌, ◌≤◌}
use Rattle.partner.specs.Partner.{whole_links, link_from}
use Rattle.partner_load.proofs.Counted.{starts-below-next}
use native.Mathlib.Omega.{arith}
use Rattle.partner_load.proofs.list_from.Goals as goal

pub loop-p-init : goal.loop-p-init
loop-p-init c =
    (omega arith, c.requires, λ t l m. absurd (omega arith))

pub returns-then-j-link_from : goal.returns-then-j-link_from
returns-then-j-link_from c =
    (c.loop-p.invariant.0, c.loop-p.invariant.1, c.loop-p.invariant.2, λ l. omega (arith, c.if-j-link_from.true, c.link_from.ensures.0))

pub loop-p-preserved : goal.loop-p-preserved
loop-p-preserved c = (
  omega (arith, c.loop-p.invariant.0),
  omega (arith, c.loop-p-test.true),
  starts-below-next _ c.loop-p.invariant.2
      (omega (arith, c.if-j-link_from.false, c.link_from.ensures.0)),
)

pub returns : goal.returns
returns c =
    let e : c.loop-p.p ≡ whole_links c.args.file.now = omega (arith, c.loop-p.invariant.1) in
    (c.requires, omega arith, subst (λ (x : ℕ). (t : ℕ) → c.args.a ≤ t → t < x → link_from c.args.file.now t < c.args.j) e c.loop-p.invariant.2, λ l. absurd (omega arith))
