-- `affinity_links::link_below` meets its contract: both cursors fall, `joint` adds the shares. Assumes nothing.
use mathlib.Core.Path.{◌≡◌, refl, sym, ap, ◌∙◌}
use borrow.Author.Tests.{lt-ltb, le-ltb}
use Prim.Native.Nat.{ℕ}
use mathlib.Core.Bool.{Bool}
use lib.Dec.{ltb}
use lib.Ieee.{Float}
use Rattle.std.specs.Bool.{then_some}
use Rattle.affinity_links.proofs.Search.{within_low}
use native.Mathlib.Omega.{arith}
use Rattle.affinity_links.proofs.link_below.Goals as goal
use Rattle.affinity_links.proofs.link_below.Goals.{then-r-c, else-r-c}

both : {a b : Bool} {v w : Float} → a ≡ b → v ≡ w → then_some a v ≡ then_some b w
both e f = rw (e, f) refl

pub overflow_mul-i : goal.overflow_mul-i
overflow_mul-i c =
    omega (arith, c.requires.2.0.inside)

pub overflow_cast-j : goal.overflow_cast-j
overflow_cast-j c =
    omega (arith, c.requires.1)

pub fallen-r-requires : goal.fallen-r-requires
fallen-r-requires c =
    (c.requires.1, c.requires.2.0)

pub overflow_mul-j : goal.overflow_mul-j
overflow_mul-j c =
    omega (arith, c.requires.3.0.inside)

pub overflow_cast-i : goal.overflow_cast-i
overflow_cast-i c =
    omega (arith, c.requires.0)

pub fallen-p-requires : goal.fallen-p-requires
fallen-p-requires c =
    (c.requires.0, c.requires.3.0)

pub overflow_mul-j-2 : goal.overflow_mul-j-2
overflow_mul-j-2 c =
    omega (arith, c.requires.3.0.inside)

pub overflow_mul-i-2 : goal.overflow_mul-i-2
overflow_mul-i-2 c =
    omega (arith, c.requires.2.0.inside)

pub joint-weight-requires : goal.joint-weight-requires
joint-weight-requires c = (
  λ l. omega (arith, c.requires.3.1, within_low c.args.i c.requires.3.0 c.fallen-p.ensures l),
  λ l. omega
      (arith, c.requires.2.1, within_low c.args.j c.requires.2.0 c.fallen-r.ensures l),
)

pub returns : goal.returns
returns c =
    record {
      weight_value = c.then_some.ensures ∙ both (elim c.if-r-c.branch [
        | then-r-c w ↦ w.then_some-is ∙ lt-ltb _ _ w.if-r-c.true ∙ sym (rw (lt-ltb _ _ (rw c.fallen-r.ensures at w.if-r-c.true)) refl)
        | else-r-c w ↦ w.then_some-is ∙ sym (rw (le-ltb _ _ (rw c.fallen-r.ensures at w.if-r-c.false)) (ap (λ (x : ℕ). ltb x c.args.w) (sym c.fallen-p.ensures)))
      ]) (rw (c.joint-weight.ensures, c.fallen-r.ensures, c.fallen-p.ensures) refl);
      row_value = c.fallen-r.ensures;
      cursor_value = c.fallen-p.ensures;
    }
