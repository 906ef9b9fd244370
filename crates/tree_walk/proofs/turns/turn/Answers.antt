-- `tree_walk::turns::turn` meets its contract: by the kind of the cell (`Turned`).
use mathlib.Core.Path.{◌≡◌, sym, ap, ◌∙◌}
use native.Mathlib.Omega.{arith}
use Rattle.tree_bodies.specs.Bodies.{role_number}
use Rattle.tree_walk.specs.Turn.{seen_as}
use Rattle.tree_walk.proofs.Shift.{shl-32, few-32}
use Rattle.tree_walk.proofs.Turned.{turned-past, turned-body, turned-open}
use Rattle.tree_walk.proofs.turns.turn.Goals as goal

pub kind-requires : goal.kind-requires
kind-requires c = omega arith

pub body-requires : goal.body-requires
body-requires c = omega arith

pub returns-in-Nothing : goal.returns-in-Nothing
returns-in-Nothing c =
    let k : seen_as c.args.eye c.args.v ≡ 0 = rw c.requires.1 (sym (rw c.from-n.ensures at c.kind.ensures) ∙ ap role_number c.in-Nothing.is) in
    turned-past c.args.levels _ _ _ _ _ k c.onward.ensures

pub returns-in-Body : goal.returns-in-Body
returns-in-Body c =
    let k : seen_as c.args.eye c.args.v ≡ 1 = rw c.requires.1 (sym (rw c.from-n.ensures at c.kind.ensures) ∙ ap role_number c.in-Body.is) in
    turned-body c.args.levels _ _ _ _ _ k (rw c.requires.1 (c.onward-in-Body.ensures ∙ rw (c.body.ensures, c.from-n.ensures)))

pub overflow_add-v : goal.overflow_add-v
overflow_add-v c =
    let most = rw c.requires.1 at c.requires.4 in
    rw (shl-32 c.args.c (few-32 c.args.c (omega arith))) (record { fits = omega (arith, most) })

pub returns-in-Open : goal.returns-in-Open
returns-in-Open c =
    let k : seen_as c.args.eye c.args.v ≡ 2 = rw c.requires.1 (sym (rw c.from-n.ensures at c.kind.ensures) ∙ ap role_number c.in-Open.is) in
    let width = shl-32 c.args.c (few-32 c.args.c (omega arith)) in
    turned-open c.args.levels _ _ _ _ _ _ (λ e. omega (arith, k, e)) (λ e. omega (arith, k, e)) (rw c.requires.1 (rw width at c.opened.ensures.0)) c.opened.ensures.1
