-- `sigma::weights::halvings` meets its contract: a quotient below 0 by its double, and one that is 0. Assumes nothing.
use mathlib.Core.Path.{sym, ap, ◌∙◌}
use lib.IntN.{nat_abs}
use lib.Ieee.{binary64, div}
use lib.Ieee.Fits.{div-fits}
use Rattle.elementary.specs.Exp.{ln2}
use Rattle.elementary.proofs.Near.{near-neg, near-pos}
use Rattle.affinity_sigma.proofs.Blocks.{reach-quotient, reach-none, minus-size}
use Rattle.affinity_sigma.proofs.Whole.{twice-whole}
use Rattle.affinity_sigma.proofs.weights.halvings.Goals as goal

pub half_up-requires : goal.half_up-requires
half_up-requires c =
    twice-whole (div binary64 c.args.x ln2) c.if-q.true (reach-quotient c.args.x c.requires)

pub returns-then-q : goal.returns-then-q
returns-then-q c =
    let r = near-neg (div binary64 c.args.x ln2) (div-fits binary64 c.args.x ln2) (reach-quotient c.args.x c.requires)
    c.if-q.true in
    c.half_up.ensures ∙ r.2.whole ∙ sym (ap nat_abs r.1 ∙ minus-size r.0)

pub returns : goal.returns
returns c =
    let r = near-pos (div binary64 c.args.x ln2) (div-fits binary64 c.args.x ln2) (reach-quotient c.args.x c.requires)
    c.if-q.false in
    reach-none c.args.x r.0 c.requires r.1
