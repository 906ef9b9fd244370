-- `affinity_links::joint` meets its contract: `plus` twice. Assumes nothing.
use mathlib.Core.Path.{ap, ◌∙◌}
use Rattle.affinity_links.specs.Links.{plus_fallen}
use Rattle.affinity_links.proofs.joint.Goals as goal

pub plus-v-requires : goal.plus-v-requires
plus-v-requires c =
    c.requires.0

pub plus-requires : goal.plus-requires
plus-requires c =
    c.requires.1

pub returns : goal.returns
returns c =
    c.plus.ensures ∙ ap (plus_fallen c.args.values.now c.args.b c.args.c c.args.r) c.plus-v.ensures
