-- `tree::wellformed::tree_ok` meets its contract: the first node that breaks the rule is the lowest one.
use mathlib.Core.Path.{sym, ap, ◌∙◌}
use Rattle.std.specs.declared.result.Result.TheVariants.{Err}
use native.Mathlib.Omega.{arith}
use Rattle.laws.proofs.First.{seek-start, seek-next}
use Rattle.tree_node.specs.Arena.{nodes_of}
use Rattle.tree.specs.Insert.{tree}
use Rattle.tree.proofs.Tested.{none-used, too_many, a-fault, no-fault, past-named, among-named, among-cells}
use Rattle.tree.proofs.wellformed.tree_ok.Goals as goal
use Rattle.tree.proofs.wellformed.tree_ok.Goals.{then-used-eq0-via-then-used-eq0, then-used-eq0-via-else-used-eq0+then-used-nameable_of}

pub returns-then-used-eq0 : goal.returns-then-used-eq0
returns-then-used-eq0 c =
    elim c.then-used-eq0.branch [
      | then-used-eq0-via-then-used-eq0 w ↦ none-used c.args.n c.args.c (tree c.args.used (nodes_of c.args.cells.now)) w.if-used-eq0.true
      | then-used-eq0-via-else-used-eq0+then-used-nameable_of w ↦
          too_many c.args.n c.args.c (tree c.args.used (nodes_of c.args.cells.now)) w.if-used-eq0.false
          (past-named c.args.cells.now c.args.used w.nameable_of.result w.nameable_of.ensures w.if-used-nameable_of.true)
    ]

pub load-v-requires : goal.load-v-requires
load-v-requires c = omega (arith, among-cells c.args.cells.now c.args.used c.nameable_of.result c.nameable_of.ensures c.if-used-nameable_of.false)

pub returns-then-not-node_ok : goal.returns-then-not-node_ok
returns-then-not-node_ok c =
    ap Err c.fault.ensures
    ∙ rw c.load-v.ensures (a-fault c.args.n c.args.c (tree c.args.used (nodes_of c.args.cells.now)) c.if-used-eq0.false
    (among-named c.args.cells.now c.args.used c.nameable_of.result c.nameable_of.ensures c.if-used-nameable_of.false)
    c.loop-i.i c.loop-i.invariant c.loop-i-test.true
    (rw (← c.load-v.ensures) (sym c.node_ok.ensures ∙ c.if-not-node_ok.true)))

pub loop-i-init : goal.loop-i-init
loop-i-init c = seek-start _ c.args.used

pub loop-i-preserved : goal.loop-i-preserved
loop-i-preserved c = seek-next c.loop-i.invariant c.loop-i-test.true (rw (← c.load-v.ensures) (rw (sym c.node_ok.ensures ∙ c.if-not-node_ok.false)))

pub returns : goal.returns
returns c =
    no-fault c.args.n c.args.c (tree c.args.used (nodes_of c.args.cells.now)) c.if-used-eq0.false
    (among-named c.args.cells.now c.args.used c.nameable_of.result c.nameable_of.ensures c.if-used-nameable_of.false)
    c.loop-i.i c.loop-i.invariant (omega arith)
