-- `run_entry::fault_at` meets its contract: by `early-axes`, `early-asked`, `early-unasked`.
use mathlib.Core.Path.{refl, sym, ◌∙◌}
use Rattle.std.proofs.lemmas.Result.{err_from_is_err_and}
use Rattle.run_entry.proofs.Early.{early-axes, early-asked, early-unasked, asks-inside, asks-between, asks-exact, asks-faulty}
use Rattle.run_entry.proofs.fault_at.Goals as goal
use Rattle.run_entry.proofs.fault_at.Goals.{else-is_tree-via-then-is_tree+else-r-ne0, else-is_tree-via-else-is_tree}

pub returns-in_err-early_fault : goal.returns-in_err-early_fault
returns-in_err-early_fault c =
    let p = err_from_is_err_and c.from_residual.result c.from_residual.ensures.1 in
    rw (p.1, p.2) (early-unasked c.args.r _ _ _ _ _ _ _ c.args.cells.now _ c.in_err-early_fault.ensures (asks-faulty _ _))

pub tree_ok-requires : goal.tree_ok-requires
tree_ok-requires c =
    early-axes c.args.r _ _ _ _ _ _ _ c.args.cells.now _ c.in_ok-early_fault.ensures (asks-inside _ (sym c.is_tree.ensures ∙ c.if-is_tree.true) c.if-r-ne0.true)

pub returns-in_err-tree_ok : goal.returns-in_err-tree_ok
returns-in_err-tree_ok c =
    let p = err_from_is_err_and c.from_residual-in_err-tree_ok.result c.from_residual-in_err-tree_ok.ensures.1 in
    rw (p.1, p.2) (early-asked c.args.r _ _ _ _ _ _ _ c.args.cells.now _ c.in_ok-early_fault.ensures (asks-inside _ (sym c.is_tree.ensures ∙ c.if-is_tree.true) c.if-r-ne0.true)
    _ c.in_err-tree_ok.ensures _ refl)

pub returns-in_ok-tree_ok : goal.returns-in_ok-tree_ok
returns-in_ok-tree_ok c =
    early-asked c.args.r _ _ _ _ _ _ _ c.args.cells.now _ c.in_ok-early_fault.ensures (asks-inside _ (sym c.is_tree.ensures ∙ c.if-is_tree.true) c.if-r-ne0.true)
    _ c.in_ok-tree_ok.ensures _ refl

pub returns-else-is_tree : goal.returns-else-is_tree
returns-else-is_tree c = elim c.else-is_tree.branch [
  | else-is_tree-via-then-is_tree+else-r-ne0 w ↦ early-unasked c.args.r _ _ _ _ _ _ _ c.args.cells.now _ c.in_ok-early_fault.ensures (asks-between _ w.if-r-ne0.false)
  | else-is_tree-via-else-is_tree w ↦ early-unasked c.args.r _ _ _ _ _ _ _ c.args.cells.now _ c.in_ok-early_fault.ensures (asks-exact _ (sym c.is_tree.ensures ∙ w.if-is_tree.false))
]
