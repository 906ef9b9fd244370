-- `run_entry::early_fault` meets its contract: by `record-fine`, `areas-fine`.
use mathlib.Core.Path.{sym, ap, ◌∙◌}
use Rattle.std.proofs.lemmas.Result.{err_from_is_err_and}
use Rattle.run_entry.specs.Entry.{fault_before_tree, is_fine}
use Rattle.run_entry.proofs.Laws.{record-fine, areas-fine}
use Rattle.run_entry.proofs.early_fault.Goals as goal

pub returns-in_err-record_fault : goal.returns-in_err-record_fault
unfolding fault_before_tree
returns-in_err-record_fault c =
    let p = err_from_is_err_and c.from_residual.result c.from_residual.ensures.1 in
    rw (p.1, p.2, sym c.in_err-record_fault.ensures)

pub areas_fit-requires : goal.areas_fit-requires
areas_fit-requires c = (record-fine _ (ap is_fine (sym c.in_ok-record_fault.ensures))).0

pub returns-then-not-areas_fit : goal.returns-then-not-areas_fit
unfolding fault_before_tree
returns-then-not-areas_fit c = rw (sym c.in_ok-record_fault.ensures, sym c.areas_fit.ensures ∙ c.if-not-areas_fit.true)

pub returns-then-not-is_tree : goal.returns-then-not-is_tree
unfolding fault_before_tree
returns-then-not-is_tree c =
    rw (sym c.in_ok-record_fault.ensures, sym c.areas_fit.ensures ∙ c.if-not-areas_fit.false, sym c.is_tree.ensures ∙ c.if-not-is_tree.true)

pub lists_fault-requires : goal.lists_fault-requires
lists_fault-requires c =
    let t = sym c.is_tree.ensures ∙ c.if-not-is_tree.false in
    let g = (areas-fine _ _ _ _ _ _ _ _ _ (sym c.areas_fit.ensures ∙ c.if-not-areas_fit.false)).tree-long t in
    record {
      settings-good = (record-fine _ (ap is_fine (sym c.in_ok-record_fault.ensures))).0;
      barnes-hut = t;
      x-long = g.indices-most;
      o-long = g.offsets-most;
    }

pub returns : goal.returns
unfolding fault_before_tree
returns c =
    rw (sym c.in_ok-record_fault.ensures, sym c.areas_fit.ensures ∙ c.if-not-areas_fit.false, sym c.is_tree.ensures ∙ c.if-not-is_tree.false) c.lists_fault.ensures
