-- What the tree is worth in a run that was begun from a partner's list. Assumes nothing.
use mathlib.Core.Path.{◌≡◌, ap}
use mathlib.Core.List.{List}
use mathlib.Core.Bool.{true}
use Prim.Native.Nat.{ℕ, ◌+◌, ◌≤◌}
use lib.ListN.{length}
use Rattle.run_record.specs.declared.Settings.{Settings}
use Rattle.run_record.specs.declared.Run.{Run}
use Rattle.run_record.specs.Record.{is_tree, fresh_run}
use Rattle.tree_node.specs.declared.Node.{Node}
use Rattle.run_entry.specs.State.{State}
use Rattle.descent.specs.Descent.{works, told_all}
use Rattle.std.specs.Prelude.{Ok}
use Rattle.partner_import.specs.Import.{Loading, import_of}
use Rattle.partnering.specs.Begun.{state_loaded}
use Rattle.partnering.proofs.Honest.{imports, what-is-loaded-is-honest}
use Rattle.worth.specs.Insertions.{insertions_in, Midway, TreeWorth}
use Rattle.worth.proofs.Reached.{works-worth}

module _ (s : Settings) (start file : List ℕ) (nodes : ℕ) (l : Loading) (r : Run) (answer : (import_of s start file nodes l).answer ≡ Ok r) (ns : List Node) (some : 1 ≤ length ns) where
  abbrev begun_from : State
  begun_from = state_loaded r (import_of s start file nodes l).areas ns

  is-tree : is_tree begun_from.run.settings.method ≡ true
  unfolding fresh_run
  is-tree = ap (λ (x : Run). is_tree x.settings.method) (imports s start file nodes l r answer).run_is

  pub imported-worth : (bs : List ℕ) → Midway begun_from.run.settings.n (begun_from.run.units + told_all bs begun_from)
      → TreeWorth begun_from.run.settings.c (insertions_in begun_from.run.settings.n (begun_from.run.units + told_all bs begun_from)) (works bs begun_from)
  imported-worth bs = works-worth begun_from (what-is-loaded-is-honest s start file nodes l r answer ns some) is-tree bs
