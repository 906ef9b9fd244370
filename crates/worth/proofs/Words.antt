-- What the tree is worth after any calls that a host makes, with the record as words; and of a run that was read from a file. Assumes nothing.
--     host-worth            from words that say an honest state
--     host-begun-worth      from what preparation left: the insertions are taken from the units that the answers told
--     read-worth            of a run that was read from a file
use mathlib.Core.Path.{◌≡◌, sym, ap, subst, ◌∙◌}
use mathlib.Core.List.{List}
use mathlib.Core.Bool.{true}
use Prim.Native.Nat.{ℕ, ◌+◌, ◌≤◌}
use lib.ListN.{length}
use lib.Ieee.{Float}
use native.Mathlib.Nat.{zero-add}
use Rattle.tree_node.specs.declared.Cell.{Cell}
use Rattle.tree_node.specs.declared.Node.{Node}
use Rattle.run_record.specs.declared.Settings.{Settings}
use Rattle.run_record.specs.declared.Run.{Run}
use Rattle.run_record.specs.Record.{is_tree, fresh_run}
use Rattle.run_entry.specs.State.{State}
use Rattle.descent.specs.Descent.{works, told_all}
use Rattle.descent.specs.Honest.{Honest}
use Rattle.prepare.specs.Prepare.{Lent}
use Rattle.record_words.specs.RecordWords.{settings_of}
use Rattle.parked.specs.Parked.{Stored}
use Rattle.std.specs.Prelude.{Ok}
use Rattle.unpark.specs.Unpark.{settings_read, unpark_of}
use Rattle.little.specs.Little.{word_in}
use Rattle.parking.specs.Held.{state_in}
use Rattle.resumed.proofs.Honest.{what-is-read-is-honest}
use Rattle.desk_prepare.specs.HostPrepare.{host_prepare}
use Rattle.desk_work.specs.HostWork.{HostWorked}
use Rattle.desk_demands.specs.HostCalls.{host_state, host_works, host_told}
use Rattle.desk_demands.proofs.Theorems.{Readable, works-state, told_is, host_begun, begun-readable, host-begun-honest, begun_fresh}
use Rattle.worth.specs.Insertions.{insertions_in, Midway, TreeWorth}
use Rattle.worth.proofs.Reached.{works-worth}

module _ (h : HostWorked) (g : Readable h) (honest : Honest (host_state h)) (tree : is_tree (host_state h).run.settings.method ≡ true) (bs : List ℕ) where
  abbrev S : Settings
  S = (host_state h).run.settings

  abbrev done : ℕ
  done = (host_state h).run.units + host_told bs h

  pub host-worth : Midway S.n done → TreeWorth S.c (insertions_in S.n done) (host_state (host_works bs h))
  host-worth = subst (λ (t : State). Midway S.n done → TreeWorth S.c (insertions_in S.n done) t) (sym (works-state bs h g))
      (subst (λ (x : ℕ). Midway S.n ((host_state h).run.units + x) →
      TreeWorth S.c (insertions_in S.n ((host_state h).run.units + x)) (works bs (host_state h))) (sym (told_is bs h g))
      (works-worth (host_state h) honest tree bs))

module _ (s : List ℕ) (table start : List Float) (cs : List Cell) (l : Lent) (w : List ℕ) (ready : (host_prepare s table start (length cs) l w).number ≡ 0) (a : List ℕ) (room : 5 ≤ length a) where
  abbrev begun : HostWorked
  begun = host_begun s table start cs l w ready a room

  pub host-begun-worth : (bs : List ℕ) → is_tree (settings_of s).method ≡ true → Midway (settings_of s).n (host_told bs begun) →
      TreeWorth (settings_of s).c (insertions_in (settings_of s).n (host_told bs begun)) (host_state (host_works bs begun))
  unfolding fresh_run
  host-begun-worth bs tree =
      let f : (host_state begun).run ≡ fresh_run (settings_of s) = begun_fresh s table start cs l w ready a room in
      let S : (host_state begun).run.settings ≡ settings_of s = ap (λ (r : Run). r.settings) f in
      let u : (host_state begun).run.units + host_told bs begun ≡ host_told bs begun = ap (λ (r : Run). r.units + host_told bs begun) f ∙ zero-add (host_told bs begun) in
      let w = host-worth begun (begun-readable s table start cs l w ready a room) (host-begun-honest s table start cs l w ready a room) (ap (λ (x : Settings). is_tree x.method) S ∙ tree) bs in
      subst (λ (x : Settings). Midway x.n (host_told bs begun) → TreeWorth x.c (insertions_in x.n (host_told bs begun)) (host_state (host_works bs begun))) S
      (subst (λ (x : ℕ). Midway (host_state begun).run.settings.n x →
      TreeWorth (host_state begun).run.settings.c (insertions_in (host_state begun).run.settings.n x) (host_state (host_works bs begun))) u w)

-- ---- a run that was read

module _ (f : List ℕ) (d : Stored) (F : List Float) (nodes k : ℕ) (answer : (unpark_of f d F nodes).answer ≡ Ok k) (ns : List Node)
    (some : is_tree (settings_read (word_in f)).method ≡ true → 1 ≤ length ns) where
  abbrev read_state : State
  read_state = state_in (unpark_of f d F nodes).left (unpark_of f d F nodes).forces ns

  pub read-worth : (bs : List ℕ) → is_tree read_state.run.settings.method ≡ true → Midway read_state.run.settings.n (read_state.run.units + told_all bs read_state)
      → TreeWorth read_state.run.settings.c (insertions_in read_state.run.settings.n (read_state.run.units + told_all bs read_state)) (works bs read_state)
  read-worth bs tree = works-worth read_state (what-is-read-is-honest f d F nodes k answer ns some) tree bs
