-- The two calls as the desk sees them: an import accepts exactly the lists that meet the rules, a run in good order gets its lists written, and a refusal changes nothing. Assumes nothing.
use Rattle.std.specs.Prelude.{Ok}
use mathlib.Core.Path.{◌≡◌, refl}
use mathlib.Core.List.{List}
use mathlib.Core.Bool.{true}
use Prim.Native.Nat.{ℕ, ◌*◌, ◌≤◌}
use native.Mathlib.Omega.{arith}
use lib.Dec.{eqb, ltb}
use lib.ListN.{length}
use borrow.Author.Tests.{eq-eqb, le-ltb}
use Rattle.laws.specs.Area.{num, bits}
use Rattle.laws.proofs.Bools.{by_bool}
use Rattle.laws.proofs.Joined.{length-map}
use Rattle.tree_node.specs.declared.Node.{Node}
use Rattle.run_record.specs.declared.Settings.{Settings}
use Rattle.run_record.specs.declared.Run.{Run}
use Rattle.run_record.specs.Record.{sizes_of, fresh_run}
use Rattle.run_entry.specs.Entry.{Found, is_fine, fault_of, Good}
use Rattle.run_entry.proofs.Laws.{fault-good, found-none, found-some}
use Rattle.record_words.specs.RecordWords.{run_fine, run_of}
use Rattle.words_entry.specs.WordsEntry.{words_fault}
use Rattle.parked.specs.Parked.{Stored, stored_of}
use Rattle.partner.specs.Rules.{PartnerRules}
use Rattle.partner.proofs.Accepted.{accepted-rules, rules-accepted}
use Rattle.std.specs.Prelude.{Ok}
use Rattle.partner_import.specs.Import.{Loading, lent_lengths, tree_settings, import_fault, judged_list, import_of}
use Rattle.partner_import.proofs.Laws.{let-in}
use Rattle.partner_write.specs.Write.{listing, lists_into, lists_tested, written_lists, lists_number}
use Rattle.desk_lists.specs.HostLists.{host_lists}
use Rattle.partnering.specs.Begun.{state_loaded}
use Rattle.partnering.proofs.Honest.{imports}

-- ---- ACCEPTED EXACTLY: once the tests up to 12 have passed, a list is loaded exactly when the rules hold

module _ (s : Settings) (start file : List ℕ) (nodes : ℕ) (l : Loading) where
  abbrev t : Settings
  t = tree_settings s

  pub loaded-meets-the-rules : (r : Run) → (import_of s start file nodes l).answer ≡ Ok r → PartnerRules t.n (sizes_of t).links file
  loaded-meets-the-rules r a = let i = imports s start file nodes l r a in accepted-rules t.n (sizes_of t).links file i.accepted (omega (arith, i.let_through.good.n-most))

  pub what-meets-the-rules-is-loaded : import_fault t start (lent_lengths l nodes) ≡ 0 → PartnerRules t.n (sizes_of t).links file → (import_of s start file nodes l).answer ≡ Ok (fresh_run t)
  unfolding import_of judged_list
  what-meets-the-rules-is-loaded e R =
      let p = let-in t start (lent_lengths l nodes) e in
      rw (eq-eqb (import_fault t start (lent_lengths l nodes)) 0 e, rules-accepted t.n (sizes_of t).links file R (omega (arith, p.good.n-most)))

-- ---- A RUN IN GOOD ORDER GETS ITS LISTS WRITTEN

module _ (w : List ℕ) (l : Loading) (ns : List Node) where
  abbrev stored : Stored
  stored = stored_of w l.positions l.increments l.gains l.affinities l.indices l.offsets

  entry-passes : run_fine w ≡ true → Good (state_loaded (run_of w) l ns) →
      words_fault w (length l.positions) (length l.increments) (length l.gains) (length l.affinities) (length l.forces) l.indices
      l.offsets ns ≡ Ok tt
  unfolding words_fault fault_of
  entry-passes f g =
      let h = fault-good (state_loaded (run_of w) l ns) g in
      rw f (rw (length-map bits l.positions, length-map bits l.increments, length-map bits l.gains, length-map bits l.affinities, length-map bits l.forces) at h)

  -- n frames of a Barnes-Hut run, a target of 16 bytes a link
  pub good-lists-are-written : (t : List ℕ) → run_fine w ≡ true → num w 3 ≡ 1 → Good (state_loaded (run_of w) l ns) → 16 * num l.offsets (num w 0) ≤ length t
      → written_lists stored (length l.forces) ns t ≡ listing (Ok (num l.offsets (num w 0))) (lists_into (num w 0) l.affinities l.indices l.offsets t)
  unfolding written_lists lists_tested
  good-lists-are-written t f m g h = rw (entry-passes f g, eq-eqb (num w 3) 1 m, le-ltb (length t) (16 * num l.offsets (num w 0)) h)

-- ---- A REFUSAL CHANGES NOTHING

module _ (d : Stored) (forces : ℕ) (ns : List Node) (t : List ℕ) where
  abbrev fault : Found
  fault = words_fault d.run (length d.positions) (length d.increments) (length d.gains) (length d.affinities) forces d.indices d.offsets ns

  pub refused-writing-changes-nothing : (lists_number (written_lists d forces ns t).answer ≡ 0 → ⊥) → (written_lists d forces ns t).target ≡ t
  unfolding written_lists lists_tested
  refused-writing-changes-nothing = by_bool Kept (is_fine fault)
      (λ f. let f = found-none fault f in by_bool Kept (eqb (num d.run 3) 1)
      (λ m. by_bool Kept (ltb (length t) (16 * num d.offsets (num d.run 0))) (λ q. rw (f, m, q) (λ z. refl)) (λ q. rw (f, m, q) (λ z. absurd (z refl))))
      (λ m. rw (f, m) (λ z. refl)))
      (λ f. let f = (found-some fault f).1 in rw f (λ z. refl))
    where
      Kept : Type 0
      Kept = (lists_number (written_lists d forces ns t).answer ≡ 0 → ⊥) → (written_lists d forces ns t).target ≡ t

  pub host-refused-writing-changes-nothing : (a : List ℕ) → ((host_lists d forces ns t a).number ≡ 0 → ⊥) → (host_lists d forces ns t a).target ≡ t
  unfolding host_lists
  host-refused-writing-changes-nothing a = by_bool (((host_lists d forces ns t a).number ≡ 0 → ⊥) → (host_lists d forces ns t a).target ≡ t) (eqb (length a) 0)
      (λ m. rw m (λ z. refl)) (λ m. rw m (λ z. refused-writing-changes-nothing z))
