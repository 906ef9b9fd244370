-- A run begun from a partner's list through the words of the C function: where the answer is 0, the words say an honest run. Assumes nothing.
use mathlib.Core.Path.{◌≡◌, refl, ap, ◌∙◌}
use mathlib.Core.List.{List}
use mathlib.Core.Bool.{Bool, true, false}
use Prim.Native.Nat.{ℕ, ◌≤◌}
use native.Mathlib.Omega.{arith}
use lib.Dec.{eqb, ltb}
use lib.ListN.{length}
use borrow.Author.Tests.{eqb-false, ltb-false}
use Rattle.laws.proofs.Bools.{by_bool}
use Rattle.tree_node.specs.declared.Node.{Node}
use Rattle.run_record.specs.declared.Settings.{Settings}
use Rattle.run_record.specs.Record.{sizes_of, fresh_run}
use Rattle.record_words.specs.RecordWords.{settings_of, run_of, run_put}
use Rattle.record_words.proofs.Roundtrip.{Sayable, run-back, read-sayable}
use Rattle.partner.specs.Partner.{whole_links, is_partner}
use Rattle.std.specs.Prelude.{Result, Ok}
use Rattle.refusal.specs.Refusal.{refusal_of}
use Rattle.run_record.specs.declared.Run.{Run}
use Rattle.refusal.proofs.Numbers.{refusal-some}
use Rattle.partner_import.specs.declared.ImportFault.{ImportFault}
use Rattle.partner_import.specs.Import.{Loading, lent_lengths, tree_settings, import_fault, judged_list, import_of, import_number}
use Rattle.desk_import.specs.HostImport.{HostImported, record_imported, imported_in, host_import}
use Rattle.descent.specs.Honest.{Honest}
use Rattle.partnering.specs.Begun.{state_loaded}
use Rattle.partnering.proofs.Honest.{what-is-loaded-is-honest}

module _ (s start file w : List ℕ) (l : Loading) (nodes : ℕ) (a : List ℕ) where
  abbrev answered : HostImported
  answered = host_import s start file w l nodes a

  abbrev t : Settings
  t = tree_settings (settings_of s)

  abbrev fault : ℕ
  fault = import_fault t start (lent_lengths l nodes)

  abbrev accepted : Bool
  accepted = is_partner t.n (sizes_of t).links file

  not_none : (k : ℕ) → eqb k 0 ≡ false → k ≡ 0 → ⊥
  not_none k z q = eqb-false k 0 z q

  record AllPassed : Type 0 where
    told : eqb (length a) 0 ≡ false
    nine : ltb (length s) 9 ≡ false
    long : ltb (length w) 14 ≡ false
    none : eqb fault 0 ≡ true
    good : accepted ≡ true

  -- where the number is 0, every test has passed
  all-passed : answered.number ≡ 0 → AllPassed
  unfolding host_import import_of judged_list
  all-passed = by_bool (answered.number ≡ 0 → AllPassed) (eqb (length a) 0)
      (λ m. rw m (λ q. absurd (let x : ◌≡◌ {A = ℕ} 12 0 = q in omega arith)))
      (λ m. by_bool (answered.number ≡ 0 → AllPassed) (ltb (length s) 9)
      (λ n. rw (m, n) (λ q. absurd (let x : ◌≡◌ {A = ℕ} 21 0 = q in omega arith)))
      (λ n. by_bool (answered.number ≡ 0 → AllPassed) (ltb (length w) 14)
      (λ o. by_bool (answered.number ≡ 0 → AllPassed) (eqb fault 0) (λ z. rw (m, n, o, z) (λ q. absurd (let x : ◌≡◌ {A = ℕ} 12 0 = q in omega arith))) (λ z. rw
      (m, n, o, z) (λ q. absurd (not_none fault z q))))
      (λ o. by_bool (answered.number ≡ 0 → AllPassed) (eqb fault 0)
      (λ z. by_bool (answered.number ≡ 0 → AllPassed) accepted
      (λ p q. record { told = m; nine = n; long = o; none = z; good = p })
      (λ p. rw (m, n, o, z, p) (λ q. absurd (let x : ◌≡◌ {A = ℕ} 19 0 = q in omega arith))))
      (λ z. rw (m, n, o, z) (λ q. absurd (refusal-some (refusal_of fault) q))))))

  module _ (ready : answered.number ≡ 0) (ns : List Node) (some : 1 ≤ length ns) where
    answer-is : (import_of (settings_of s) start file nodes l).answer ≡ Ok (fresh_run t)
    unfolding import_of judged_list
    answer-is = let p = all-passed ready in rw (p.none, p.good)

    imported-is : answered ≡ imported_in (whole_links file) (import_of (settings_of s) start file nodes l) w a
    unfolding host_import
    imported-is = let p = all-passed ready in rw (p.told, p.nine, p.long)

    run_is : answered.run ≡ run_put (fresh_run t) w
    run_is = ap (λ (x : HostImported). x.run) imported-is ∙ ap (λ (p : Result Run ImportFault). record_imported p w) answer-is

    sayable : Sayable t
    sayable = let v = read-sayable s in record { perplexity = v.perplexity; rate = v.rate; angle = v.angle; minimum = v.minimum }

    -- the words say a run that has not begun
    pub host-import-fresh : run_of answered.run ≡ fresh_run t
    unfolding fresh_run
    host-import-fresh = rw run_is (run-back (fresh_run t) sayable w (ltb-false (length w) 14 (all-passed ready).long))

    pub host-import-honest : Honest (state_loaded (run_of answered.run) answered.areas ns)
    host-import-honest = rw (host-import-fresh, imported-is) (what-is-loaded-is-honest (settings_of s) start file nodes l (fresh_run t) answer-is ns some)

  -- ---- A REFUSAL CHANGES NEITHER RECORD NOR AREAS
  pub host-refused-import-changes-nothing : (answered.number ≡ 0 → ⊥) → (answered.run ≡ w) × (answered.areas ≡ l)
  unfolding host_import import_of judged_list
  host-refused-import-changes-nothing = by_bool Kept (eqb (length a) 0)
      (λ m. rw m (λ q. (refl, refl)))
      (λ m. by_bool Kept (ltb (length s) 9)
      (λ n. rw (m, n) (λ q. (refl, refl)))
      (λ n. by_bool Kept (ltb (length w) 14)
      (λ o. rw (m, n, o) (λ q. (refl, refl)))
      (λ o. by_bool Kept (eqb fault 0)
      (λ z. by_bool Kept accepted (λ p. rw (m, n, o, z, p) (λ q. absurd (q refl))) (λ p. rw (m, n, o, z, p) (λ q. (refl, refl))))
      (λ z. rw (m, n, o, z) (λ q. (refl, refl))))))
    where
      Kept : Type 0
      Kept = (answered.number ≡ 0 → ⊥) → (answered.run ≡ w) × (answered.areas ≡ l)
