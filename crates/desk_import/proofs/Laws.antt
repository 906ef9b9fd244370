-- The answer of an import in words, case by case. Assumes nothing.
use mathlib.Core.Path.{◌≡◌, sym, ap, ◌∙◌}
use mathlib.Core.List.{List}
use Prim.Native.Nat.{ℕ, ◌<◌, ◌≤◌}
use lib.ListN.{length, set}
use borrow.Author.Tests.{eq-eqb, ne_eqb, lt-ltb, le-ltb}
use Rattle.run_record.specs.declared.Settings.{Settings}
use Rattle.record_words.specs.RecordWords.{settings_of, short_number}
use Rattle.partner.specs.Partner.{whole_links}
use Rattle.std.specs.Prelude.{Result}
use Rattle.run_record.specs.declared.Run.{Run}
use Rattle.record_words.specs.RecordWords.{Worded, worded}
use Rattle.partner_import.specs.declared.ImportFault.{ImportFault}
use Rattle.partner_import.specs.Import.{Loading, lent_lengths, tree_settings, import_fault, import_outcome, import_of, import_number}
use Rattle.desk_import.specs.HostImport.{import_told, record_imported, host_imported, host_import}

module _ (s start file w : List ℕ) (l : Loading) (nodes : ℕ) (a : List ℕ) where
  pub import-mute : length a ≡ 0 → host_imported 12 w l a ≡ host_import s start file w l nodes a
  unfolding host_import
  import-mute e = rw (eq-eqb (length a) 0 e)

  module _ (some : length a ≡ 0 → ⊥) where
    pub import-unset : length s < 9 → host_imported 21 w l (set a 0 0) ≡ host_import s start file w l nodes a
    unfolding host_import
    import-unset h = rw (ne_eqb (length a) 0 some, lt-ltb (length s) 9 h)

    pub import-short : {t : Settings} {k : ℕ} → 9 ≤ length s → length w < 14 → t ≡ settings_of s →
        k ≡ short_number (import_fault (tree_settings t) start (lent_lengths l nodes)) → host_imported k w l (set a 0 0) ≡ host_import s start file w l nodes a
    unfolding host_import
    import-short {t} {k} h r q e = rw (ne_eqb (length a) 0 some, le-ltb (length s) 9 h, lt-ltb (length w) 14 r, sym q, e)

    pub import-answered : {t : Settings} {x : Result Run ImportFault} {L : Loading} {w' : List ℕ} {v k : ℕ} {a' : List ℕ} → 9 ≤ length s → 14 ≤ length w → t ≡ settings_of s
        → import_outcome x L ≡ import_of t start file nodes l → w' ≡ record_imported x w → v ≡ import_told (whole_links file) x → worded k a' ≡ worded (import_number x) (set a 0 v)
        → host_imported k w' L a' ≡ host_import s start file w l nodes a
    unfolding host_import
    import-answered {t} {x} {L} {w'} {v} {k} {a'} h r q o ew ev e =
        ap (λ (y : Worded). host_imported y.number w' L y.words) e
        ∙ rw (ne_eqb (length a) 0 some, le-ltb (length s) 9 h, le-ltb (length w) 14 r, sym q, sym o, ew, ev)
