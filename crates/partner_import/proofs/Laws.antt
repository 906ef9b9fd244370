-- What the tests of an import have shown, and what an accepted list asks of its areas. Assumes nothing.
use Rattle.std.specs.Prelude.{Ok, Err}
use mathlib.Core.Path.{◌≡◌, sym, ap, ◌∙◌}
use mathlib.Core.List.{List}
use mathlib.Core.Bool.{true, cond, not}
use Prim.Native.Nat.{ℕ, ◌+◌, ◌*◌, ◌<◌, ◌≤◌}
use native.Mathlib.Omega.{arith}
use native.Mathlib.Nat.{mul-le-mul, mul_assoc}
use lib.Dec.{eqb}
use lib.ListN.{length}
use borrow.Author.Tests.{eq-eqb, ne_eqb, eqb-true, not-false}
use Rattle.laws.specs.Domain.{most_frames}
use Rattle.laws.specs.Joined.{pasted}
use Rattle.areas.specs.Filled.{filled}
use Rattle.run_record.specs.declared.Settings.{Settings}
use Rattle.run_record.specs.declared.Run.{Run}
use Rattle.run_record.specs.Record.{is_tree, settings_fault, sizes_of, k_of, fresh_run, GoodSettings}
use Rattle.run_record.proofs.Laws.{test-told, number-told, last-told, settings-fine, k-most}
use Rattle.run_entry.specs.Entry.{areas_fit, GoodAreas}
use Rattle.run_entry.proofs.Laws.{areas-fine}
use Rattle.partner.specs.Partner.{whole_links, given_links, first_bad_link, is_partner}
use Rattle.partner.proofs.Accepted.{accepted-few, accepted-frames}
use Rattle.partner_load.specs.Loaded.{indices_loaded, weights_loaded, offsets_loaded, FramesRise}
use Rattle.partner_import.specs.declared.LentLengths.{LentLengths}
use Rattle.refusal.specs.declared.Refusal.{Refusal}
use Rattle.refusal.specs.Refusal.{refusal_number, refusal_of}
use Rattle.refusal.proofs.Numbers.{refusal-some, refusal-by-number}
use Rattle.partner_import.specs.declared.ImportFault.TheVariants.{Refused, BadRecord}
use Rattle.partner_import.specs.Import.{Loading, loading, lent_lengths, tree_settings, start_fine, import_fault, one_bits, loaded_areas, import_outcome, judged_list, import_of}

-- ---- the tests

pub record LetIn (s : Settings) (start : List ℕ) (l : LentLengths) : Type 0 where
  pub good : GoodSettings s
  pub start_is : length start ≡ s.n * s.c
  pub start-in : start_fine start (s.n * s.c) ≡ true
  pub areas : GoodAreas s l.positions l.increments l.gains l.affinities l.indices l.offsets l.forces l.nodes

pub let-in : (s : Settings) (start : List ℕ) (l : LentLengths) → import_fault s start l ≡ 0 → LetIn s start l
unfolding import_fault
let-in s start l e =
    let S = start_fine start (s.n * s.c) in
    let A = areas_fit s l.positions l.increments l.gains l.affinities l.indices l.offsets l.forces l.nodes in
    let r3 : ℕ = cond A 0 12 in
    let r2 : ℕ = cond (not S) 11 r3 in
    let r1 : ℕ = cond (not (eqb (length start) (s.n * s.c))) 11 r2 in
    let a = number-told (settings_fault s) r1 e in
    let b = test-told (not (eqb (length start) (s.n * s.c))) 11 r2 (λ q. omega arith) a.1 in
    let c = test-told (not S) 11 r3 (λ q. omega arith) b.1 in
    record {
      good = settings-fine s a.0;
      start_is = eqb-true (length start) (s.n * s.c) (not-false (eqb (length start) (s.n * s.c)) b.0);
      start-in = not-false S c.0;
      areas = areas-fine s l.positions l.increments l.gains l.affinities l.indices l.offsets l.forces l.nodes (last-told A 12 (λ q. omega arith) c.1);
    }

-- the lists have room, and so has what a run begins with
module _ {t : Settings} {start : List ℕ} {l : LentLengths} (p : LetIn t start l) where
  pub list-room : (s : Settings) → t ≡ tree_settings s → ((sizes_of t).links ≤ l.affinities) × ((sizes_of t).links ≤ l.indices) × (t.n + 1 ≤ l.offsets)
  unfolding sizes_of
  list-room s q = let z = p.areas.tree-long (ap (λ (x : Settings). is_tree x.method) q) in (z.links-most, z.indices-most, z.offsets-most)

  pub begin-room : ((sizes_of t).cells ≤ length start) × ((sizes_of t).cells ≤ l.positions) × ((sizes_of t).cells ≤ l.increments) × ((sizes_of t).cells ≤ l.gains) × ((sizes_of t).forces ≤ l.forces)
  unfolding sizes_of
  begin-room = (omega (arith, p.start_is), p.areas.positions-long, p.areas.increments-long, p.areas.gains-long, p.areas.forces-long)

-- ---- an accepted list

module _ (s : Settings) (good : GoodSettings s) (file : List ℕ) (ok : is_partner s.n (sizes_of s).links file ≡ true) where
  pub links-in-number : whole_links file ≤ (sizes_of s).links
  links-in-number = accepted-few s.n (sizes_of s).links file ok

  most-links : (sizes_of s).links < 4294967296
  unfolding sizes_of
  most-links =
      let k = k-most s good in
      let z : s.n * k_of s ≤ most_frames * most_frames = mul-le-mul {m₂ = most_frames} good.n-most (omega (arith, k.1, good.n-most)) in
      omega (arith, mul_assoc 2 s.n (k_of s), z)

  pub links-in-words : whole_links file < 4294967296
  links-in-words = omega (arith, links-in-number, most-links)

  pub frames-rise : FramesRise file
  frames-rise = record { no_lower = accepted-frames s.n (sizes_of s).links file ok (omega (arith, good.n-most)) }

-- ---- the answer

module _ (s : Settings) (start file : List ℕ) (nodes : ℕ) (l : Loading) {t : Settings} (same : t ≡ tree_settings s) where
  abbrev fault : ℕ
  fault = import_fault t start (lent_lengths l nodes)

  abbrev bad : ℕ
  bad = first_bad_link t.n (sizes_of t).links file

  as-tree : import_of s start file nodes l ≡ cond (eqb fault 0) (judged_list t start file l) (import_outcome (Err (Refused (refusal_of fault))) l)
  unfolding import_of
  as-tree = rw same

  pub import-refused : (r : Refusal) → refusal_number r ≡ fault → import_outcome (Err (Refused r)) l ≡ import_of s start file nodes l
  import-refused r q = rw (as-tree, ne_eqb fault 0 (λ e. refusal-some r (q ∙ e)), sym q, refusal-by-number r)

  pub import-bad : {b : ℕ} → fault ≡ 0 → b ≡ bad → (b ≡ given_links file → ⊥) → import_outcome (Err (BadRecord b)) l ≡ import_of s start file nodes l
  unfolding judged_list
  import-bad {b} e q n = rw (as-tree, eq-eqb fault 0 e, ne_eqb bad (given_links file) (λ z. n (q ∙ z)), q)

  pub import-loaded : {r : Run} {p i g a x o f : List ℕ} → fault ≡ 0 → bad ≡ given_links file → r ≡ fresh_run t
      → p ≡ pasted start 0 (t.n * t.c) l.positions → i ≡ filled 0 (t.n * t.c) l.increments → g ≡ filled one_bits (t.n * t.c) l.gains
      → a ≡ weights_loaded file l.affinities → x ≡ indices_loaded file l.indices → o ≡ offsets_loaded file t.n l.offsets → f ≡ filled 0 (t.n * (2 * t.c + 1)) l.forces
      → import_outcome (Ok r) (loading p i g a x o f) ≡ import_of s start file nodes l
  unfolding judged_list loaded_areas
  import-loaded e b er ep ei eg ea ex eo ef = rw (as-tree, eq-eqb fault 0 e, eq-eqb bad (given_links file) b, er, ep, ei, eg, ea, ex, eo, ef)
