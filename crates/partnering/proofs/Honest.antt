-- A run begun from a partner's list is honest: so demand 3 and its kin hold from there on, the import in preparation's place. Assumes nothing.
use mathlib.Core.Path.{◌≡◌, refl}
use mathlib.Core.List.{List, map}
use mathlib.Core.Bool.{true, false}
use Prim.Native.Nat.{ℕ, ◌+◌, ◌*◌, ◌≤◌}
use native.Mathlib.Omega.{arith}
use lib.Dec.{eqb}
use lib.ListN.{length}
use borrow.Author.Tests.{eqb-true, lt-ltb}
use Rattle.laws.specs.Area.{bits}
use Rattle.laws.proofs.Bools.{by_bool}
use Rattle.laws.proofs.Joined.{length-map}
use Rattle.laws.proofs.Parts.{length-pasted}
use Rattle.areas.proofs.Front.{filled-size}
use Rattle.tree_node.specs.declared.Node.{Node}
use Rattle.run_record.specs.declared.Settings.{Settings}
use Rattle.run_record.specs.declared.Run.{Run}
use Rattle.run_record.specs.Record.{state_fits, sizes_of, fresh_run}
use Rattle.run_record.proofs.Laws.{per-some}
use Rattle.run_entry.specs.State.{State}
use Rattle.run_entry.specs.Entry.{GoodAreas, Good}
use Rattle.partner.specs.Partner.{first_bad_link, is_partner}
use Rattle.std.specs.Prelude.{Result, Ok, Err}
use Rattle.refusal.specs.Refusal.{refusal_of}
use Rattle.partner_import.specs.declared.ImportFault.{ImportFault}
use Rattle.partner_import.specs.declared.ImportFault.TheVariants.{Refused, BadRecord}
use Rattle.partner_import.specs.Import.{Loading, lent_lengths, tree_settings, import_fault, one_bits, loaded_areas, judged_list, import_of, import_number}
use Rattle.partner_import.proofs.Laws.{LetIn, let-in, list-room, links-in-number}
use Rattle.descent.specs.Descent.{work, work_number, is_last, whole_units, works}
use Rattle.descent.specs.Honest.{Honest, Roomy}
use Rattle.descent.proofs.Theorems.{OneCall, demand-three, SoMany, after-each, stays-honest, ends-in-time, never-14, Refused as RefusedCall, refusal}
use Rattle.partnering.specs.Begun.{state_loaded}
use Rattle.partnering.proofs.Loaded.{offsets-long, indices-long, weights-long, offsets-fine, indices-fine}

-- ---- what an answer says

module _ (s : Settings) (start file : List ℕ) (nodes : ℕ) (l : Loading) where
  abbrev t : Settings
  t = tree_settings s

  -- the tests have passed, the list is accepted, and it is loaded
  pub record Imports (r : Run) : Type 0 where
    pub let_through : LetIn t start (lent_lengths l nodes)
    pub accepted : is_partner t.n (sizes_of t).links file ≡ true
    pub run_is : r ≡ fresh_run t
    pub areas-are : (import_of s start file nodes l).areas ≡ loaded_areas t start file l

  pub imports : (r : Run) → (import_of s start file nodes l).answer ≡ Ok r → Imports r
  unfolding import_of judged_list
  imports r a =
      let k = import_fault t start (lent_lengths l nodes) in
      let P = is_partner t.n (sizes_of t).links file in
      let b = first_bad_link t.n (sizes_of t).links file in
      by_bool (Imports r) (eqb k 0)
      (λ e. by_bool (Imports r) P
      (λ p. let q : ◌≡◌ {A = Result Run ImportFault} (Ok (fresh_run t)) (Ok r) = rw (e, p) at a in
      let same : r ≡ fresh_run t = cc in
      record { let_through = let-in t start (lent_lengths l nodes) (eqb-true k 0 e); accepted = p; run_is = same; areas-are = rw (e, p) })
      (λ p. absurd (let q : ◌≡◌ {A = Result Run ImportFault} (Err (BadRecord b)) (Ok r) = rw (e, p) at a in let z : ◌≡◌ {A = ℕ} 0 1 = cc in omega arith)))
      (λ e. absurd (let q : ◌≡◌ {A = Result Run ImportFault} (Err (Refused (refusal_of k))) (Ok r) = rw e at a in let z : ◌≡◌ {A = ℕ} 0 1 = cc in omega arith))

  -- ---- the state

  module _ (p : LetIn t start (lent_lengths l nodes)) (ok : is_partner t.n (sizes_of t).links file ≡ true) (ns : List Node) (some : 1 ≤ length ns) where
    abbrev A : Loading
    A = loaded_areas t start file l

    as_long : (x y : List ℕ) (m : ℕ) → length x ≡ length y → m ≤ length y → m ≤ length (map bits x)
    as_long x y m e h = omega (arith, length-map bits x, e)

    areas-loaded : GoodAreas t (length (map bits A.positions)) (length (map bits A.increments)) (length (map bits A.gains))
        (length (map bits A.affinities)) (length A.indices) (length A.offsets) (length (map bits A.forces)) (length ns)
    unfolding loaded_areas sizes_of
    areas-loaded =
        let P = p.areas in
        let room = list-room p s refl in
        let few = links-in-number t p.good file ok in
        record {
          positions-long = as_long A.positions l.positions (t.n * t.c)
              (length-pasted start l.positions 0 (t.n * t.c) (omega (arith, p.start_is)) P.positions-long) P.positions-long;
          increments-long = as_long A.increments l.increments (t.n * t.c) (filled-size 0 (t.n * t.c) l.increments P.increments-long) P.increments-long;
          gains-long = as_long A.gains l.gains (t.n * t.c) (filled-size one_bits (t.n * t.c) l.gains P.gains-long) P.gains-long;
          forces-long = as_long A.forces l.forces (t.n * (2 * t.c + 1)) (filled-size 0 (t.n * (2 * t.c + 1)) l.forces P.forces-long) P.forces-long;
          tree-long = λ z. record {
            links-most = as_long A.affinities l.affinities (sizes_of t).links (weights-long file l.affinities (omega (arith, few, room.0))) room.0;
            indices-most = rw (indices-long file l.indices (omega (arith, few, room.1))) room.1;
            offsets-most = rw (offsets-long file t.n l.offsets room.2) room.2;
            nodes-some = some;
          };
          exact-long = λ z. absurd (let q : true ≡ false = z in let y : ◌≡◌ {A = ℕ} 0 1 = cc in omega arith);
        }

    good-loaded : Good (state_loaded (fresh_run t) A ns)
    unfolding fresh_run state_fits loaded_areas
    good-loaded = record {
      settings = p.good;
      counters = record { standing-fits = lt-ltb 0 t.iterations p.good.iterations-some; phase-below = (let q = per-some t.method t.n in omega arith); total = omega arith };
      areas = areas-loaded;
      contents = λ z. record {
        each-offset = offsets-fine file t.n (sizes_of t).links ok l.offsets;
        each_index = indices-fine file t.n (sizes_of t).links ok l.offsets l.indices;
        tree = λ n. absurd (n refl);
      };
    }

    honest-loaded : Honest (state_loaded (fresh_run t) A ns)
    unfolding fresh_run
    honest-loaded = record { good = good-loaded; grown = λ z n. absurd (n refl) }

  -- ---- WHAT IS LOADED IS HONEST

  module _ (r : Run) (a : (import_of s start file nodes l).answer ≡ Ok r) (ns : List Node) (some : 1 ≤ length ns) where
    -- record and areas as the import leaves them
    abbrev pub imported_state : State
    imported_state = state_loaded r (import_of s start file nodes l).areas ns

    pub what-is-loaded-is-honest : Honest imported_state
    what-is-loaded-is-honest = let i = imports r a in rw (i.run_is, i.areas-are) (honest-loaded i.let_through i.accepted ns some)

    -- demand 3 from there on
    pub demand-three-imported : (bs : List ℕ) (b : ℕ) → 1 ≤ b → OneCall bs b imported_state
    demand-three-imported bs b h = demand-three bs b imported_state what-is-loaded-is-honest h

    pub after-each-imported : (bs : List ℕ) → SoMany bs imported_state
    after-each-imported bs = after-each bs imported_state

    pub ends-in-time-imported : (b : ℕ) → whole_units imported_state ≤ b → is_last (work b imported_state).answer ≡ true
    ends-in-time-imported b h = ends-in-time b imported_state what-is-loaded-is-honest h

    pub never-14-imported : Roomy r.settings (length ns) → (bs : List ℕ) (b : ℕ) → work_number (work b (works bs imported_state)).answer ≡ 14 → ⊥
    never-14-imported room bs b e = never-14 bs b imported_state what-is-loaded-is-honest room e

    pub refusal-imported : (bs : List ℕ) (b : ℕ) → (work_number (work b (works bs imported_state)).answer ≡ 0 → ⊥) → RefusedCall b (works bs imported_state)
    refusal-imported bs b n = refusal b (works bs imported_state) (stays-honest bs imported_state what-is-loaded-is-honest).good n

  -- ---- A REFUSAL CHANGES NOTHING
  pub refused-import-changes-nothing : (import_number (import_of s start file nodes l).answer ≡ 0 → ⊥) → (import_of s start file nodes l).areas ≡ l
  unfolding import_of judged_list
  refused-import-changes-nothing n =
      let k = import_fault t start (lent_lengths l nodes) in
      let P = is_partner t.n (sizes_of t).links file in
      by_bool ((import_of s start file nodes l).areas ≡ l) (eqb k 0)
      (λ e. by_bool ((import_of s start file nodes l).areas ≡ l) P (λ p. absurd (n (rw (e, p)))) (λ p. rw (e, p)))
      (λ e. rw e)
