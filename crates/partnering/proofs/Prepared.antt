-- Preparation's lists, written, are accepted whenever no weight is zero, and loading them gives preparation's lists again. Assumes nothing.
use mathlib.Core.Path.{◌≡◌, sym, ap, subst, ◌∙◌}
use mathlib.Core.List.{List, map}
use mathlib.Core.Bool.{true, false, not}
use Prim.Native.Nat.{ℕ, ◌+◌, ◌-◌, ◌*◌, ◌<◌, ◌≤◌}
use native.Mathlib.Omega.{arith}
use native.Mathlib.Nat.{mul_assoc}
use lib.Dec.{T, eqb}
use lib.ListN.{length}
use lib.Ieee.{Float, nan, inf, fin, binary64, eq, is_nan, to_bits}
use lib.Ieee.Bits.{of_bits-fits, to_bits-of_bits}
use borrow.Author.Tests.{eq-eqb, eqb-true}
use Rattle.laws.specs.Area.{num, at, bits, zero64}
use Rattle.laws.specs.Joined.{pasted}
use Rattle.laws.proofs.Bools.{by_bool}
use Rattle.laws.proofs.Every.{every-at}
use Rattle.laws.proofs.Joined.{length-map, get_or-map-in}
use Rattle.elementary.specs.Limits.{in_domain, not_negative}
use Rattle.little.specs.Little.{AllBelow}
use Rattle.affinity_lists.specs.Lists.{Rows, Areas, areas, InList}
use Rattle.affinity_lists.proofs.Theorems.{offsets-first, offsets-rise, links-between, listed_below, listed-other, listed-mirror, listed-rises}
use Rattle.affinity.specs.Neighbours.{rows_of, neighbours_listed}
use Rattle.affinity.proofs.Named.{rows_named}
use Rattle.affinity.proofs.Listed.{not-all-neighbours}
use Rattle.affinity.proofs.Finite.{listed-not-negative}
use Rattle.tree_node.specs.declared.Cell.{Cell}
use Rattle.tree_node.specs.Arena.{nodes_of}
use Rattle.run_record.specs.declared.Settings.{Settings}
use Rattle.run_record.specs.declared.Run.{Run}
use Rattle.run_record.specs.Record.{is_tree, k_of, sizes_of, fresh_run}
use Rattle.run_entry.specs.Entry.{TreeAreas}
use Rattle.prepare.proofs.Begins.{preparation-honest}
use Rattle.std.specs.Prelude.{Result, Ok, Err}
use Rattle.prepare.specs.Prepare.{Lent, lengths_of, prepare_fault, routed_in, begun_areas, PrepareOutcome, prepare_outcome, prepared}
use Rattle.prepare.proofs.Laws.{Passed, passed, routed-tree}
use Rattle.partner.specs.Partner.{is_partner}
use Rattle.partner_load.specs.Loaded.{indices_loaded, weights_loaded, offsets_loaded}
use Rattle.partner_write.specs.Write.{lists_bytes, ListsLie}
use Rattle.partnering.specs.Own.{OwnLists}
use Rattle.partnering.proofs.Positive.{positive_of}
use Rattle.partnering.proofs.Written.{later-list}
use Rattle.partnering.proofs.Own.{own-lists-accepted, own-indices-again, own-weights-again, own-offsets-again}

-- words of values that are no NaN are told by the values
same_word : (x y : ℕ) → x < 18446744073709551616 → y < 18446744073709551616 → not_negative (bits x) → bits x ≡ bits y → x ≡ y
unfolding is_nan
same_word x y a b n e = sym (to_bits-of_bits binary64 x a (no_nan (bits x) n)) ∙ ap (to_bits binary64) e ∙ to_bits-of_bits binary64 y b (no_nan (bits y) (subst not_negative e n))
  where
    no_nan : (v : Float) → not_negative v → T (not (is_nan v))
    no_nan nan n = absurd n
    no_nan (inf t) n = tt
    no_nan (fin t m d) n = tt

module _ (s : Settings) (table start : List Float) (cs : List Cell) (l : Lent) (run : Run)
    (ready : (prepared s table start (length cs) l).answer ≡ Ok run) (tree : is_tree s.method ≡ true) where
  -- the areas as preparation leaves them
  abbrev A : Lent
  A = (prepared s table start (length cs) l).areas

  abbrev before : Areas
  before = areas l.affinities l.indices l.offsets l.row_values l.row_indices

  abbrev n : ℕ
  n = s.n

  abbrev k : ℕ
  k = k_of s

  abbrev made : Areas
  made = neighbours_listed table n s.f s.perplexity before

  abbrev rows : Areas
  rows = rows_of table n s.f k s.perplexity before

  abbrev fault : ℕ
  fault = prepare_fault s table start (lengths_of l (length cs))

  no-fault : fault ≡ 0
  unfolding prepared
  no-fault =
      by_bool (fault ≡ 0) (eqb fault 0)
      (λ e. eqb-true fault 0 e)
      (λ e. absurd (let q : ◌≡◌ {A = Result Run ℕ} (Err fault) (Ok run) = rw e at ready in let z : ◌≡◌ {A = ℕ} 0 1 = cc in omega arith))

  pass : Passed s table start (lengths_of l (length cs))
  pass = passed s table start (lengths_of l (length cs)) no-fault

  outcome-is : prepared s table start (length cs) l ≡ prepare_outcome (Ok (fresh_run s)) (begun_areas s table start l)
  unfolding prepared
  outcome-is = rw (eq-eqb fault 0 no-fault)

  areas-are : A ≡ begun_areas s table start l
  areas-are = ap (λ (o : PrepareOutcome). o.areas) outcome-is

  run_is : run ≡ fresh_run s
  run_is = let q : ◌≡◌ {A = Result Run ℕ} (Ok (fresh_run s)) (Ok run) = ap (λ (o : PrepareOutcome). o.answer) (sym outcome-is) ∙ ready in cc

  routed-is : routed_in s table l ≡ made
  routed-is = sym (routed-tree s table before tree)

  weights-are : A.affinities ≡ made.weights
  weights-are = ap (λ (x : Lent). x.affinities) areas-are ∙ ap (λ (x : Areas). x.weights) routed-is

  indices-are : A.indices ≡ made.indices
  indices-are = ap (λ (x : Lent). x.indices) areas-are ∙ ap (λ (x : Areas). x.indices) routed-is

  offsets_are : A.offsets ≡ made.offsets
  offsets_are = ap (λ (x : Lent). x.offsets) areas-are ∙ ap (λ (x : Areas). x.offsets) routed-is

  -- W: the affinities' words; no weight of a link is zero
  module _ (W : List ℕ) (words : AllBelow 18446744073709551616 W) (values : map bits W ≡ A.affinities)
      (no_zero : (p : ℕ) → p < num A.offsets n → eq (at A.affinities p) zero64 ≡ false) where
    two : 2 ≤ n
    two = pass.good.n-some

    few : k < n
    few = not-all-neighbours s.perplexity n two

    rows_ok : Rows n k rows.indices
    rows_ok = rows_named table n s.f k s.perplexity before.indices few

    abbrev links : ℕ
    links = num made.offsets n

    links-few : links ≤ (sizes_of s).links
    unfolding neighbours_listed sizes_of
    links-few = omega (arith, (links-between n k rows rows_ok).1, mul_assoc 2 n k)

    room : TreeAreas s (length A.affinities) (length A.indices) (length A.offsets) (length (nodes_of cs))
    unfolding fresh_run
    room = (rw run_is at (preparation-honest s table start cs l run ready).good.areas.tree-long) tree

    links-room : (links ≤ length W) × (links ≤ length made.indices)
    unfolding sizes_of
    links-room =
        let w : length W ≡ length A.affinities = sym (length-map bits W) ∙ ap length values in
        (omega (arith, links-few, room.links-most, w), omega (arith, links-few, room.indices-most, ap length indices-are))

    value : (p : ℕ) → p < links → at made.weights p ≡ bits (num W p)
    value p h = ap (λ (x : List Float). at x p) (sym (values ∙ weights-are)) ∙ get_or-map-in bits W p 0 nan (omega (arith, links-room.0))

    domain : (q : ℕ) → q < n * s.f → in_domain (at table q) ≡ true
    domain q h = every-at (λ i. in_domain (at table i)) (n * s.f) pass.table-in q h

    fair : (p : ℕ) → p < links → not_negative (bits (num W p))
    fair p h = subst not_negative (value p h) (listed-not-negative table n s.f s.perplexity pass.good.f-most pass.good.n-most domain two before p h)

    lists-lie : ListsLie n W made.indices made.offsets
    unfolding neighbours_listed
    lists-lie = record {
      offsets-long = omega (arith, room.offsets-most, ap length offsets_are);
      offsets-begin = offsets-first n k rows rows_ok;
      offsets-rise = λ i h. omega (arith, offsets-rise n k rows rows_ok i h);
      weights-long = links-room.0;
      indices-long = links-room.1;
    }

    -- a place of a list is one of the links
    in-links : (i p : ℕ) → i < n → InList made.offsets i p → p < links
    in-links i p h q = omega (arith, q, later-list n W made.indices made.offsets lists-lie (n - (i + 1)) (i + 1) (omega arith), ap (num made.offsets) (to_end i h))
      where
        to_end : (i : ℕ) → i < n → i + 1 + (n - (i + 1)) ≡ n
        to_end i h = omega arith

    mirror-word : (i p : ℕ) → i < n → InList made.offsets i p → (r : ℕ) × (InList made.offsets (num made.indices p) r × (num made.indices r ≡ i) × (num W r ≡ num W p))
    unfolding neighbours_listed
    mirror-word i p h q =
        let m = listed-mirror n k rows rows_ok i p h q in
        let r = m.0 in
        let a = in-links i p h q in
        let b = in-links (num made.indices p) r (listed_below n k rows rows_ok p a) m.1.0 in
        (r, (m.1.0, m.1.1, same_word (num W r) (num W p) (words r) (words p) (fair r b) (sym (value r b) ∙ m.1.2 ∙ value p a)))

    own-lists : OwnLists n (sizes_of s).links W made.indices made.offsets
    unfolding neighbours_listed
    own-lists = record {
      lie = lists-lie;
      few = links-few;
      named = λ p h. listed_below n k rows rows_ok p h;
      other = λ i p h q. listed-other n k rows rows_ok i p h q;
      rises = λ i p r h u v m. listed-rises n k rows rows_ok i p r h u v m;
      mirror = mirror-word;
      in_words = λ p h. words p;
      weighty = λ p h. positive_of (bits (num W p)) (of_bits-fits binary64 (num W p)) (fair p h)
          (ap (λ (x : Float). eq x zero64) (sym (value p h) ∙ ap (λ (y : List Float). at y p) (sym weights-are)) ∙
          no_zero p (omega (arith, h, ap (λ (y : List ℕ). num y n) offsets_are)));
    }

    own-prepared : OwnLists n (sizes_of s).links W A.indices A.offsets
    own-prepared = rw (indices-are, offsets_are) own-lists

    small : n ≤ 4294967296
    small = omega (arith, pass.good.n-most)

    -- ---- PREPARATION'S LISTS ARE ACCEPTED
    pub prepared-lists-accepted : is_partner n (sizes_of s).links (lists_bytes n W A.indices A.offsets) ≡ true
    prepared-lists-accepted = own-lists-accepted n (sizes_of s).links W A.indices A.offsets own-prepared small

    -- ---- AND LOADED THEY ARE PREPARATION'S LISTS AGAIN: indices, weights to the bit, offsets; what stood past them is kept
    pub prepared-lists-again : (v w o : List ℕ) → (indices_loaded (lists_bytes n W A.indices A.offsets) v ≡ pasted A.indices 0 (num A.offsets n) v)
        × (weights_loaded (lists_bytes n W A.indices A.offsets) w ≡ pasted W 0 (num A.offsets n) w)
        × (offsets_loaded (lists_bytes n W A.indices A.offsets) n o ≡ pasted A.offsets 0 (n + 1) o)
    prepared-lists-again v w o = (
      own-indices-again n (sizes_of s).links W A.indices A.offsets own-prepared small v,
      own-weights-again n (sizes_of s).links W A.indices A.offsets own-prepared small w,
      own-offsets-again n (sizes_of s).links W A.indices A.offsets own-prepared small o,
    )
