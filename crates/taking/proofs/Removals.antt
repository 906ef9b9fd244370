-- Removals as the call leaves them: two one after the other beside one of their union, and the links that are left. Assumes nothing.
use mathlib.Core.Path.{◌≡◌, refl, sym, ap, subst, ◌∙◌}
use mathlib.Core.Logic.{◌⊎◌, inl, inr, ⊎_elim}
use mathlib.Core.List.{List, ◌++◌}
use mathlib.Core.Bool.{true, false}
use Prim.Native.Nat.{ℕ, ◌+◌, ◌-◌, ◌*◌, ◌<◌, ◌≤◌}
use native.Mathlib.Omega.{arith}
use lib.IntN.{pos}
use lib.ListN.{length, drop, replicate, get_or-append}
use lib.Ieee.{binary64, of_int, lt}
use Rattle.laws.proofs.Bools.{by_bool, two}
use borrow.Author.Tests.{ltb-false, le-ltb}
use Rattle.laws.specs.Area.{num}
use Rattle.run_record.specs.declared.Run.{Run}
use Rattle.run_record.specs.declared.Settings.{Settings}
use Rattle.tree_node.specs.declared.Node.{Node}
use Rattle.run_record.specs.Record.{is_tree, sizes_of}
use Rattle.run_entry.specs.Entry.{fault_of, is_fine}
use Rattle.run_entry.proofs.Laws.{fault-good}
use Rattle.take_gone.specs.Gone.{gone_fine, survivors}
use Rattle.take_gone.proofs.Left.{survivors-climb}
use Rattle.take_rows.specs.Rows.{shrunk}
use Rattle.take_rows.proofs.Survive.{survivors-kept}
use Rattle.take_lists.specs.Packed.{links_left, packed_indices, packed_weights, packed_offsets, Listed}
use Rattle.take_calm.specs.CalmLeft.{calm_left}
use Rattle.take_lists.proofs.Theorems.{BetweenSurvivors, links-between-survivors}
use Rattle.take_left.specs.declared.Denial.TheVariants.{Barred}
use Rattle.std.specs.Prelude.{Ok, Err}
use Rattle.take_left.specs.Outlook.{thinned, thinned_run, crowded}
use Rattle.take_left.proofs.Judged.{exact-not-crowded, judged-left, judged-barred}
use Rattle.take_out.specs.declared.TakeFault.TheVariants.{Denied}
use Rattle.take_out.specs.TakeOut.{Holdings, TookOut, as_taken, state_held, affinities_after, indices_after, offsets_after, packed_areas, take_fault, take_out}
use Rattle.taking.specs.Union.{Union}
use Rattle.taking.proofs.Accepted.{outlook-told, long-enough-told, Passes, took_from, Accepted, accepted}
use Rattle.taking.proofs.Honest.{entered-room}
use Rattle.taking.proofs.Composed.{survivors-union, through-size, through-at}
use Rattle.taking.proofs.TwicePacked.{row_at, links-left-twice}
use Rattle.taking.proofs.Twice.{twice-as-once, CentredTwice, positions-centred-twice}

-- ---- two removals

-- of a run with the record r and the areas h: first and second are two removals one after the other, g1 the list of the first; one is a removal of u. Values
-- that are only moved are the same bit for bit
pub record OneRemoval (g1 u : List ℕ) (r : Run) (h : Holdings) (first second one : TookOut) : Type 0 where
  pub run : second.run ≡ one.run
  pub increments : second.areas.increments ≡ one.areas.increments
  pub gains : second.areas.gains ≡ one.areas.gains
  pub affinities : second.areas.affinities ≡ one.areas.affinities
  pub indices : second.areas.indices ≡ one.areas.indices
  pub offsets : second.areas.offsets ≡ one.areas.offsets
  pub forces : second.areas.forces ≡ one.areas.forces
  pub table : second.areas.table ≡ one.areas.table
  -- the old places one after the other
  pub old : (i : ℕ) → i < length (survivors u r.settings.n) → num first.areas.old (num second.areas.old i) ≡ num one.areas.old i
  -- the positions are centred once more
  pub positions : CentredTwice r.settings.n r.settings.c (survivors g1 r.settings.n) (survivors u r.settings.n) h.positions
      first.areas.positions second.areas.positions one.areas.positions

-- areas with other old places lent
abbrev lent_old : Holdings → List ℕ → Holdings
lent_old h q = record {
  positions = h.positions;
  increments = h.increments;
  gains = h.gains;
  affinities = h.affinities;
  indices = h.indices;
  offsets = h.offsets;
  forces = h.forces;
  table = h.table;
  old = q;
}

module _ (g1 g2 u : List ℕ) (r : Run) (h : Holdings) (q2 q3 : List ℕ) (e : Union g1 g2 u r.settings.n) where
  abbrev first : TookOut
  first = took_from g1 r h

  abbrev second : TookOut
  second = took_from g2 first.run (lent_old first.areas q2)

  abbrev one : TookOut
  one = took_from u r (lent_old h q3)

  abbrev keep1 : List ℕ
  keep1 = survivors g1 r.settings.n

  abbrev keep2 : List ℕ
  keep2 = survivors g2 (length keep1)

  same_count : length keep2 ≡ length (survivors u r.settings.n)
  same_count = sym (ap length (survivors-union g1 g2 u r.settings.n e) ∙ through-size keep1 keep2)

  record-one : second.run ≡ one.run
  unfolding thinned_run thinned
  record-one = ap (thinned_run r) same_count

  old-one : (i : ℕ) → i < length (survivors u r.settings.n)
      → num (keep1 ++ drop (length keep1) h.old) (num (keep2 ++ drop (length keep2) q2) i) ≡ num (survivors u r.settings.n ++ drop (length (survivors u r.settings.n)) q3) i
  old-one i l =
      let k : i < length keep2 = subst (λ (x : ℕ). i < x) (sym same_count) l in
      let n = r.settings.n in
      ap (num (keep1 ++ drop (length keep1) h.old)) (get_or-append keep2 (drop (length keep2) q2) 0 i k)
      ∙ get_or-append keep1 (drop (length keep1) h.old) 0 (num keep2 i) ((survivors-kept g2 (length keep1)).below i k)
      ∙ sym (through-at keep1 keep2 i k)
      ∙ ap (λ (x : List ℕ). num x i) (sym (survivors-union g1 g2 u n e))
      ∙ sym (get_or-append (survivors u n) (drop (length (survivors u n)) q3) 0 i l)

  one-removal : (is_tree r.settings.method ≡ true → Listed r.settings.n (length h.affinities) (length h.indices) h.offsets) → OneRemoval g1 u r h first second one
  unfolding thinned_run thinned packed_areas
  one-removal lists =
      let a = twice-as-once r.settings g1 g2 u h e lists in
      record {
        run = record-one;
        increments = a.increments;
        gains = a.gains;
        affinities = a.affinities;
        indices = a.indices;
        offsets = a.offsets;
        forces = a.forces;
        table = a.table;
        old = old-one;
        positions = positions-centred-twice r.settings g1 g2 u h e;
      }

-- THEOREM: two removals that are not refused leave what one removal of their union leaves, where that is not refused; the positions are centred once more. Any areas may be lent for the old places
pub two-removals-as-one : (g1 g2 u : List ℕ) (r : Run) (h : Holdings) (ns : List Node) (q2 q3 : List ℕ) (m1 m2 m3 : ℕ) → Union g1 g2 u r.settings.n
    → (take_out g1 r h ns).answer ≡ Ok m1
    → (take_out g2 (take_out g1 r h ns).run (lent_old (take_out g1 r h ns).areas q2) ns).answer ≡ Ok m2
    → (take_out u r (lent_old h q3) ns).answer ≡ Ok m3
    → OneRemoval g1 u r h (take_out g1 r h ns) (take_out g2 (take_out g1 r h ns).run (lent_old (take_out g1 r h ns).areas q2) ns) (take_out u r (lent_old h q3) ns)
two-removals-as-one g1 g2 u r h ns q2 q3 m1 m2 m3 e a1 a2 a3 =
    let x1 = take_out g1 r h ns in
    let x2 = take_out g2 x1.run (lent_old x1.areas q2) ns in
    let b1 = accepted g1 r h ns m1 a1 in
    let b2 = accepted g2 x1.run (lent_old x1.areas q2) ns m2 a2 in
    let b3 = accepted u r (lent_old h q3) ns m3 a3 in
    let base : OneRemoval g1 u r h (first g1 g2 u r h q2 q3 e) (second g1 g2 u r h q2 q3 e) (one g1 g2 u r h q2 q3 e) =
    one-removal g1 g2 u r h q2 q3 e (entered-room r h ns b1.entered).lists-room in
    subst (λ (o : TookOut). OneRemoval g1 u r h x1 x2 o) (sym b3.outcome)
    (subst (λ (o : TookOut). OneRemoval g1 u r h x1 o (took_from u r (lent_old h q3))) (sym b2.outcome)
    (subst (λ (o : TookOut). OneRemoval g1 u r h o (took_from g2 o.run (lent_old o.areas q2)) (took_from u r (lent_old h q3))) (sym b1.outcome) base))

-- ---- whether the union is taken

crowd-few : (s : Settings) (keep I O : List ℕ) → is_tree s.method ≡ true → crowded s keep I O ≡ false → links_left keep I O ≤ (sizes_of (thinned s (length keep))).links
unfolding crowded
crowd-few s keep I O b e = ltb-false (sizes_of (thinned s (length keep))).links (links_left keep I O) (rw b at e)

crowd-fits : (s : Settings) (keep I O : List ℕ) → is_tree s.method ≡ true → links_left keep I O ≤ (sizes_of (thinned s (length keep))).links → crowded s keep I O ≡ false
unfolding crowded
crowd-fits s keep I O b h = rw (b, le-ltb (sizes_of (thinned s (length keep))).links (links_left keep I O) h)

module _ (g1 g2 u : List ℕ) (r : Run) (h : Holdings) (ns : List Node) (q2 q3 : List ℕ) (e : Union g1 g2 u r.settings.n) (a : Accepted g1 r h ns) where
  abbrev keep_u : List ℕ
  keep_u = survivors u r.settings.n

  abbrev keep_a : List ℕ
  keep_a = survivors g1 r.settings.n

  abbrev keep_b : List ℕ
  keep_b = survivors g2 (length keep_a)

  abbrev next : TookOut
  next = took_from g1 r h

  -- the second has passed its tests
  abbrev Passed : Type 0
  Passed = Passes next.run g2 next.areas.positions next.areas.indices next.areas.offsets

  -- what has been shown before the second, of the union
  union-passes : Passed
      → (2 ≤ length keep_u) × (lt r.settings.perplexity (of_int binary64 (pos (length keep_u))) ≡ true)
  unfolding thinned_run thinned
  union-passes p =
      let c = same_count g1 g2 u r h q2 q3 e in
      (subst (λ (x : ℕ). 2 ≤ x) c p.enough, subst (λ (x : ℕ). lt r.settings.perplexity (of_int binary64 (pos x)) ≡ true) c p.below)

  links-one : is_tree r.settings.method ≡ true
      → links_left keep_b next.areas.indices next.areas.offsets ≡ links_left keep_u h.indices h.offsets
  unfolding packed_areas indices_after offsets_after
  links-one b =
      let n = r.settings.n in
      let I = h.indices in
      let O = h.offsets in
      let P = replicate (num O n - length (packed_indices keep_a I O)) 0 ++ drop (num O n) I in
      let Q = replicate (n + 1 - length (packed_offsets keep_a I O)) 0 ++ drop (n + 1) O in
      rw b (links-left-twice keep_a keep_b (survivors-climb g1 n) (survivors-kept g2 (length keep_a)).below I O P Q ∙ ap (λ (x : List ℕ). links_left x I O) (sym (survivors-union g1 g2 u n e)))

  union-not-crowded : Passed → crowded r.settings keep_u h.indices h.offsets ≡ false
  unfolding thinned_run thinned
  union-not-crowded p = by_bool (crowded r.settings keep_u h.indices h.offsets ≡ false) (is_tree r.settings.method)
      (λ b.
      let S = r.settings in
      let few : links_left keep_b next.areas.indices next.areas.offsets ≤ (sizes_of (thinned S (length keep_b))).links =
      crowd-few (thinned S (length keep_a)) keep_b next.areas.indices next.areas.offsets b p.room in
      crowd-fits S keep_u h.indices h.offsets b (omega (arith, links-one b, ap (λ (x : ℕ). (sizes_of (thinned S x)).links) (same_count g1 g2 u r h q2 q3 e))))
      (λ b. sym (exact-not-crowded r.settings keep_u h.indices h.offsets b))

  union-fault : r.settings.n ≤ length q3 → is_fine (take_fault r (lent_old h q3) ns) ≡ true
  unfolding fault_of
  union-fault l = ap is_fine (long-enough-told r (lent_old h q3) ns a.entered.table-long l ∙ fault-good (state_held r h ns) a.entered.good)

  union-told : Passed → gone_fine u r.settings.n ≡ true → r.settings.n ≤ length q3
      → ((take_out u r (lent_old h q3) ns).answer ≡ Ok (length keep_u)) ⊎ ((take_out u r (lent_old h q3) ns).answer ≡ Err (Denied Barred))
  union-told p f l =
      let y = h.positions in
      let I = h.indices in
      let O = h.offsets in
      let z = union-passes p in
      let c = union-not-crowded p in
      let v = outlook-told u r (lent_old h q3) ns (union-fault l) in
      ⊎_elim
      (λ b. inl (v ∙ ap as_taken (sym (judged-left r u y I O a.passed.between f z.0 z.1 (length keep_u) refl c b))))
      (λ b. inr (v ∙ ap as_taken (sym (judged-barred r u y I O a.passed.between f z.0 z.1 c b))))
      (two (calm_left keep_u r.settings.c y))

-- THEOREM: where two removals are not refused, one of their union is not refused either, but perhaps by 15: its positions are centred otherwise
pub union-taken-or-barred : (g1 g2 u : List ℕ) (r : Run) (h : Holdings) (ns : List Node) (q2 q3 : List ℕ) (m1 m2 : ℕ) → Union g1 g2 u r.settings.n
    → gone_fine u r.settings.n ≡ true
    → r.settings.n ≤ length q3
    → (take_out g1 r h ns).answer ≡ Ok m1
    → (take_out g2 (take_out g1 r h ns).run (lent_old (take_out g1 r h ns).areas q2) ns).answer ≡ Ok m2
    → ((take_out u r (lent_old h q3) ns).answer ≡ Ok (length (survivors u r.settings.n))) ⊎ ((take_out u r (lent_old h q3) ns).answer ≡ Err (Denied Barred))
union-taken-or-barred g1 g2 u r h ns q2 q3 m1 m2 e f l a1 a2 =
    let x1 = take_out g1 r h ns in
    let b1 = accepted g1 r h ns m1 a1 in
    let b2 = accepted g2 x1.run (lent_old x1.areas q2) ns m2 a2 in
    union-told g1 g2 u r h ns q2 q3 e b1
    (subst (λ (o : TookOut). Passes o.run g2 o.areas.positions o.areas.indices o.areas.offsets) b1.outcome b2.passed) f l

-- ---- the links

-- a removal of g from a run with the record r and the areas h has left x: the lists of the survivors stand at the front of the areas, one after the other, and
-- their links are exactly the old ones between survivors, with the words of their weights
pub record LinksLeft (g : List ℕ) (r : Run) (h x : Holdings) : Type 0 where
  pub offsets : x.offsets ≡ shrunk 0 (r.settings.n + 1) (packed_offsets (survivors g r.settings.n) h.indices h.offsets) h.offsets
  pub indices : x.indices ≡ shrunk 0 (num h.offsets r.settings.n) (packed_indices (survivors g r.settings.n) h.indices h.offsets) h.indices
  pub weights : x.affinities ≡ shrunk 0 (num h.offsets r.settings.n) (packed_weights (survivors g r.settings.n) h.affinities h.indices h.offsets) h.affinities
  pub between : BetweenSurvivors (survivors g r.settings.n) h.affinities h.indices h.offsets

links-of : (g : List ℕ) (r : Run) (h : Holdings) → is_tree r.settings.method ≡ true → LinksLeft g r h (took_from g r h).areas
unfolding packed_areas affinities_after indices_after offsets_after
links-of g r h b = record { offsets = rw b; indices = rw b; weights = rw b; between = links-between-survivors (survivors g r.settings.n) h.affinities h.indices h.offsets }

-- THEOREM: the links and weights that a removal leaves are those between survivors, bit for bit
pub links-left-told : (g : List ℕ) (r : Run) (h : Holdings) (ns : List Node) (m : ℕ) → (take_out g r h ns).answer ≡ Ok m → is_tree r.settings.method ≡ true
    → LinksLeft g r h (take_out g r h ns).areas
links-left-told g r h ns m a b = subst (λ (o : TookOut). LinksLeft g r h o.areas) (sym (accepted g r h ns m a).outcome) (links-of g r h b)

-- the same of an exact run: the word for survivors i and j is the one that the matrix had for them
pub matrix-left-told : (g : List ℕ) (r : Run) (h : Holdings) (ns : List Node) (m : ℕ) → (take_out g r h ns).answer ≡ Ok m → is_tree r.settings.method ≡ false
    → (i j : ℕ) → i < length (survivors g r.settings.n) → j < length (survivors g r.settings.n)
    → num (take_out g r h ns).areas.affinities (i * length (survivors g r.settings.n) + j)
    ≡ num h.affinities (num (survivors g r.settings.n) i * r.settings.n + num (survivors g r.settings.n) j)
unfolding packed_areas affinities_after
matrix-left-told g r h ns m a b i j hi hj =
    let keep = survivors g r.settings.n in
    ap (λ (o : TookOut). num o.areas.affinities (i * length keep + j)) (accepted g r h ns m a).outcome
    ∙ rw b (row_at (λ i j. num h.affinities (num keep i * r.settings.n + num keep j)) (length keep) (length keep) i j _ 0 hi hj)
