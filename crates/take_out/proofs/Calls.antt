-- The call: what the entry tests have shown of record and areas, and what its proof cites. Assumes nothing.
use mathlib.Core.Path.{◌≡◌, sym, ap, subst, ◌∙◌}
use mathlib.Core.List.{List}
use mathlib.Core.Bool.{Bool, true, false, cond, not, ◌&&◌, ◌||◌}
use Prim.Native.Nat.{ℕ, zero, suc, ◌+◌, ◌*◌, ◌<◌, ◌≤◌}
use native.Mathlib.Omega.{arith}
use native.Mathlib.Decide.{dec_lt}
use native.Mathlib.Nat.{mul-le-mul, le_refl}
use lib.Dec.{eqb, leb}
use lib.ListN.{length, take}
use lib.Seq.{length-take-le}
use lib.Ieee.{Float}
use borrow.Author.Tests.{eqb-true}
use Rattle.laws.specs.Area.{num, bits}
use Rattle.laws.proofs.Joined.{length-map}
use Rattle.run_record.specs.declared.Run.{Run}
use Rattle.run_record.specs.declared.Settings.{Settings}
use Rattle.run_record.specs.Record.{is_tree, settings_fault, sizes_of, GoodSettings}
use Rattle.run_record.proofs.Laws.{settings-good, done-most}
use Rattle.tree_node.specs.declared.Cell.{Cell}
use Rattle.tree_node.specs.declared.Node.{Node}
use Rattle.tree_node.specs.Arena.{nodes_of}
use Rattle.run_entry.specs.State.{State}
use Rattle.run_entry.specs.Entry.{Found, offset_fine, fault_at, fault_of, is_fine, Good}
use Rattle.run_entry.proofs.Laws.{fault-fine, links-is}
use Rattle.run_rooms.proofs.Lists.{offset-rises, index_below}
use Rattle.take_lists.specs.Packed.{Listed}
use Rattle.take_out.specs.TakeOut.{Holdings, holdings, state_held, lent_positions, TakeAnswer, take_fault, took_out, take_tested, take_out, TakeRoom}
use Rattle.take_out.proofs.Rooms.{lent-no-table, lent-no-old, lent-all}

-- ---- where positions count as lent, the table and the old places are long enough

module _ (s : Settings) (p t q : ℕ) (g : GoodSettings s) where
  pub lent-told : 0 < lent_positions s p t q → (s.n * s.f ≤ t) × (s.n ≤ q) × (lent_positions s p t q ≡ p)
  lent-told h = elim (dec_lt t (s.n * s.f)) [
    | yes a ↦ absurd (omega (arith, lent-no-table s p t q (settings-good s g) a))
    | no a ↦ elim (dec_lt q s.n) [
      | yes b ↦ absurd (omega (arith, lent-no-old s p t q (settings-good s g) (omega arith) b))
      | no b ↦ (omega arith, omega arith, sym (lent-all s p t q (settings-good s g) (omega arith) (omega arith)))
    ]
  ]

lent-within : (s : Settings) (p t q : ℕ) → lent_positions s p t q ≤ p
unfolding lent_positions
lent-within s p t q = by (not (eqb (settings_fault s) 0) || (leb (s.n * s.f) t && leb s.n q))
  where
    by : (b : Bool) → cond b p 0 ≤ p
    by true = le_refl p
    by false = omega arith

-- ---- the areas, with so many of the positions

abbrev cut : ℕ → Holdings → Holdings
cut p h = holdings (take p h.positions) h.increments h.gains h.affinities h.indices h.offsets h.forces h.table h.old

-- what the entry tests ask of the areas, they ask of the state that these are
pub words-told : (r : Run) (h : Holdings) (ns : List Node) → fault_at r (length h.positions) (length h.increments) (length h.gains)
    (length h.affinities) (length h.forces) h.indices h.offsets ns ≡ fault_of (state_held r h ns)
unfolding fault_of
words-told r h ns = rw (length-map bits h.increments, length-map bits h.gains, length-map bits h.affinities)

-- the lists of a state in good order lie one after the other within their areas
pub good-listed : (s : State) → Good s → is_tree s.run.settings.method ≡ true → Listed s.run.settings.n (length s.memory.affinities) (length s.memory.indices) s.memory.offsets
unfolding offset_fine
good-listed s g t =
    let n = s.run.settings.n in
    let a = g.areas.tree-long t in
    let o = offset-rises s.run s.memory.indices s.memory.offsets s.memory.nodes (g.contents t) in
    let last : num s.memory.offsets n ≤ (sizes_of s.run.settings).links = end n g.settings.n-some s.memory.offsets (sizes_of s.run.settings).links (λ i h. (o i h).1) in
    record {
      offsets-long = a.offsets-most;
      offsets-rise = λ i h. (o i h).0;
      offsets-begin = eqb-true (num s.memory.offsets 0) 0 ((g.contents t).each-offset 0 (omega arith));
      weights-long = omega (arith, last, links-is s.run.settings, a.links-most);
      indices-long = omega (arith, last, links-is s.run.settings, a.indices-most);
    }
  where
    end : (n : ℕ) → 2 ≤ n → (O : List ℕ) (k : ℕ) → ((i : ℕ) → i < n → num O (i + 1) ≤ k) → num O n ≤ k
    end zero h O k f = absurd (omega arith)
    end (suc n) h O k f = subst (λ (x : ℕ). num O x ≤ k) (one n) (f n (omega arith))
      where
        one : (n : ℕ) → n + 1 ≡ suc n
        one n = omega arith

-- lists that are long enough as values are so as words
pub words-listed : (r : Run) (h : Holdings) (ns : List Node) → Good (state_held r h ns) → is_tree r.settings.method ≡ true →
    Listed r.settings.n (length h.affinities) (length h.indices) h.offsets
words-listed r h ns g b = subst (λ (x : ℕ). Listed r.settings.n x (length h.indices) h.offsets) (length-map bits h.affinities) (good-listed (state_held r h ns) g b)

-- a record and areas that pass: everything that is packed lies within its area
pub room-shown : (r : Run) (h : Holdings) (ns : List Node) → is_fine (take_fault r h ns) ≡ true → TakeRoom r h
unfolding take_fault
room-shown r h ns e = go (fault-fine (state_held r (cut p h) ns) (ap is_fine (sym (words-told r (cut p h) ns)) ∙
    subst (λ (x : ℕ). is_fine (fault_at r x (length h.increments) (length h.gains) (length h.affinities) (length h.forces) h.indices
    h.offsets ns) ≡ true) (sym cut-long) e))
  where
    p : ℕ
    p = lent_positions r.settings (length h.positions) (length h.table) (length h.old)

    p-within : p ≤ length h.positions
    p-within = lent-within r.settings (length h.positions) (length h.table) (length h.old)

    cut-long : length (take p h.positions) ≡ p
    cut-long = length-take-le p h.positions p-within

    go : Good (state_held r (cut p h) ns) → TakeRoom r h
    go g =
        let some : 1 ≤ r.settings.n * r.settings.c = frames r.settings.n r.settings.c g.settings.n-some g.settings.c-some in
        let l = lent-told r.settings (length h.positions) (length h.table) (length h.old) g.settings (omega (arith, g.areas.positions-long, cut-long, some)) in
        record {
          outlook-room = record {
            settings-good = g.settings;
            positions-long = omega (arith, g.areas.positions-long, cut-long, p-within);
            lists-lie = λ b. lies g b;
            lists-name = λ b i k. index_below r h.indices h.offsets ns (g.contents b) i k;
          };
          done-most = omega (arith, done-most r.standing r.done r.settings.iterations r.phase r.settings.minimum g.counters.standing-fits, g.settings.iterations-most);
          increments-long = omega (arith, g.areas.increments-long, length-map bits h.increments);
          gains-long = omega (arith, g.areas.gains-long, length-map bits h.gains);
          forces-long = g.areas.forces-long;
          table-long = l.0;
          old-long = l.1;
          lists-long = words-listed r (cut p h) ns g;
          square-long = λ b. omega (arith, g.areas.exact-long b, length-map bits h.affinities);
        }
      where
        frames : (n c : ℕ) → 2 ≤ n → 1 ≤ c → 1 ≤ n * c
        frames n c a b = let k : 1 ≤ n = omega arith in let h : 1 * 1 ≤ n * c = mul-le-mul k b in omega (arith, h)

        lies : Good (state_held r (cut p h) ns) → is_tree r.settings.method ≡ true → Listed r.settings.n (length h.indices) (length h.indices) h.offsets
        lies g b = let k = words-listed r (cut p h) ns g b in
            record {
              offsets-long = k.offsets-long;
              offsets-rise = k.offsets-rise;
              offsets-begin = k.offsets-begin;
              weights-long = k.indices-long;
              indices-long = k.indices-long;
            }

-- ---- the fault that was found is the definition's

module _ (r : Run) (y : List Float) (v g P xs off : List ℕ) (F : List Float) (cs : List Cell) (t gone q : List ℕ)
    (p : ℕ) (ep : p ≡ lent_positions r.settings (length y) (length t) (length q)) (f : Found) (ef : f ≡ fault_at r p (length v) (length g) (length P) (length F) xs off (nodes_of cs)) where
  fault-is : f ≡ take_fault r (holdings y v g P xs off F t q) (nodes_of cs)
  unfolding take_fault
  fault-is = ef ∙ rw ep

  pub taking-asks : is_fine f ≡ true → TakeRoom r (holdings y v g P xs off F t q)
  taking-asks h = room-shown r (holdings y v g P xs off F t q) (nodes_of cs) (ap is_fine (sym fault-is) ∙ h)

  pub taking-told : (w : TakeAnswer) (x' : Run) (y' : List Float) (v' g' P' xs' off' : List ℕ) (F' : List Float) (t' q' : List ℕ)
      → took_out w x' (holdings y' v' g' P' xs' off' F' t' q') ≡ take_tested f r gone (holdings y v g P xs off F t q)
      → took_out w x' (holdings y' v' g' P' xs' off' F' t' q') ≡ take_out gone r (holdings y v g P xs off F t q) (nodes_of cs)
  unfolding take_out
  taking-told w x' y' v' g' P' xs' off' F' t' q' h = h ∙ ap (λ (x : Found). take_tested x r gone (holdings y v g P xs off F t q)) fault-is
