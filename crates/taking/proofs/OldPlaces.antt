-- The old places that a removal hands back: those of the survivors, rising, each once; the others as they were. Assumes nothing.
use mathlib.Core.Path.{◌≡◌, refl, sym, ap, subst, ◌∙◌}
use mathlib.Core.List.{List, ◌++◌}
use mathlib.Core.Bool.{Bool, true, false, not}
use Prim.Native.Nat.{ℕ, ◌+◌, ◌<◌}
use native.Mathlib.Omega.{arith}
use lib.ListN.{length, take, drop, get_or-append}
use lib.Seq.{take_at, drop_at}
use Rattle.laws.specs.Area.{num}
use Rattle.laws.proofs.Joined.{those-below, those-holds, those-rise, spot_yes, spot-at}
use Rattle.run_record.specs.declared.Run.{Run}
use Rattle.tree_node.specs.declared.Node.{Node}
use Rattle.take_gone.specs.Gone.{stands_at, is_among, survivors}
use Rattle.take_gone.proofs.Left.{survivors-count}
use Rattle.std.specs.Prelude.{Ok}
use Rattle.take_out.specs.TakeOut.{Holdings, TookOut, packed_areas, take_out}
use Rattle.taking.proofs.Accepted.{accepted, accepted-count}

-- q are the old places before a removal of g from n samples that leaves m, old those after it
pub record OldPlaces (g : List ℕ) (n m : ℕ) (q old : List ℕ) : Type 0 where
  -- survivors and those taken out are all
  pub all : m + length g ≡ n
  -- survivor i was sample number i of old: a sample that there was, not taken out, and above the one before
  pub below : (i : ℕ) → i < m → num old i < n
  pub not-gone : (i : ℕ) → i < m → is_among g (num old i) ≡ false
  pub rise : (i j : ℕ) → i < j → j < m → num old i < num old j
  -- every sample that was not taken out is there
  pub there : (j : ℕ) → j < n → is_among g j ≡ false → (stands_at (survivors g n) j < m) × (num old (stands_at (survivors g n) j) ≡ j)
  -- in list form, and the places from m on keep their value
  pub front : take m old ≡ survivors g n
  pub rest : drop m old ≡ drop m q

not_so : (b : Bool) → not b ≡ true → b ≡ false
not_so true e = sym e
not_so false e = refl

places : (g : List ℕ) (n : ℕ) (q : List ℕ) → length (survivors g n) + length g ≡ n → OldPlaces g n (length (survivors g n)) q (survivors g n ++ drop (length (survivors g n)) q)
places g n q e = record {
  all = e;
  below = λ i h. subst (λ (x : ℕ). x < n) (sym (here i h)) (those-below p n i h);
  not-gone = λ i h. ap (is_among g) (here i h) ∙ not_so (is_among g (num (survivors g n) i)) (those-holds p n i h);
  rise = λ i j k h. omega (arith, here i (omega arith), here j h, those-rise p n i j k h);
  there = λ j h x. (let y : not (is_among g j) ≡ true = ap not x in (spot_yes p n j h y, here (stands_at (survivors g n) j) (spot_yes p n j h y) ∙ spot-at p n j h y));
  front = take_at (survivors g n) (drop (length (survivors g n)) q) (length (survivors g n)) refl;
  rest = drop_at (survivors g n) (drop (length (survivors g n)) q) (length (survivors g n)) refl;
}
  where
    p : ℕ → Bool
    p j = not (is_among g j)

    here : (i : ℕ) → i < length (survivors g n) → num (survivors g n ++ drop (length (survivors g n)) q) i ≡ num (survivors g n) i
    here i h = get_or-append (survivors g n) (drop (length (survivors g n)) q) 0 i h

-- THEOREM: a removal that is not refused tells each survivor's old place
pub old-places-told : (g : List ℕ) (r : Run) (h : Holdings) (ns : List Node) (m : ℕ) → (take_out g r h ns).answer ≡ Ok m → OldPlaces g r.settings.n m h.old (take_out g r h ns).areas.old
unfolding packed_areas
old-places-told g r h ns m left =
    let a = accepted g r h ns m left in
    let n = r.settings.n in
    let c = accepted-count g r h ns m left in
    let o : (take_out g r h ns).areas.old ≡ survivors g n ++ drop (length (survivors g n)) h.old = ap (λ (x : TookOut). x.areas.old) a.outcome in
    rw (o, c) (places g n h.old (survivors-count g n a.passed.gone-fine))
