-- The packed lists are in order: their offsets rise from 0 to the number of links left, and their links are exactly those between frames that are left. Premises: those of each law.
use mathlib.Core.Path.{◌≡◌, sym, ap, subst, ◌∙◌}
use mathlib.Core.List.{List, [], ◌++◌, append-nil}
use mathlib.Core.Bool.{true}
use Prim.Native.Nat.{ℕ, ◌+◌, ◌-◌, ◌<◌, ◌≤◌}
use native.Mathlib.Omega.{arith}
use native.Mathlib.Nat.{le_refl}
use lib.Dec.{eqb}
use lib.ListN.{length, drop, replicate, length-append, get_or-append}
use borrow.Author.Tests.{ltb-true, eqb-true}
use Rattle.laws.specs.Area.{num}
use Rattle.laws.specs.Joined.{joined}
use Rattle.laws.proofs.First.{first_holds}
use Rattle.laws.proofs.Joined.{joined_at, joined-all, those-below, those-holds, those-at, those-rise, get_or-map-in, length-map}
use Rattle.laws.proofs.Laid.{singles-get}
use Rattle.take_gone.specs.Gone.{stands_at, is_among, Climbs}
use Rattle.take_rows.specs.Rows.{shrunk, Staying}
use Rattle.take_lists.specs.Packed.{kept_links, indices_left, weights_left, links_before, links_left, packed_indices, packed_weights, packed_offsets, Listed}
use Rattle.take_lists.specs.Steps.{kept_from}
use Rattle.take_lists.proofs.Bounds.{before-none, before-next, before-all, packed-indices-size, packed-weights-size, packed-offsets-size}

-- where link t of packed list i stands, and where it stood
abbrev pub new_place : List ℕ → List ℕ → List ℕ → ℕ → ℕ → ℕ
new_place keep I O i t = num (packed_offsets keep I O) i + t

abbrev pub old_place : List ℕ → List ℕ → List ℕ → ℕ → ℕ → ℕ
old_place keep I O i t = num O (num keep i) + num (kept_links keep I O (num keep i)) t

-- how many are left of the first s links of frame number i of keep
abbrev pub kept_before : List ℕ → List ℕ → List ℕ → ℕ → ℕ → ℕ
kept_before keep I O i s = length (kept_from keep I (num O (num keep i)) s)

-- a frame that is left stands at its new number
pub stands-in : (keep : List ℕ) (x : ℕ) → is_among keep x ≡ true → stands_at keep x < length keep
stands-in keep x e = ltb-true (stands_at keep x) (length keep) e

pub stands-there : (keep : List ℕ) (x : ℕ) → is_among keep x ≡ true → num keep (stands_at keep x) ≡ x
stands-there keep x e = eqb-true (num keep (stands_at keep x)) x (first_holds (λ t. eqb (num keep t) x) (length keep) (stands-in keep x e))

-- ---- how many

module _ (keep I O : List ℕ) where
  pub packed-indices-count : length (packed_indices keep I O) ≡ links_left keep I O
  packed-indices-count = packed-indices-size keep I O (length keep)

  -- no more links are left than there were
  pub links-left-few : {n w x : ℕ} → Listed n w x O → Climbs keep → Staying keep n → links_left keep I O ≤ num O n
  links-left-few lists climbs kept = before-all lists I climbs kept (length keep) (le_refl (length keep))

  -- ---- the offsets: what the lists before have

  pub packed-offset-at : (i : ℕ) → i ≤ length keep → num (packed_offsets keep I O) i ≡ links_before keep I O i
  packed-offset-at i h = ap (λ (l : List ℕ). num l i) (sym (append-nil (packed_offsets keep I O))) ∙ singles-get (links_before keep I O) (length keep + 1) i [] 0 (omega arith)

  pub packed-offsets-begin : num (packed_offsets keep I O) 0 ≡ 0
  packed-offsets-begin = packed-offset-at 0 (omega arith) ∙ before-none keep I O

  -- list i has as many links as are left of the list of its frame
  pub packed-offsets-step : (i : ℕ) → i < length keep → num (packed_offsets keep I O) (i + 1) ≡ num (packed_offsets keep I O) i + length (kept_links keep I O (num keep i))
  packed-offsets-step i l = packed-offset-at (i + 1) (omega arith) ∙ before-next keep I O i ∙ ap (λ (x : ℕ). x + length (kept_links keep I O (num keep i))) (sym (packed-offset-at i (omega arith)))

  pub packed-offsets-rise : (i : ℕ) → i < length keep → num (packed_offsets keep I O) i ≤ num (packed_offsets keep I O) (i + 1)
  packed-offsets-rise i l = omega (arith, packed-offsets-step i l)

  pub packed-offsets-end : num (packed_offsets keep I O) (length keep) ≡ links_left keep I O
  packed-offsets-end = packed-offset-at (length keep) (le_refl (length keep))

  -- ---- the links: old link s of frame number i of keep, and its place in the packed lists

  -- the frame that old link s of frame j names
  abbrev frame_of : ℕ → ℕ → ℕ
  frame_of j s = num I (num O j + s)

  -- what is left names a frame that is left, and lies within its old list
  pub kept-link-within : (j t : ℕ) → t < length (kept_links keep I O j) → num (kept_links keep I O j) t < num O (j + 1) - num O j
  unfolding kept_links
  kept-link-within j t l = those-below (λ s. is_among keep (frame_of j s)) (num O (j + 1) - num O j) t l

  pub kept-link-among : (j t : ℕ) → t < length (kept_links keep I O j) → is_among keep (num I (num O j + num (kept_links keep I O j) t)) ≡ true
  unfolding kept_links
  kept-link-among j t l = those-holds (λ s. is_among keep (frame_of j s)) (num O (j + 1) - num O j) t l

  -- in the old order
  pub kept-links-rise : (j s t : ℕ) → s < t → t < length (kept_links keep I O j) → num (kept_links keep I O j) s < num (kept_links keep I O j) t
  unfolding kept_links
  kept-links-rise j s t h l = those-rise (λ s. is_among keep (frame_of j s)) (num O (j + 1) - num O j) s t h l

  -- and each link that names a frame that is left is there: as many stand before it as are left of the links before it
  pub kept-link-stays : (j s : ℕ) → s < num O (j + 1) - num O j → is_among keep (num I (num O j + s)) ≡ true
      → (length (kept_from keep I (num O j) s) < length (kept_links keep I O j)) × (num (kept_links keep I O j) (length (kept_from keep I (num O j) s)) ≡ s)
  unfolding kept_links
  kept-link-stays j s l e = those-at (λ s. is_among keep (frame_of j s)) (num O (j + 1) - num O j) s l e

  -- link t of list i: the new number of the frame
  pub packed-index-at : (i t : ℕ) → i < length keep → t < length (kept_links keep I O (num keep i))
      → num (packed_indices keep I O) (new_place keep I O i t) ≡ stands_at keep (num I (old_place keep I O i t))
  packed-index-at i t l m =
      ap (λ (p : ℕ). num (packed_indices keep I O) (p + t)) (packed-offset-at i (omega arith) ∙ sym (packed-indices-size keep I O i))
      ∙ ap (λ (r : List ℕ). num r (length (joined (λ h. indices_left keep I O (num keep h)) i) + t)) (sym (append-nil (packed_indices keep I O)))
      ∙ joined_at (λ h. indices_left keep I O (num keep h)) (length keep) i t [] 0 l
      (subst (λ (x : ℕ). t < x) (sym (length-map (λ s. stands_at keep (frame_of (num keep i) s)) (kept_links keep I O (num keep i)))) m)
      ∙ get_or-map-in (λ s. stands_at keep (frame_of (num keep i) s)) (kept_links keep I O (num keep i)) t 0 0 m

  -- each names a frame that is left
  pub packed-index-below : (p : ℕ) → p < links_left keep I O → num (packed_indices keep I O) p < length keep
  packed-index-below p l =
      joined-all (λ (x : ℕ). x < length keep) (λ h. indices_left keep I O (num keep h)) (length keep) 0
      (λ i t a b.
      let m : t < length (kept_links keep I O (num keep i)) = subst (λ (x : ℕ). t < x) (length-map (λ s. stands_at keep (frame_of (num keep i) s)) (kept_links keep I O (num keep i))) b in
      subst (λ (x : ℕ). x < length keep) (sym (get_or-map-in (λ s. stands_at keep (frame_of (num keep i) s)) (kept_links keep I O (num keep i)) t 0 0 m))
      (stands-in keep (frame_of (num keep i) (num (kept_links keep I O (num keep i)) t)) (kept-link-among (num keep i) t m)))
      p (subst (λ (x : ℕ). p < x) (sym packed-indices-count) l)

module _ (keep W I O : List ℕ) where
  pub packed-weights-count : length (packed_weights keep W I O) ≡ links_left keep I O
  packed-weights-count = packed-weights-size keep W I O (length keep)

  -- and its weight, as it was
  pub packed-weight-at : (i t : ℕ) → i < length keep → t < length (kept_links keep I O (num keep i))
      → num (packed_weights keep W I O) (new_place keep I O i t) ≡ num W (old_place keep I O i t)
  packed-weight-at i t l m =
      ap (λ (p : ℕ). num (packed_weights keep W I O) (p + t)) (packed-offset-at keep I O i (omega arith) ∙ sym (packed-weights-size keep W I O i))
      ∙ ap (λ (r : List ℕ). num r (length (joined (λ h. weights_left keep W I O (num keep h)) i) + t)) (sym (append-nil (packed_weights keep W I O)))
      ∙ joined_at (λ h. weights_left keep W I O (num keep h)) (length keep) i t [] 0 l
      (subst (λ (x : ℕ). t < x) (sym (length-map (λ s. num W (num O (num keep i) + s)) (kept_links keep I O (num keep i)))) m)
      ∙ get_or-map-in (λ s. num W (num O (num keep i) + s)) (kept_links keep I O (num keep i)) t 0 0 m

-- ---- the theorems in one

-- link t of packed list i: it is an old link of frame number i of keep, to a frame in keep; the new number stands for that frame, and the weight is the old one
pub record OldLink (keep W I O : List ℕ) (i t : ℕ) : Type 0 where
  pub within : num (kept_links keep I O (num keep i)) t < num O (num keep i + 1) - num O (num keep i)
  pub among : is_among keep (num I (old_place keep I O i t)) ≡ true
  pub index : num (packed_indices keep I O) (new_place keep I O i t) ≡ stands_at keep (num I (old_place keep I O i t))
  pub names : num keep (num (packed_indices keep I O) (new_place keep I O i t)) ≡ num I (old_place keep I O i t)
  pub weight : num (packed_weights keep W I O) (new_place keep I O i t) ≡ num W (old_place keep I O i t)

-- old link s of frame number i of keep, to a frame in keep: it stands in packed list i, past those of the links before it that are left
pub record StayingLink (keep W I O : List ℕ) (i s : ℕ) : Type 0 where
  pub inside : new_place keep I O i (kept_before keep I O i s) < num (packed_offsets keep I O) (i + 1)
  pub index : num (packed_indices keep I O) (new_place keep I O i (kept_before keep I O i s)) ≡ stands_at keep (num I (num O (num keep i) + s))
  pub names : num keep (num (packed_indices keep I O) (new_place keep I O i (kept_before keep I O i s))) ≡ num I (num O (num keep i) + s)
  pub weight : num (packed_weights keep W I O) (new_place keep I O i (kept_before keep I O i s)) ≡ num W (num O (num keep i) + s)

pub record BetweenSurvivors (keep W I O : List ℕ) : Type 0 where
  pub below : (p : ℕ) → p < links_left keep I O → num (packed_indices keep I O) p < length keep
  pub old : (i t : ℕ) → i < length keep → new_place keep I O i t < num (packed_offsets keep I O) (i + 1) → OldLink keep W I O i t
  pub stays : (i s : ℕ) → i < length keep → s < num O (num keep i + 1) - num O (num keep i) → is_among keep (num I (num O (num keep i) + s)) ≡ true → StayingLink keep W I O i s

-- the links of the packed lists are exactly the old ones between frames that are left
pub links-between-survivors : (keep W I O : List ℕ) → BetweenSurvivors keep W I O
links-between-survivors keep W I O = record {
  below = packed-index-below keep I O;
  old = λ i t l h. old-link i t l (omega (arith, packed-offsets-step keep I O i l));
  stays = λ i s l h e.
      let k = kept-link-stays keep I O (num keep i) s h e in
      let o : OldLink keep W I O i (kept_before keep I O i s) = old-link i (kept_before keep I O i s) l k.0 in
      record {
        inside = omega (arith, packed-offsets-step keep I O i l, k.0);
        index = o.index ∙ ap (λ (x : ℕ). stands_at keep (num I (num O (num keep i) + x))) k.1;
        names = o.names ∙ ap (λ (x : ℕ). num I (num O (num keep i) + x)) k.1;
        weight = o.weight ∙ ap (λ (x : ℕ). num W (num O (num keep i) + x)) k.1;
      };
}
  where
    old-link : (i t : ℕ) → i < length keep → t < length (kept_links keep I O (num keep i)) → OldLink keep W I O i t
    old-link i t l m =
        let a : is_among keep (num I (old_place keep I O i t)) ≡ true = kept-link-among keep I O (num keep i) t m in
        let e = packed-index-at keep I O i t l m in
        record {
          within = kept-link-within keep I O (num keep i) t m;
          among = a;
          index = e;
          names = ap (num keep) e ∙ stands-there keep (num I (old_place keep I O i t)) a;
          weight = packed-weight-at keep W I O i t l m;
        }

-- ---- the areas as they are left

module _ (keep I O : List ℕ) {n w x : ℕ} (lists : Listed n w x O) (climbs : Climbs keep) (kept : Staying keep n) where
  -- at the front of the offsets stand the packed ones
  left-offset : (i : ℕ) → i ≤ length keep → num (shrunk 0 (n + 1) (packed_offsets keep I O) O) i ≡ num (packed_offsets keep I O) i
  left-offset i h = get_or-append (packed_offsets keep I O) (replicate (n + 1 - length (packed_offsets keep I O)) 0 ++ drop (n + 1) O) 0 i (omega (arith, packed-offsets-size keep I O))

  -- they are lists again, of the frames that are left, and lie within the same areas
  pub packed-listed : Listed (length keep) w x (shrunk 0 (n + 1) (packed_offsets keep I O) O)
  packed-listed = record {
    offsets-long = omega (arith, length-append (packed_offsets keep I O) (replicate (n + 1 - length (packed_offsets keep I O)) 0 ++ drop (n + 1) O), packed-offsets-size keep I O);
    offsets-rise = λ i l. omega (arith, left-offset i (omega arith), left-offset (i + 1) (omega arith), packed-offsets-rise keep I O i l);
    offsets-begin = left-offset 0 (omega arith) ∙ packed-offsets-begin keep I O;
    weights-long = omega (arith, left-offset (length keep) (le_refl (length keep)), packed-offsets-end keep I O, links-left-few keep I O lists climbs kept, lists.weights-long);
    indices-long = omega (arith, left-offset (length keep) (le_refl (length keep)), packed-offsets-end keep I O, links-left-few keep I O lists climbs kept, lists.indices-long);
  }

  -- and each link names one of them
  pub packed-named : (p : ℕ) → p < num (shrunk 0 (n + 1) (packed_offsets keep I O) O) (length keep) → num (shrunk 0 (num O n) (packed_indices keep I O) I) p < length keep
  packed-named p l =
      let m : p < links_left keep I O = omega (arith, left-offset (length keep) (le_refl (length keep)), packed-offsets-end keep I O) in
      subst (λ (y : ℕ). y < length keep)
      (sym (get_or-append (packed_indices keep I O) (replicate (num O n - length (packed_indices keep I O)) 0 ++ drop (num O n) I) 0 p (omega (arith, packed-indices-count keep I O))))
      (packed-index-below keep I O p m)
