-- All lists packed: after i of them the links left stand at the front, and their offsets; what is still to be read is as it was. Premises: `Listed`, `Climbs`, `Staying`.
use mathlib.Core.Path.{◌≡◌, refl, sym, ap, subst, ◌∙◌}
use mathlib.Core.List.{List, [], ◌∷◌, ◌++◌, map}
use Prim.Native.Nat.{ℕ, ◌+◌, ◌-◌, ◌<◌, ◌≤◌}
use native.Mathlib.Omega.{arith}
use native.Mathlib.Nat.{le_antisymm, le_refl}
use lib.ListN.{length, set, drop}
use Rattle.laws.specs.Area.{num}
use Rattle.laws.specs.Joined.{joined, each, written}
use Rattle.laws.proofs.Joined.{joined-none, joined-next, length-map}
use Rattle.take_gone.specs.Gone.{stands_at, Climbs}
use Rattle.take_gone.proofs.Fronts.{Fronts, fronts-start, fronts-next, fronts-at, fronts-as}
use Rattle.take_rows.specs.Rows.{shrunk, Staying}
use Rattle.take_lists.specs.Packed.{kept_links, indices_left, weights_left, links_before, links_left, packed_indices, packed_weights, packed_offsets, Listed}
use Rattle.take_lists.specs.Steps.{kept_from, indices_from, weights_from, closed_weights, closed_indices, closed_offsets}
use Rattle.take_rows.specs.Rows.{cleared_from}
use Rattle.take_lists.proofs.Fronting.{fronts-join, front-shrunk}
use Rattle.take_lists.proofs.OneList.{kept_same, indices-same, weights-same}
use Rattle.take_lists.proofs.Bounds.{kept-from, lists-rise, before-none, before-next, before-low, before-all, packed-indices-size, packed-weights-size, packed-offsets-size}

pub record Closes (keep W₀ I₀ O₀ : List ℕ) (i q : ℕ) (W I O : List ℕ) : Type 0 where
  pub within : i ≤ length keep
  pub count : q ≡ links_before keep I₀ O₀ i
  pub weights : Fronts W₀ (joined (λ h. weights_left keep W₀ I₀ O₀ (num keep h)) i) q W
  pub indices : Fronts I₀ (joined (λ h. indices_left keep I₀ O₀ (num keep h)) i) q I
  pub offsets : Fronts O₀ (each (links_before keep I₀ O₀) i) i O

module _ {keep W₀ I₀ O₀ : List ℕ} {n : ℕ} (climbs : Climbs keep) (kept : Staying keep n) (lists : Listed n (length W₀) (length I₀) O₀) where
  pub closes-start : Closes keep W₀ I₀ O₀ 0 0 W₀ I₀ O₀
  closes-start = record {
    within = omega arith;
    count = sym (before-none keep I₀ O₀);
    weights = fronts-as (sym (joined-none (λ h. weights_left keep W₀ I₀ O₀ (num keep h)))) (fronts-start W₀);
    indices = fronts-as (sym (joined-none (λ h. indices_left keep I₀ O₀ (num keep h)))) (fronts-start I₀);
    offsets = fronts-as (sym (joined-none (λ h. links_before keep I₀ O₀ h ∷ []))) (fronts-start O₀);
  }

  module _ {i q : ℕ} {W I O : List ℕ} (r : Closes keep W₀ I₀ O₀ i q W I O) where
    -- an offset more fits, and what it says is no more than there were links
    pub closes-offset : (i < length O) × (q ≤ num O₀ n)
    closes-offset = (
      omega (arith, r.within, kept.few, lists.offsets-long, r.offsets.size),
      omega (arith, r.count, before-all lists I₀ climbs kept i r.within),
    )

    module _ (l : i < length keep) {j : ℕ} (ej : j ≡ num keep i) where
      pub closes-frame : j + 1 < length O
      closes-frame = omega (arith, ej, kept.below i l, lists.offsets-long, r.offsets.size)

      -- the list of frame j, from a up to b
      module _ {a b : ℕ} (ea : a ≡ num O j) (eb : b ≡ num O (j + 1)) where
        -- the offsets that are read are as they were
        start-same : a ≡ num O₀ (num keep i)
        start-same = ea ∙ ap (num O) ej ∙ fronts-at r.offsets 0 (num keep i) (kept.no_lower i l)

        end_same : b ≡ num O₀ (num keep i + 1)
        end_same = eb ∙ ap (λ (x : ℕ). num O (x + 1)) ej ∙ fronts-at r.offsets 0 (num keep i + 1) (omega (arith, kept.no_lower i l))

        -- the list lies within the areas, and what was written ends no higher than it begins
        pub closes-room : (q ≤ a) × (a ≤ b) × (b ≤ length W) × (b ≤ length I)
        closes-room =
            let u : num O₀ (num keep i + 1) ≤ num O₀ n = lists-rise lists (num keep i + 1) n (omega (arith, kept.below i l)) (omega arith) in
            let m = lists.offsets-rise (num keep i) (kept.below i l) in (
              omega (arith, start-same, r.count, before-low lists I₀ climbs kept i l),
              omega (arith, start-same, end_same, m),
              omega (arith, end_same, u, lists.weights-long, r.weights.size),
              omega (arith, end_same, u, lists.indices-long, r.indices.size),
            )

        size_same : b - a ≡ num O₀ (num keep i + 1) - num O₀ (num keep i)
        size_same = ap (λ (x : ℕ). x - a) end_same ∙ ap (λ (x : ℕ). num O₀ (num keep i + 1) - x) start-same

        abbrev a₀ : ℕ
        a₀ = num O₀ (num keep i)

        abbrev k₀ : ℕ
        k₀ = num O₀ (num keep i + 1) - num O₀ (num keep i)

        low : q ≤ a₀
        low = omega (arith, r.count, before-low lists I₀ climbs kept i l)

        indices-stand : (t : ℕ) → t < k₀ → num I (a₀ + t) ≡ num I₀ (a₀ + t)
        indices-stand t m = fronts-at r.indices 0 (a₀ + t) (omega (arith, low))

        weights-stand : (t : ℕ) → t < k₀ → num W (a₀ + t) ≡ num W₀ (a₀ + t)
        weights-stand t m = fronts-at r.weights 0 (a₀ + t) (omega (arith, low))

        indices-given : indices_from keep I a (b - a) ≡ indices_left keep I₀ O₀ (num keep i)
        indices-given =
            ap (λ (x : ℕ). indices_from keep I x (b - a)) start-same
            ∙ ap (indices_from keep I a₀) size_same
            ∙ indices-same keep I I₀ a₀ k₀ indices-stand
            ∙ ap (map (λ t. stands_at keep (num I₀ (a₀ + t)))) (sym (kept-from keep I₀ O₀ (num keep i)))

        weights-given : weights_from keep W I a (b - a) ≡ weights_left keep W₀ I₀ O₀ (num keep i)
        weights-given =
            ap (λ (x : ℕ). weights_from keep W I x (b - a)) start-same
            ∙ ap (weights_from keep W I a₀) size_same
            ∙ weights-same keep I I₀ a₀ k₀ indices-stand W W₀ weights-stand
            ∙ ap (map (λ t. num W₀ (a₀ + t))) (sym (kept-from keep I₀ O₀ (num keep i)))

        kept-given : kept_from keep I a (b - a) ≡ kept_links keep I₀ O₀ (num keep i)
        kept-given =
            ap (λ (x : ℕ). kept_from keep I x (b - a)) start-same
            ∙ ap (kept_from keep I a₀) size_same
            ∙ kept_same keep I I₀ a₀ k₀ indices-stand
            ∙ sym (kept-from keep I₀ O₀ (num keep i))

        -- a list more
        pub closes-next : {q' : ℕ} {W' I' : List ℕ}
            → q' ≡ q + length (kept_from keep I a (b - a))
            → W' ≡ written (weights_from keep W I a (b - a)) q W
            → I' ≡ written (indices_from keep I a (b - a)) q I
            → length W' ≡ length W
            → length I' ≡ length I
            → Closes keep W₀ I₀ O₀ (i + 1) q' W' I' (set O i q)
        closes-next {q'} {W'} {I'} e w x sw sx =
            let c : q' ≡ q + length (kept_links keep I₀ O₀ (num keep i)) = e ∙ ap (λ (y : List ℕ). q + length y) kept-given in
            let ew : q + length (weights_left keep W₀ I₀ O₀ (num keep i)) ≡ q' = ap (λ (y : ℕ). q + y) (length-map (λ t. num W₀ (a₀ + t)) (kept_links keep I₀ O₀ (num keep i))) ∙ sym c in
            let ex : q + length (indices_left keep I₀ O₀ (num keep i)) ≡ q' = ap (λ (y : ℕ). q + y) (length-map (λ t. stands_at keep (num I₀ (a₀ + t))) (kept_links keep I₀ O₀ (num keep i))) ∙ sym c in
            record {
              within = omega arith;
              count = omega (arith, c, r.count, before-next keep I₀ O₀ i);
              weights = fronts-as (sym (joined-next (λ h. weights_left keep W₀ I₀ O₀ (num keep h)) i))
                  (subst (λ (y : ℕ). Fronts W₀ (joined (λ h. weights_left keep W₀ I₀ O₀ (num keep h)) i ++ weights_left keep W₀ I₀ O₀ (num keep i)) y W') ew
                  (fronts-join (weights_left keep W₀ I₀ O₀ (num keep i)) (w ∙ ap (λ (y : List ℕ). written y q W) weights-given) sw r.weights));
              indices = fronts-as (sym (joined-next (λ h. indices_left keep I₀ O₀ (num keep h)) i))
                  (subst (λ (y : ℕ). Fronts I₀ (joined (λ h. indices_left keep I₀ O₀ (num keep h)) i ++ indices_left keep I₀ O₀ (num keep i)) y I') ex
                  (fronts-join (indices_left keep I₀ O₀ (num keep i)) (x ∙ ap (λ (y : List ℕ). written y q I) indices-given) sx r.indices));
              offsets = fronts-as (ap (λ (y : ℕ). each (links_before keep I₀ O₀) i ++ (y ∷ [])) r.count ∙ sym (joined-next (λ h. links_before keep I₀ O₀ h ∷ []) i))
                  (fronts-next q (omega (arith, closes-offset.0, r.offsets.size)) r.offsets);
            }

    -- all lists, and the end of the last one
    pub closes-done : length keep ≤ i
        → (q ≡ links_left keep I₀ O₀)
        × (W ≡ closed_weights keep W₀ I₀ O₀)
        × (I ≡ closed_indices keep I₀ O₀)
        × (set O i q ≡ closed_offsets keep I₀ O₀)
    closes-done h =
        let s : i ≡ length keep = le_antisymm r.within h in
        let c : q ≡ links_left keep I₀ O₀ = r.count ∙ ap (links_before keep I₀ O₀) s in (
          c,
          r.weights.same ∙ ap (λ (x : ℕ). joined (λ h. weights_left keep W₀ I₀ O₀ (num keep h)) x ++ drop q W₀) s ∙ ap (λ (x : ℕ). packed_weights keep W₀ I₀ O₀ ++ drop x W₀) c,
          r.indices.same ∙ ap (λ (x : ℕ). joined (λ h. indices_left keep I₀ O₀ (num keep h)) x ++ drop q I₀) s ∙ ap (λ (x : ℕ). packed_indices keep I₀ O₀ ++ drop x I₀) c,
          (fronts-next q (omega (arith, closes-offset.0, r.offsets.size)) r.offsets).same
              ∙ ap (λ (y : ℕ). each (links_before keep I₀ O₀) i ++ (y ∷ []) ++ drop (i + 1) O₀) r.count
              ∙ ap (λ (y : List ℕ). y ++ drop (i + 1) O₀) (sym (joined-next (λ h. links_before keep I₀ O₀ h ∷ []) i))
              ∙ ap (λ (x : ℕ). each (links_before keep I₀ O₀) (x + 1) ++ drop (x + 1) O₀) s,
        )

-- ---- then zeros

module _ (keep W₀ I₀ O₀ : List ℕ) {n w x : ℕ} (climbs : Climbs keep) (kept : Staying keep n) (lists : Listed n w x O₀) where
  pub left-within : {q s : ℕ} → q ≡ links_left keep I₀ O₀ → s ≡ num O₀ n → q ≤ s
  left-within e f = omega (arith, e, f, before-all lists I₀ climbs kept (length keep) (le_refl (length keep)))

  module _ {q s : ℕ} (e : q ≡ links_left keep I₀ O₀) (f : s ≡ num O₀ n) where
    cleared-to : {A : Type 0} (z : A) (l : List A) → cleared_from z q s l ≡ cleared_from z (links_left keep I₀ O₀) (num O₀ n) l
    cleared-to z l = ap (λ (y : ℕ). cleared_from z y s l) e ∙ ap (λ (y : ℕ). cleared_from z (links_left keep I₀ O₀) y l) f

    pub weights-shrunk : {W W' : List ℕ} → W ≡ closed_weights keep W₀ I₀ O₀ → W' ≡ cleared_from 0 q s W → W' ≡ shrunk 0 (num O₀ n) (packed_weights keep W₀ I₀ O₀) W₀
    weights-shrunk {W} {W'} g h =
        front-shrunk 0 (packed_weights keep W₀ I₀ O₀) W₀ (packed-weights-size keep W₀ I₀ O₀ (length keep)) (left-within refl refl) g (h ∙ cleared-to 0 W)

    pub indices-shrunk : {I I' : List ℕ} → I ≡ closed_indices keep I₀ O₀ → I' ≡ cleared_from 0 q s I → I' ≡ shrunk 0 (num O₀ n) (packed_indices keep I₀ O₀) I₀
    indices-shrunk {I} {I'} g h =
        front-shrunk 0 (packed_indices keep I₀ O₀) I₀ (packed-indices-size keep I₀ O₀ (length keep)) (left-within refl refl) g (h ∙ cleared-to 0 I)

  pub offsets-shrunk : {O O' : List ℕ} → O ≡ closed_offsets keep I₀ O₀ → O' ≡ cleared_from 0 (length keep + 1) (n + 1) O → O' ≡ shrunk 0 (n + 1) (packed_offsets keep I₀ O₀) O₀
  offsets-shrunk g h = front-shrunk 0 (packed_offsets keep I₀ O₀) O₀ (packed-offsets-size keep I₀ O₀) (omega (arith, kept.few)) g h
