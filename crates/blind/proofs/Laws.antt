-- What is seen of a frame by a row of distances is what the definition says of it, the rows keep what lies past their first n places, and the answer that becomes of all frames. Assumes nothing.
use mathlib.Core.Path.{◌≡◌, refl, sym, ap, ◌∙◌}
use mathlib.Core.List.{List, ◌++◌, map}
use mathlib.Core.Bool.{Bool, true, false}
use Prim.Native.Nat.{ℕ, ◌<◌, ◌≤◌}
use native.Mathlib.Omega.{arith}
use native.Mathlib.Decide.{ℕ_discrete}
use native.Mathlib.Nat.{le_of_eq, le_of_lt}
use lib.ListN.{length, drop, replicate, length-replicate, length-map, get_or-append}
use lib.Ieee.{Float, nan, lt, eq}
use borrow.Author.Tests.{eq-eqb, ne_eqb}
use Rattle.laws.specs.Area.{at, zero64}
use Rattle.laws.proofs.Every.{every-same}
use Rattle.laws.proofs.Changed.{drop-later}
use Rattle.laws.proofs.Parts.{Scratch}
use Rattle.laws.proofs.Written.{written-tail}
use Rattle.areas.specs.Filled.{filled}
use Rattle.affinity_sigma.specs.Sigma.{smallest, sigma_shares, last_sum, blind_search}
use Rattle.affinity_sigma.proofs.Watched.{last-sum-alone}
use Rattle.affinity_distances.specs.Distances.{square_of, squares_of, distance_row}
use Rattle.affinity_near.specs.Near.{Pair, values_over, indices_over}
use Rattle.affinity_near.proofs.Apart.{row-own, row_other, row-tail, row-size}
use Rattle.affinity.specs.Exact.{distances_of}
use Rattle.affinity.specs.Neighbours.{values_in, nearest_frames}
use Rattle.affinity.proofs.Shares.{shares-tail}
use Rattle.affinity.proofs.Named.{over-tail, frames-count}
use Rattle.run_record.specs.declared.Settings.{Settings}
use Rattle.run_record.specs.Record.{is_tree, k_of}
use Rattle.std.specs.Prelude.{Ok, Err}
use Rattle.blind.specs.Room.{SightRoom, KeptPast}
use Rattle.blind.specs.Blind.{all_at_zero, blind_at, alone_at, how_many, SightRows, sight_rows, sight_fault, sight_outcome, sighted}
use Rattle.blind.proofs.Watches.{last-sum-read}

-- ---- by a row that holds the distances

module _ (ds es : List Float) (n : ℕ) (same : (j : ℕ) → j < n → at ds j ≡ at es j) where
  blind-by : (perplexity : Float) (p : List Float) {sum : Float} {blind : Bool} → n ≤ length p → sum ≡ last_sum ds n perplexity p → blind ≡ lt sum smallest → blind ≡ blind_search es n perplexity
  blind-by perplexity p h e b = b ∙ ap (λ (v : Float). lt v smallest) (e ∙ last-sum-read ds es n same perplexity p ∙ last-sum-alone es n perplexity p h)

  alone-by : all_at_zero ds n ≡ all_at_zero es n
  alone-by = every-same (λ j. eq (at ds j) zero64) (λ j. eq (at es j) zero64) n (λ j l. ap (λ (v : Float). eq v zero64) (same j l))

module _ (t : List Float) (n f i : ℕ) (hi : i < n) (perplexity : Float) where
  -- ---- of all n frames

  module _ (X₀ H₀ : List Float) (h_x : n ≤ length X₀) (h_h : n ≤ length H₀) {X₁ : List Float} (x : X₁ ≡ distance_row t n f i X₀) where
    all_there : (j : ℕ) → j < n → at X₁ j ≡ at (distances_of t n f i) j
    all_there j l =
        let z : n ≤ length (replicate n zero64) = le_of_eq (sym (length-replicate n zero64)) in
        ap (λ (r : List Float). at r j) x
        ∙ elim (ℕ_discrete j i) [
          | yes e ↦ rw e (row-own t n f i X₀ h_x hi ∙ sym (row-own t n f i (replicate n zero64) z hi))
          | no d ↦ row_other t n f i X₀ h_x j l d ∙ sym (row_other t n f i (replicate n zero64) z j l d)
        ]

    pub all_seen : {sum : Float} {blind alone : Bool} → sum ≡ last_sum X₁ n perplexity H₀ → blind ≡ lt sum smallest → alone ≡ all_at_zero X₁ n
        → (blind ≡ blind_search (distances_of t n f i) n perplexity) × (alone ≡ all_at_zero (distances_of t n f i) n)
    all_seen v b a = (blind-by X₁ (distances_of t n f i) n all_there perplexity H₀ h_h v b, a ∙ alone-by X₁ (distances_of t n f i) n all_there)

    pub all-tails : {H₁ : List Float} → length H₁ ≡ length H₀ → H₁ ≡ sigma_shares X₁ n perplexity H₀ → (KeptPast n X₀ X₁) × (KeptPast n H₀ H₁)
    all-tails {H₁} s h = (record { tail = ap (drop n) x ∙ row-tail t n f i X₀ h_x hi }, record { tail = shares-tail X₁ (distances_of t n f i) n perplexity H₀ H₁ all_there h_h s h })

  -- ---- of the k nearest

  module _ (k : ℕ) (hk : k < n) where
    abbrev frames : List Pair
    frames = nearest_frames t n f k i

    frames-are : length frames ≡ k
    frames-are = frames-count t n f k perplexity i hi hk

    near-tail : {B : Type 0} (g : Pair → B) (d : List B) → drop n (map g frames ++ drop (length frames) d) ≡ drop n d
    near-tail {B} g d = drop-later (map g frames ++ drop (length frames) d) d k n (le_of_lt hk) (over-tail g frames d k frames-are)

    module _ (X₀ H₀ : List Float) (h_x : n ≤ length X₀) {X₁ H₁ : List Float} (x : X₁ ≡ distance_row t n f i X₀) (h : H₁ ≡ values_over frames H₀) where
      near-there : (j : ℕ) → j < k → at H₁ j ≡ at (values_in frames) j
      near-there j l =
          ap (λ (r : List Float). at r j) h
          ∙ get_or-append (values_in frames) (drop (length frames) H₀) nan j (omega (arith, length-map frames (λ (p : Pair). p.value), frames-are))

      room : k ≤ length X₁
      room = omega (arith, ap length x, row-size t n f i X₀ h_x, hk, h_x)

      pub near-seen : {sum : Float} {blind alone : Bool} → sum ≡ last_sum H₁ k perplexity X₁ → blind ≡ lt sum smallest → alone ≡ all_at_zero H₁ k
          → (blind ≡ blind_search (values_in frames) k perplexity) × (alone ≡ all_at_zero (values_in frames) k)
      near-seen v b a = (blind-by H₁ (values_in frames) k near-there perplexity X₁ room v b, a ∙ alone-by H₁ (values_in frames) k near-there)

      pub near-tails : {X₂ : List Float} → length X₂ ≡ length X₁ → X₂ ≡ sigma_shares H₁ k perplexity X₁ → (KeptPast n X₀ X₂) × (KeptPast n H₀ H₁)
      near-tails {X₂} s e =
          let shares = drop-later X₂ X₁ k n (le_of_lt hk) (shares-tail H₁ (values_in frames) k perplexity X₁ X₂ near-there room s e) in
          (record { tail = shares ∙ ap (drop n) x ∙ row-tail t n f i X₀ h_x hi }, record { tail = ap (drop n) h ∙ near-tail (λ (p : Pair). p.value) H₀ })

    pub near-places : {I₀ I₁ : List ℕ} → I₁ ≡ indices_over frames I₀ → KeptPast n I₀ I₁
    near-places {I₀} e = record { tail = ap (drop n) e ∙ near-tail (λ (p : Pair). p.index) I₀ }

-- ---- by method

module _ (s : Settings) (t : List Float) (i : ℕ) {blind alone : Bool} where
  pub sees-tree : {k : ℕ} → k ≡ k_of s → is_tree s.method ≡ true
      → (blind ≡ blind_search (values_in (nearest_frames t s.n s.f k i)) k s.perplexity) × (alone ≡ all_at_zero (values_in (nearest_frames t s.n s.f k i)) k)
      → (blind ≡ blind_at s t i) × (alone ≡ alone_at s t i)
  unfolding blind_at alone_at
  sees-tree q e w = rw (e, sym q) w

  pub sees-exact : is_tree s.method ≡ false
      → (blind ≡ blind_search (distances_of t s.n s.f i) s.n s.perplexity) × (alone ≡ all_at_zero (distances_of t s.n s.f i) s.n)
      → (blind ≡ blind_at s t i) × (alone ≡ alone_at s t i)
  unfolding blind_at alone_at
  sees-exact e w = rw e w

-- ---- the loop: rows that one frame after the other has used

-- nothing is asked of a row but its length
pub scratch-kept : {A : Type 0} {n : ℕ} {l₀ l l' : List A} → length l' ≡ length l → KeptPast n l l' → Scratch n l₀ l → Scratch n l₀ l'
scratch-kept e k s = record { size = e ∙ s.size; tail = k.tail ∙ s.tail }

pub kept-untouched : {A : Type 0} {n : ℕ} {l : List A} → KeptPast n l l
kept-untouched = record { tail = refl }

pub room-kept : {s : Settings} {t q v₀ h₀ x₀ v h x : ℕ} → SightRoom s t q v₀ h₀ x₀ → v ≡ v₀ → h ≡ h₀ → x ≡ x₀ → SightRoom s t q v h x
room-kept r a b c = rw (a, b, c) r

pub kept_by : {A : Type 0} {n : ℕ} {l₀ l : List A} → Scratch n l₀ l → KeptPast n l₀ l
kept_by s = record { tail = s.tail }

-- ---- the answer

cleared : {A : Type 0} (z : A) {n : ℕ} {l₀ l l' : List A} → l' ≡ filled z n l → KeptPast n l₀ l → l' ≡ filled z n l₀
cleared z {n} e k = e ∙ ap (λ r. replicate n z ++ r) k.tail

module _ (s : Settings) (table : List Float) (r : SightRows) {k : ℕ} (q : k ≡ sight_fault s table r) where
  pub sight-refused : (k ≡ 0 → ⊥) → sight_outcome (Err k) r ≡ sighted s table r
  unfolding sighted
  sight-refused n = rw (ne_eqb (sight_fault s table r) 0 (λ e. n (q ∙ e)), q)

  pub sight-seen : {Q₁ X₁ H₁ Q₂ X₂ H₂ : List Float} {I₁ I₂ : List ℕ} {blind alone : ℕ} → k ≡ 0 → Q₁ ≡ squares_of table s.n s.f r.squares
      → (KeptPast s.n r.values X₁) × (KeptPast s.n r.shares H₁) × (KeptPast s.n r.places I₁)
      → (Q₂ ≡ filled zero64 s.n Q₁) × (X₂ ≡ filled zero64 s.n X₁) × (H₂ ≡ filled zero64 s.n H₁) × (I₂ ≡ filled 0 s.n I₁)
      → (blind ≡ how_many (blind_at s table) s.n) × (alone ≡ how_many (alone_at s table) s.n)
      → sight_outcome (Ok (record { blind = blind; alone = alone })) (sight_rows Q₂ X₂ H₂ I₂) ≡ sighted s table r
  unfolding sighted
  sight-seen {Q₁} e q₁ tails zeros c =
      let n = s.n in
      let none = eq-eqb (sight_fault s table r) 0 (sym q ∙ e) in
      let squared : KeptPast n r.squares Q₁ = record { tail = ap (drop n) q₁ ∙ written-tail (λ i. square_of table s.f i) n r.squares } in
      rw (none, c.0, c.1, cleared zero64 zeros.0 squared, cleared zero64 zeros.1 tails.0, cleared zero64 zeros.2 tails.1, cleared 0 zeros.3 tails.2)
