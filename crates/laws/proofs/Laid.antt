-- Rows of one width laid one after the other over the front of an area: what stands where, and the loop that lays them. Assumes nothing.
use mathlib.Core.Path.{◌≡◌, refl, sym, ap, ◌∙◌}
use mathlib.Core.List.{List, [], ◌∷◌, ◌++◌, append_assoc}
use Prim.Native.Nat.{ℕ, zero, suc, ◌+◌, ◌-◌, ◌*◌, ◌<◌, ◌≤◌}
use native.Mathlib.Omega.{arith}
use native.Mathlib.Numerals.{add-one}
use native.Mathlib.Nat.{zero-mul, suc-mul}
use lib.ListN.{length, get_or, take, drop, length-append, length-drop, take-append-drop}
use lib.Seq.{take-suc, take-add, take_at, drop_at, drop-drop, get_or-drop}
use Rattle.laws.specs.Joined.{joined}
use Rattle.laws.proofs.Numbers.{row_in}
use Rattle.laws.proofs.Joined.{joined_at, joined-next}

module _ {A : Type 0} where
  -- ---- a value for each number below n

  pub singles-size : (g : ℕ → A) (n : ℕ) → length (joined (λ j. g j ∷ []) n) ≡ n
  unfolding joined
  singles-size g zero = refl
  singles-size g (suc n) = length-append (joined (λ j. g j ∷ []) n) (g n ∷ []) ∙ ap (λ (x : ℕ). x + 1) (singles-size g n) ∙ add-one n

  pub singles-get : (g : ℕ → A) (n j : ℕ) (r : List A) (z : A) → j < n → get_or (joined (λ j. g j ∷ []) n ++ r) j z ≡ g j
  singles-get g n j r z h =
      ap (λ (p : ℕ). get_or (joined (λ j. g j ∷ []) n ++ r) p z) (sym (plus (singles-size g j)))
      ∙ joined_at (λ j. g j ∷ []) n j 0 r z h (omega arith)
    where
      plus : {x j : ℕ} → x ≡ j → x + 0 ≡ j
      plus e = omega arith

  -- the n values from place a on
  pub singles-taken : (l : List A) (z : A) (g : ℕ → A) (a n : ℕ) → a + n ≤ length l → ((j : ℕ) → j < n → get_or l (a + j) z ≡ g j) → take n (drop a l) ≡ joined (λ j. g j ∷ []) n
  unfolding joined
  singles-taken l z g a zero h e = refl
  singles-taken l z g a (suc n) h e =
      take-suc (drop a l) n z (rw (length-drop a l) (omega arith))
      ∙ ap (λ (r : List A). r ++ (get_or (drop a l) n z ∷ [])) (singles-taken l z g a n (omega arith) (λ j m. e j (omega arith)))
      ∙ ap (λ (v : A). joined (λ j. g j ∷ []) n ++ (v ∷ [])) (get_or-drop a l n z ∙ e n (omega arith))

  -- ---- rows

  module _ (w : ℕ) (row : ℕ → List A) where
    pub laid-size : (n : ℕ) → ((i : ℕ) → i < n → length (row i) ≡ w) → length (joined row n) ≡ n * w
    unfolding joined
    laid-size zero h = sym (zero-mul w)
    laid-size (suc n) h = length-append (joined row n) (row n) ∙ rw (laid-size n (λ i m. h i (omega arith)), h n (omega arith)) (sym (suc-mul n w))

    pub laid-at : (n i j : ℕ) (r : List A) (z : A) → ((i : ℕ) → i < n → length (row i) ≡ w) → i < n → j < w → get_or (joined row n ++ r) (i * w + j) z ≡ get_or (row i) j z
    laid-at n i j r z h m l =
        ap (λ (p : ℕ). get_or (joined row n ++ r) (p + j) z) (sym (laid-size i (λ x y. h x (omega arith))))
        ∙ joined_at row n i j r z m (omega (arith, h i m))

    -- rows that stand in an area are its front
    pub laid-front : (n : ℕ) (l : List A) → ((i : ℕ) → i < n → take w (drop (i * w) l) ≡ row i) → take (n * w) l ≡ joined row n
    unfolding joined
    laid-front zero l h = ap (λ (p : ℕ). take p l) (zero-mul w)
    laid-front (suc n) l h =
        ap (λ (p : ℕ). take p l) (suc-mul n w)
        ∙ take-add (n * w) w l
        ∙ rw (laid-front n l (λ i m. h i (omega arith)), h n (omega arith))

    pub laid-whole : (n : ℕ) (l : List A) → ((i : ℕ) → i < n → take w (drop (i * w) l) ≡ row i) → l ≡ joined row n ++ drop (n * w) l
    laid-whole n l h = sym (take-append-drop (n * w) l) ∙ ap (λ (r : List A). r ++ drop (n * w) l) (laid-front n l h)

    -- ---- the loop: i rows are laid

    pub record Lays (n : ℕ) (l₀ : List A) (i : ℕ) (l : List A) : Type 0 where
      pub within : i ≤ n
      pub size : length l ≡ length l₀
      pub same : l ≡ joined row i ++ drop (i * w) l₀

    module _ {n : ℕ} {l₀ : List A} where
      pub lays-start : Lays n l₀ 0 l₀
      unfolding joined
      lays-start = record { within = omega arith; size = refl; same = ap (λ (p : ℕ). drop p l₀) (sym (zero-mul w)) }

      module _ {i : ℕ} {l : List A} (r : Lays n l₀ i l) where
        front : i < n → n * w ≤ length l₀ → length (joined row i) ≡ i * w
        front h m = cut (sym (length-append (joined row i) (drop (i * w) l₀)) ∙ ap length (sym r.same) ∙ r.size) (length-drop (i * w) l₀) (row_in i n w (length l₀) h m)
          where
            cut : {x y p s : ℕ} → x + y ≡ s → y ≡ s - p → p + w ≤ s → x ≡ p
            cut e f h = omega arith

        pub lays-next : {l' : List A} → i < n → n * w ≤ length l₀ → length l' ≡ length l → l' ≡ take (i * w) l ++ (row i ++ drop w (drop (i * w) l)) → Lays n l₀ (i + 1) l'
        lays-next {l'} h m s e = record {
          within = omega arith;
          size = s ∙ r.size;
          same =
              e
              ∙ rw (r.same, take_at (joined row i) (drop (i * w) l₀) (i * w) (front h m), drop_at (joined row i) (drop (i * w) l₀) (i * w) (front h m))
              (sym (append_assoc (joined row i) (row i) (drop w (drop (i * w) l₀))))
              ∙ ap (λ (x : List A). x ++ drop w (drop (i * w) l₀)) (sym (joined-next row i))
              ∙ ap (λ (x : List A). joined row (i + 1) ++ x) (drop-drop w (i * w) l₀ ∙ ap (λ (p : ℕ). drop p l₀) (next i));
        }
          where
            next : (i : ℕ) → i * w + w ≡ (i + 1) * w
            next i = sym (ap (λ (x : ℕ). x * w) (add-one i) ∙ suc-mul i w)

        pub lays-done : n ≤ i → l ≡ joined row n ++ drop (n * w) l₀
        lays-done h = r.same ∙ ap (λ (x : ℕ). joined row x ++ drop (x * w) l₀) (is r.within h)
          where
            is : {i n : ℕ} → i ≤ n → n ≤ i → i ≡ n
            is a b = omega arith
