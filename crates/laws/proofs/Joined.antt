-- Laws of the numbers that a test picks, and of lists one after the other. Assumes nothing.
use mathlib.Core.Path.{◌≡◌, refl, sym, ap, subst, ◌∙◌}
use mathlib.Core.Logic.{⊎_elim}
use mathlib.Core.List.{List, [], ◌∷◌, ◌++◌, map, append_assoc, append-nil}
use mathlib.Core.Bool.{Bool, true, false, cond, true≢false}
use Prim.Native.Nat.{ℕ, zero, suc, ◌+◌, ◌-◌, ◌<◌, ◌≤◌}
use native.Mathlib.Omega.{arith}
use native.Mathlib.Decide.{ℕ_discrete, dec_lt}
use native.Mathlib.Numerals.{add-one}
use native.Mathlib.Nat.{le_refl, not-suc-le-zero, le_of_suc-le-suc, mul-one}
use lib.Dec.{eqb}
use lib.ListN.{length, get_or, drop, length-append, get_or-append}
use lib.Seq.{get_or-append_seam, get_or-append-add, get_or-drop}
use borrow.Author.Tests.{eq-eqb, ne_eqb, eqb-true}
use Rattle.laws.specs.Loops.{first}
use Rattle.laws.specs.Area.{num}
use Rattle.laws.specs.Sums.{sum, bit}
use Rattle.laws.specs.Joined.{those, joined}
use Rattle.laws.proofs.Bools.{two}
use Rattle.laws.proofs.First.{first-none, first_some, first_holds}
use Rattle.laws.proofs.Sums.{sum-const}

pub length-those : (p : ℕ → Bool) (n : ℕ) → length (those p n) ≡ sum (λ j. bit (p j)) n
unfolding those sum bit
length-those p zero = refl
length-those p (suc n) = length-append (those p n) (cond (p n) (n ∷ []) []) ∙ ap (λ (x : ℕ). x + length (cond (p n) (n ∷ []) [])) (length-those p n) ∙
    ap (λ (x : ℕ). sum (λ j. bit (p j)) n + x) (one (p n))
  where
    one : (b : Bool) → length (cond b (n ∷ []) []) ≡ bit b
    one true = refl
    one false = refl

module _ (p : ℕ → Bool) where
  yes-one : (n : ℕ) → p n ≡ true → those p (suc n) ≡ those p n ++ (n ∷ [])
  unfolding those
  yes-one n e = rw e

  no_one : (n : ℕ) → p n ≡ false → those p (suc n) ≡ those p n
  unfolding those
  no_one n e = rw e (append-nil (those p n))

  pub those-yes : (n : ℕ) → p n ≡ true → those p (n + 1) ≡ those p n ++ (n ∷ [])
  those-yes n e = ap (those p) (add-one n) ∙ yes-one n e

  pub those-no : (n : ℕ) → p n ≡ false → those p (n + 1) ≡ those p n
  those-no n e = ap (those p) (add-one n) ∙ no_one n e

  pub those-none : those p 0 ≡ []
  unfolding those
  those-none = refl

  -- a number more: it stands before, or it is the last
  length-yes : (n : ℕ) → p n ≡ true → length (those p (suc n)) ≡ length (those p n) + 1
  length-yes n e = ap length (yes-one n e) ∙ length-append (those p n) (n ∷ [])

  at_old : (n t : ℕ) → t < length (those p n) → num (those p (suc n)) t ≡ num (those p n) t
  at_old n t l = ⊎_elim
      (λ e. ap (λ (r : List ℕ). num r t) (yes-one n e) ∙ get_or-append (those p n) (n ∷ []) 0 t l)
      (λ e. ap (λ (r : List ℕ). num r t) (no_one n e))
      (two (p n))

  at_new : (n t : ℕ) → p n ≡ true → t ≡ length (those p n) → num (those p (suc n)) t ≡ n
  at_new n t e q = ap (λ (r : List ℕ). num r t) (yes-one n e) ∙ ap (λ (s : ℕ). num (those p n ++ (n ∷ [])) s) q ∙ get_or-append_seam (those p n) n [] 0

  -- a place of the longer list that is not an old one is the new last one
  place_of : (n t : ℕ) → t < length (those p (suc n)) → (t < length (those p n) → ⊥) → (p n ≡ true) × (t ≡ length (those p n))
  place_of n t l m = ⊎_elim
      (λ e. (e, omega (arith, length-yes n e)))
      (λ e. absurd (m (subst (λ (r : List ℕ). t < length r) (no_one n e) l)))
      (two (p n))

  -- each number that stands there is below n, and the test holds of it
  pub those-below : (n t : ℕ) → t < length (those p n) → num (those p n) t < n
  unfolding those
  those-below zero t l = absurd (not-suc-le-zero l)
  those-below (suc n) t l = elim (dec_lt t (length (those p n))) [
    | yes m ↦ omega (arith, at_old n t m, those-below n t m)
    | no m ↦ omega (arith, at_new n t (place_of n t l m).0 (place_of n t l m).1)
  ]

  pub those-holds : (n t : ℕ) → t < length (those p n) → p (num (those p n) t) ≡ true
  unfolding those
  those-holds zero t l = absurd (not-suc-le-zero l)
  those-holds (suc n) t l = elim (dec_lt t (length (those p n))) [
    | yes m ↦ ap p (at_old n t m) ∙ those-holds n t m
    | no m ↦ ap p (at_new n t (place_of n t l m).0 (place_of n t l m).1) ∙ (place_of n t l m).0
  ]

  pub those-rise : (n s t : ℕ) → s < t → t < length (those p n) → num (those p n) s < num (those p n) t
  unfolding those
  those-rise zero s t h l = absurd (not-suc-le-zero l)
  those-rise (suc n) s t h l = elim (dec_lt t (length (those p n))) [
    | yes m ↦ omega (arith, at_old n t m, at_old n s (omega arith), those-rise n s t h m)
    | no m ↦ omega (arith, at_new n t (place_of n t l m).0 (place_of n t l m).1, at_old n s (omega (arith, (place_of n t l m).1)), those-below n s (omega (arith, (place_of n t l m).1)))
  ]

  those-grow : (n : ℕ) → length (those p n) ≤ length (those p (suc n))
  those-grow n = ⊎_elim (λ e. omega (arith, length-yes n e)) (λ e. omega (arith, ap length (no_one n e))) (two (p n))

  -- a number of which the test holds stands there
  pub those-at : (n i : ℕ) → i < n → p i ≡ true → (length (those p i) < length (those p n)) × (num (those p n) (length (those p i)) ≡ i)
  those-at zero i l e = absurd (not-suc-le-zero l)
  those-at (suc n) i l e = elim (dec_lt i n) [
    | yes m ↦ (omega (arith, (those-at n i m e).0, those-grow n), at_old n (length (those p i)) (those-at n i m e).0 ∙ (those-at n i m e).1)
    | no m ↦ subst (λ (x : ℕ). (length (those p x) < length (those p (suc n))) × (num (those p (suc n)) (length (those p x)) ≡ x)) (last i n l m)
        (let e' : p n ≡ true = subst (λ (x : ℕ). p x ≡ true) (sym (last i n l m)) e in (omega (arith, length-yes n e'), at_new n (length (those p n)) e' refl))
  ]
    where
      last : (i n : ℕ) → i < suc n → (i < n → ⊥) → n ≡ i
      last i n l m = omega arith

  -- so a search in it says whether the test holds
  abbrev pub place_in : ℕ → ℕ → ℕ
  place_in n i = first (λ t. eqb (num (those p n) t) i) (length (those p n))

  pub spot_yes : (n i : ℕ) → i < n → p i ≡ true → place_in n i < length (those p n)
  spot_yes n i l e = first_some (λ t. eqb (num (those p n) t) i) (length (those p n)) (length (those p i)) (those-at n i l e).0 (eq-eqb _ _ (those-at n i l e).1)

  pub spot_no : (n i : ℕ) → p i ≡ false → place_in n i ≡ length (those p n)
  spot_no n i e = first-none (λ t. eqb (num (those p n) t) i) (length (those p n)) (λ t l. ne_eqb (num (those p n) t) i (λ x. true≢false (sym (those-holds n t l) ∙ ap p x ∙ e)))

  pub spot-at : (n i : ℕ) → i < n → p i ≡ true → num (those p n) (place_in n i) ≡ i
  spot-at n i l e = eqb-true _ _ (first_holds (λ t. eqb (num (those p n) t) i) (length (those p n)) (spot_yes n i l e))

module _ {A : Type 0} where
  pub length-joined : (f : ℕ → List A) (n : ℕ) → length (joined f n) ≡ sum (λ i. length (f i)) n
  unfolding joined sum
  length-joined f zero = refl
  length-joined f (suc n) = length-append (joined f n) (f n) ∙ ap (λ (x : ℕ). x + length (f n)) (length-joined f n)

  pub joined-none : (f : ℕ → List A) → joined f 0 ≡ []
  unfolding joined
  joined-none f = refl

  pub joined-next : (f : ℕ → List A) (n : ℕ) → joined f (n + 1) ≡ joined f n ++ f n
  unfolding joined
  joined-next f n = ap (joined f) (add-one n)

  pub joined-grow : (f : ℕ → List A) (n : ℕ) → length (joined f (n + 1)) ≡ length (joined f n) + length (f n)
  joined-grow f n = ap length (joined-next f n) ∙ length-append (joined f n) (f n)

  pub joined-mono : (f : ℕ → List A) (j n : ℕ) → j ≤ n → length (joined f j) ≤ length (joined f n)
  joined-mono f j zero h = subst (λ (x : ℕ). length (joined f j) ≤ length (joined f x)) (nil j h) (le_refl (length (joined f j)))
    where
      nil : (j : ℕ) → j ≤ 0 → j ≡ 0
      nil j h = omega arith
  joined-mono f j (suc n) h = elim (ℕ_discrete j (suc n)) [
    | yes e ↦ subst (λ (x : ℕ). length (joined f j) ≤ length (joined f x)) e (le_refl (length (joined f j)))
    | no d ↦ omega (arith, joined-mono f j n (omega arith), ap (λ (x : ℕ). length (joined f x)) (add-one n), joined-grow f n)
  ]

  -- what stands in list j
  pub joined_at : (f : ℕ → List A) (n j t : ℕ) (r : List A) (z : A) → j < n → t < length (f j) → get_or (joined f n ++ r) (length (joined f j) + t) z ≡ get_or (f j) t z
  unfolding joined
  joined_at f zero j t r z h l = absurd (not-suc-le-zero h)
  joined_at f (suc n) j t r z h l =
      ap (λ (x : List A). get_or x (length (joined f j) + t) z) (append_assoc (joined f n) (f n) r)
      ∙ elim (dec_lt j n) [
        | yes m ↦ joined_at f n j t (f n ++ r) z m l
        | no m ↦ subst (λ (x : ℕ). get_or (joined f n ++ (f n ++ r)) (length (joined f x) + t) z ≡ get_or (f x) t z) (last j n h m)
            (get_or-append-add (joined f n) (f n ++ r) t z ∙ get_or-append (f n) r z t (subst (λ (x : ℕ). t < length (f x)) (sym (last j n h m)) l))
      ]
    where
      last : (i n : ℕ) → i < suc n → (i < n → ⊥) → n ≡ i
      last i n l m = omega arith

  -- what holds of each element of each list holds of each element of all
  pub joined-all : (P : A → Type 0) (f : ℕ → List A) (n : ℕ) (z : A) → ((i t : ℕ) → i < n → t < length (f i) → P (get_or (f i) t z)) → (p : ℕ) → p < length (joined f n) → P (get_or (joined f n) p z)
  unfolding joined
  joined-all P f zero z h p l = absurd (not-suc-le-zero l)
  joined-all P f (suc n) z h p l = elim (dec_lt p (length (joined f n))) [
    | yes m ↦ subst P (sym (get_or-append (joined f n) (f n) z p m)) (joined-all P f n z (λ i t a b. h i t (omega arith) b) p m)
    | no m ↦
        let e : p ≡ length (joined f n) + (p - length (joined f n)) = omega arith in
        subst P (sym (ap (λ (x : ℕ). get_or (joined f n ++ f n) x z) e ∙ get_or-append-add (joined f n) (f n) (p - length (joined f n)) z))
        (h n (p - length (joined f n)) (omega arith) (omega (arith, length-append (joined f n) (f n))))
  ]

  -- from q on L has what the whole has, if what is before is q long
  pub tail_at : (X L T : List A) (q p : ℕ) (z : A) → X ++ drop q L ≡ T → length X ≡ q → q ≤ p → get_or L p z ≡ get_or T p z
  tail_at X L T q p z e l h =
      ap (λ (x : ℕ). get_or L x z) (whole q p h) ∙ sym (get_or-drop q L (p - q) z)
      ∙ sym (get_or-append-add X (drop q L) (p - q) z)
      ∙ ap (λ (x : ℕ). get_or (X ++ drop q L) x z) (place (length X) q p l h)
      ∙ ap (λ (x : List A). get_or x p z) e
    where
      whole : (q p : ℕ) → q ≤ p → p ≡ q + (p - q)
      whole q p h = omega arith

      place : (x q p : ℕ) → x ≡ q → q ≤ p → x + (p - q) ≡ p
      place x q p e h = omega arith

-- numbers in singles: the place is the number
pub length-singles : (g : ℕ → ℕ) (n : ℕ) → length (joined (λ i. g i ∷ []) n) ≡ n
length-singles g n = length-joined (λ i. g i ∷ []) n ∙ sum-const 1 n ∙ mul-one n

pub singles-at : (g : ℕ → ℕ) (n j : ℕ) (r : List ℕ) → j < n → num (joined (λ i. g i ∷ []) n ++ r) j ≡ g j
singles-at g n j r h = ap (λ (x : ℕ). num (joined (λ i. g i ∷ []) n ++ r) x) (sym (place (length (joined (λ i. g i ∷ []) j)) j (length-singles g j))) ∙
    joined_at (λ i. g i ∷ []) n j 0 r 0 h (omega arith)
  where
    place : (x j : ℕ) → x ≡ j → x + 0 ≡ j
    place x j e = omega arith

module _ {A B : Type 0} where
  pub length-map : (f : A → B) (l : List A) → length (map f l) ≡ length l
  length-map f [] = refl
  length-map f (x ∷ l) = ap suc (length-map f l)

  pub get_or-map-in : (f : A → B) (l : List A) (t : ℕ) (a : A) (b : B) → t < length l → get_or (map f l) t b ≡ f (get_or l t a)
  get_or-map-in f [] t a b h = absurd (not-suc-le-zero h)
  get_or-map-in f (x ∷ l) zero a b h = refl
  get_or-map-in f (x ∷ l) (suc t) a b h = get_or-map-in f l t a b (le_of_suc-le-suc h)

  pub map-append : (f : A → B) (l m : List A) → map f (l ++ m) ≡ map f l ++ map f m
  map-append f [] m = refl
  map-append f (x ∷ l) m = ap (λ (r : List B). f x ∷ r) (map-append f l m)

-- tests that agree below n pick the same, and what agrees below n maps them alike
pub those-same : (p q : ℕ → Bool) (n : ℕ) → ((t : ℕ) → t < n → p t ≡ q t) → those p n ≡ those q n
unfolding those
those-same p q zero h = refl
those-same p q (suc n) h = rw (those-same p q n (λ t l. h t (omega arith)), h n (omega arith))

module _ {A : Type 0} where
  pub map-those : (f g : ℕ → A) (p : ℕ → Bool) (n : ℕ) → ((t : ℕ) → t < n → f t ≡ g t) → map f (those p n) ≡ map g (those p n)
  unfolding those
  map-those f g p zero h = refl
  map-those f g p (suc n) h =
      map-append f (those p n) (cond (p n) (n ∷ []) [])
      ∙ ap (λ (r : List A). r ++ map f (cond (p n) (n ∷ []) [])) (map-those f g p n (λ t l. h t (omega arith)))
      ∙ ap (λ (r : List A). map g (those p n) ++ r) (one (p n))
      ∙ sym (map-append g (those p n) (cond (p n) (n ∷ []) []))
    where
      one : (b : Bool) → map f (cond b (n ∷ []) []) ≡ map g (cond b (n ∷ []) [])
      one true = ap (λ (x : A). x ∷ []) (h n (omega arith))
      one false = refl
