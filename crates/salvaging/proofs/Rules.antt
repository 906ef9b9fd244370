-- What a told rule says of its record, what is kept, and which record is the last kept. Assumes nothing.
use mathlib.Core.Path.{◌≡◌, refl, sym, ap, subst, ◌∙◌}
use mathlib.Core.Logic.{⊎_elim}
use mathlib.Core.List.{List, [], ◌∷◌, ◌++◌}
use mathlib.Core.Bool.{Bool, true, false, cond, not, ◌&&◌, true≢false}
use Prim.Native.Nat.{ℕ, zero, suc, ◌+◌, ◌-◌, ◌*◌, ◌<◌, ◌≤◌}
use native.Mathlib.Omega.{arith}
use native.Mathlib.Decide.{dec_lt}
use native.Mathlib.Numerals.{add-one}
use native.Mathlib.Nat.{not-suc-le-zero}
use lib.Dec.{eqb}
use lib.ListN.{length}
use lib.Seq.{get_or-append_seam}
use borrow.Author.Tests.{not-false, eqb-false, ne_eqb}
use Rattle.laws.specs.Area.{num}
use Rattle.laws.specs.Joined.{those}
use Rattle.laws.proofs.Bools.{two, by_bool}
use Rattle.laws.proofs.Joined.{those-yes, those-below}
use Rattle.frames.specs.Frames.{record_bytes, picture_at, side_at, field_at, picture_fine, side_fine, field_fine, spare_fine, values_fine, good_alone, in_order, bad_at, whole_records}
use Rattle.salvage.specs.Salvage.{order_rule, rule_alone, follows_last, rule_after, last_kept, rule_of, is_kept, kept_in}
use Rattle.salvage.proofs.Sifted.{last-yes, last-no, last_within, rule-whole, kept-by-rule, kept_next, none_kept}
use Rattle.salvaging.specs.Broken.{tests_of, FirstFails, LastBefore}
use Rattle.salvaging.proofs.Picks.{those-count, those-prefix}

-- ---- any tests in their order, and the number of the first that fails

-- counted from k; e where none fails
abbrev numbered_from : ℕ → ℕ → List Bool → ℕ
numbered_from e k [] = e
numbered_from e k (b ∷ bs) = cond (not b) k (numbered_from e (suc k) bs)

-- a, and all of the others, joined as the reader joins its tests
abbrev all_after : Bool → List Bool → Bool
all_after a [] = a
all_after a (b ∷ bs) = all_after (a && b) bs

none-fails : (k : ℕ) (a : Bool) (bs : List Bool) → all_after a bs ≡ a && eqb (numbered_from 0 (suc k) bs) 0
none-fails k true [] = refl
none-fails k false [] = refl
none-fails k true (true ∷ bs) = none-fails (suc k) true bs
none-fails k true (false ∷ bs) = none-fails (suc k) false bs ∙ sym (ne_eqb (suc k) 0 (λ z. omega arith))
none-fails k false (true ∷ bs) = none-fails (suc k) false bs
none-fails k false (false ∷ bs) = none-fails (suc k) false bs

-- what comes after tests that all pass
numbered-then : (e k : ℕ) (bs : List Bool) → cond (eqb (numbered_from 0 (suc k) bs) 0) e (numbered_from 0 (suc k) bs) ≡ numbered_from e (suc k) bs
numbered-then e k [] = refl
numbered-then e k (true ∷ bs) = numbered-then e (suc k) bs
numbered-then e k (false ∷ bs) = rw (ne_eqb (suc k) 0 (λ z. omega arith))

numbered-least : (k : ℕ) (bs : List Bool) → (numbered_from 0 k bs ≡ 0 → ⊥) → k ≤ numbered_from 0 k bs
numbered-least k [] h = absurd (h refl)
numbered-least k (true ∷ bs) h = let m = numbered-least (suc k) bs h in omega arith
numbered-least k (false ∷ bs) h = omega arith

first-fails : (k : ℕ) (bs : List Bool) → (numbered_from 0 (suc k) bs ≡ 0 → ⊥) → (j : ℕ) → numbered_from 0 (suc k) bs ≡ k + j → FirstFails bs j
first-fails k [] h j e = absurd (h refl)
first-fails k (false ∷ bs) h zero e = absurd (omega arith)
first-fails k (false ∷ bs) h (suc zero) e = refl
first-fails k (false ∷ bs) h (suc (suc j)) e = absurd (omega arith)
first-fails k (true ∷ bs) h zero e = let m = numbered-least (suc (suc k)) bs h in absurd (omega arith)
first-fails k (true ∷ bs) h (suc zero) e = let m = numbered-least (suc (suc k)) bs h in absurd (omega arith)
first-fails k (true ∷ bs) h (suc (suc j)) e = (refl, first-fails (suc k) bs h (suc j) (omega arith))

-- the order, asked last
no-order : (k m : ℕ) (o : Bool) → (m ≡ 0 → ⊥) → eqb (cond (eqb k 0) (cond o 0 m) k) 0 ≡ eqb k 0 && o
no-order k m o n = by_bool (eqb (cond (eqb k 0) (cond o 0 m) k) 0 ≡ eqb k 0 && o) (eqb k 0) (λ e. rw e (last o)) (λ e. rw (e, e))
  where
    last : (o : Bool) → eqb (cond o 0 m) 0 ≡ o
    last true = refl
    last false = ne_eqb m 0 n

order-last : (m : ℕ) (o : Bool) → cond o 0 m ≡ numbered_from 0 m (o ∷ [])
order-last m true = refl
order-last m false = refl

module _ (f : List ℕ) where
  -- the tests that a record passes by itself
  abbrev alone_tests : ℕ → List Bool
  alone_tests a = picture_fine (picture_at f a) ∷ side_fine (side_at f a) ∷ field_fine (field_at f a) ∷ spare_fine f a ∷ values_fine f a ∷ []

  alone-rule : (a : ℕ) → eqb (rule_alone f a) 0 ≡ good_alone f a
  unfolding rule_alone good_alone
  alone-rule a = sym (none-fails 0 true (alone_tests a))

  after-rule : (l i : ℕ) → eqb (rule_after f l i) 0 ≡ good_alone f (i * record_bytes) && follows_last f l i
  unfolding rule_after
  after-rule l i =
      no-order (rule_alone f (i * record_bytes)) order_rule (follows_last f l i) (λ z. omega arith) ∙
      ap (λ (b : Bool). b && follows_last f l i) (alone-rule (i * record_bytes))

  pub kept-by-tests : (i : ℕ) → i < whole_records f → is_kept f i ≡ good_alone f (i * record_bytes) && follows_last f (last_kept f i) i
  kept-by-tests i h = kept-by-rule f i h ∙ after-rule (last_kept f i) i

  -- the rule told of a record is the number of its first test that fails
  tests-numbered : (l i : ℕ) → rule_after f l i ≡ numbered_from 0 1 (tests_of f l i)
  unfolding rule_after rule_alone
  tests-numbered l i =
      ap (λ (e : ℕ). cond (eqb (rule_alone f (i * record_bytes)) 0) e (rule_alone f (i * record_bytes))) (order-last order_rule (follows_last f l i)) ∙
      numbered-then (numbered_from 0 order_rule (follows_last f l i ∷ [])) 0 (alone_tests (i * record_bytes))

  first-after : (i : ℕ) → i < whole_records f → is_kept f i ≡ false → FirstFails (tests_of f (last_kept f i) i) (rule_of f i)
  first-after i h e =
      let told : eqb (rule_after f (last_kept f i) i) 0 ≡ false = sym (kept-by-rule f i h) ∙ e in
      let rule = tests-numbered (last_kept f i) i in
      subst (FirstFails (tests_of f (last_kept f i) i)) (sym (rule-whole f i h ∙ rule))
      (first-fails 0 (tests_of f (last_kept f i) i) (λ z. eqb-false (rule_after f (last_kept f i) i) 0 told (rule ∙ z)) (numbered_from 0 1 (tests_of f (last_kept f i) i)) (omega arith))

  -- ---- the last record kept

  last-keeps : (i : ℕ) → i < whole_records f → LastBefore f i (last_kept f i) → LastBefore f (i + 1) (last_kept f (i + 1))
  last-keeps i h r = ⊎_elim
      (λ e.
      let k : last_kept f (i + 1) ≡ i + 1 = last-yes f i (sym (kept-by-rule f i h) ∙ e) in
      record {
        below = last_within f (i + 1);
        kept = λ j q. subst (λ (x : ℕ). is_kept f x ≡ true) (same i j (sym k ∙ q)) e;
        none-since = λ j l m. absurd (omega (arith, k));
      })
      (λ e.
      let k : last_kept f (i + 1) ≡ last_kept f i = last-no f i (sym (kept-by-rule f i h) ∙ e) in
      record {
        below = last_within f (i + 1);
        kept = λ j q. r.kept j (sym k ∙ q);
        none-since = λ j l m. elim (dec_lt j i) [ yes y ↦ r.none-since j (omega (arith, k)) y | no n ↦ subst (λ (x : ℕ). is_kept f x ≡ false) (there i j m n) e ];
      })
      (two (is_kept f i))
    where
      same : (i j : ℕ) → i + 1 ≡ suc j → i ≡ j
      same i j e = omega arith

      there : (i j : ℕ) → j < i + 1 → (j < i → ⊥) → i ≡ j
      there i j m n = omega arith

  -- `last_kept` is one past the last record kept, 0 where none is
  pub last-kept-is : (i : ℕ) → i ≤ whole_records f → LastBefore f i (last_kept f i)
  unfolding last_kept
  last-kept-is zero h = record { below = omega arith; kept = λ j q. absurd (omega arith); none-since = λ j l m. absurd (not-suc-le-zero m) }
  last-kept-is (suc i) h = subst (λ (x : ℕ). LastBefore f x (last_kept f x)) (add-one i) (last-keeps i h (last-kept-is i (omega arith)))

  not-past : (i l m : ℕ) → LastBefore f i l → LastBefore f i m → l < m → ⊥
  not-past i l m a b h = true≢false (sym (b.kept (m - 1) (omega arith)) ∙ a.none-since (m - 1) (omega arith) (omega (arith, b.below)))

  -- and there is no other such number
  last-only : (i l : ℕ) → i ≤ whole_records f → LastBefore f i l → last_kept f i ≡ l
  last-only i l h b =
      let a : LastBefore f i (last_kept f i) = last-kept-is i h in
      elim (dec_lt (last_kept f i) l) [
        | yes m ↦ absurd (not-past i (last_kept f i) l a b m)
        | no n ↦ elim (dec_lt l (last_kept f i)) [ yes m ↦ absurd (not-past i l (last_kept f i) b a m) | no o ↦ omega arith ]
      ]

  module _ (i l : ℕ) (h : i < whole_records f) (b : LastBefore f i l) where
    -- a record is kept exactly where it is good by itself and follows the last one kept
    pub kept-exactly : is_kept f i ≡ good_alone f (i * record_bytes) && follows_last f l i
    kept-exactly = subst (λ (x : ℕ). is_kept f i ≡ good_alone f (i * record_bytes) && follows_last f x i) (last-only i l (omega arith) b) (kept-by-tests i h)

    -- the rule of a record that is not kept is the first that it breaks
    pub first-broken : is_kept f i ≡ false → FirstFails (tests_of f l i) (rule_of f i)
    first-broken e = subst (λ (x : ℕ). FirstFails (tests_of f x i) (rule_of f i)) (last-only i l (omega arith) b) (first-after i h e)

  last-place : (i : ℕ) → i ≤ whole_records f → (j : ℕ) → length (kept_in f i) ≡ suc j → last_kept f i ≡ suc (num (kept_in f i) j)
  unfolding those
  last-place zero h j e = absurd (omega arith)
  last-place (suc i) h j e = subst (λ (x : ℕ). length (kept_in f x) ≡ suc j → last_kept f x ≡ suc (num (kept_in f x) j)) (add-one i) (λ q. ⊎_elim
      (λ k.
      last-yes f i (sym (kept-by-rule f i h) ∙ k) ∙ add-one i
      ∙ ap suc (sym (ap (λ (w : List ℕ). num w j) (those-yes (is_kept f) i k)
      ∙ ap (num (kept_in f i ++ (i ∷ []))) (at (length (kept_in f i)) j (sym (kept_next f i k) ∙ q))
      ∙ get_or-append_seam (kept_in f i) i [] 0)))
      (λ k.
      last-no f i (sym (kept-by-rule f i h) ∙ k)
      ∙ last-place i (omega arith) j (sym (ap length (none_kept f i k)) ∙ q)
      ∙ ap (λ (w : List ℕ). suc (num w j)) (sym (none_kept f i k)))
      (two (is_kept f i))) e
    where
      at : (c j : ℕ) → c + 1 ≡ suc j → j ≡ c
      at c j e = omega arith

  -- before the record at place j + 1 among those kept, the last one kept is that at place j
  pub last-at : (n j : ℕ) → n ≤ whole_records f → suc j < length (kept_in f n) → last_kept f (num (kept_in f n) (suc j)) ≡ suc (num (kept_in f n) j)
  last-at n j h l =
      let i = num (kept_in f n) (suc j) in
      let b : i < n = those-below (is_kept f) n (suc j) l in
      let c : length (kept_in f i) ≡ suc j = those-count (is_kept f) n (suc j) l in
      last-place i (omega arith) j c ∙ ap suc (sym (those-prefix (is_kept f) i n j (omega arith) (omega arith)))

  -- ---- the records before the first that the reader refuses

  module _ (q : ℕ) (h : q ≤ whole_records f) (good : (i : ℕ) → i < q → bad_at f i ≡ false) where
    order_same : (i : ℕ) → follows_last f i i ≡ in_order f i
    unfolding follows_last in_order
    order_same i = refl

    passes : (i : ℕ) → i < q → good_alone f (i * record_bytes) && in_order f i ≡ true
    unfolding bad_at
    passes i l = not-false (good_alone f (i * record_bytes) && in_order f i) (good i l)

    straight-test : (i : ℕ) → last_kept f i ≡ i → good_alone f (i * record_bytes) && follows_last f (last_kept f i) i ≡ good_alone f (i * record_bytes) && in_order f i
    straight-test i e = ap (λ (x : ℕ). good_alone f (i * record_bytes) && follows_last f x i) e ∙ ap (λ (b : Bool). good_alone f (i * record_bytes) && b) (order_same i)

    pub last-straight : (i : ℕ) → i ≤ q → last_kept f i ≡ i
    unfolding last_kept
    last-straight zero l = refl
    last-straight (suc i) l =
        ap (last_kept f) (sym (add-one i))
        ∙ last-yes f i (after-rule (last_kept f i) i ∙ straight-test i (last-straight i (omega arith)) ∙ passes i l)
        ∙ add-one i

    -- whether the next is kept is the reader's own test
    pub next-straight : (i : ℕ) → i ≤ q → i < whole_records f → is_kept f i ≡ not (bad_at f i)
    unfolding bad_at
    next-straight i l m = kept-by-tests i m ∙ straight-test i (last-straight i l) ∙ twice (good_alone f (i * record_bytes) && in_order f i)
      where
        twice : (b : Bool) → b ≡ not (not b)
        twice true = refl
        twice false = refl

    pub straight-kept : (i : ℕ) → i < q → is_kept f i ≡ true
    straight-kept i l = next-straight i (omega arith) (omega arith) ∙ rw (good i l)
