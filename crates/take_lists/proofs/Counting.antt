-- How many links are left, counted by the frames that are taken out: in one list, and in the lists of all frames that are not taken out. Assumes nothing.
use mathlib.Core.Path.{◌≡◌, sym, ap, ◌∙◌}
use mathlib.Core.List.{List, [], ◌∷◌, ◌++◌}
use mathlib.Core.Bool.{Bool, true, false, not}
use Prim.Native.Nat.{ℕ, ◌+◌, ◌-◌, ◌<◌, ◌≤◌}
use native.Mathlib.Omega.{arith}
use native.Mathlib.Nat.{le_antisymm, mul-one}
use lib.ListN.{length, length-append, get_or-append}
use lib.Seq.{get_or-append_seam}
use Rattle.laws.specs.Area.{num}
use Rattle.laws.specs.Sums.{sum, bit}
use Rattle.laws.proofs.Sums.{sum-none, sum-next, sum_same, sum-le, sum-const, bit_le}
use Rattle.laws.proofs.Joined.{length-those, those-none, those-yes, those-no, those-below}
use Rattle.take_gone.specs.Gone.{is_among, survivors}
use Rattle.take_gone.proofs.Left.{left-among}
use Rattle.take_lists.specs.Packed.{kept_links, links_left, Listed}
use Rattle.take_lists.specs.Steps.{named_left}
use Rattle.take_lists.proofs.Bounds.{kept-from, lists-rise}

pub named-few : (g I : List ℕ) (a k : ℕ) → named_left g I a k ≤ k
named-few g I a k = omega (arith, sum-le (λ t. bit (not (is_among g (num I (a + t))))) (λ t. 1) k (λ t l. bit_le (not (is_among g (num I (a + t))))), sum-const 1 k, mul-one k)

-- ---- one list: t links are looked at

pub record Sees (g I : List ℕ) (a k t c : ℕ) : Type 0 where
  pub within : t ≤ k
  pub most : c ≤ t
  pub same : c ≡ named_left g I a t

module _ {g I : List ℕ} {a k : ℕ} where
  pub sees-start : Sees g I a k 0 0
  sees-start = record { within = omega arith; most = omega arith; same = sym (sum-none (λ t. bit (not (is_among g (num I (a + t)))))) }

  module _ {t c : ℕ} (l : t < k) (r : Sees g I a k t c) where
    next : (b : Bool) → b ≡ is_among g (num I (a + t)) → named_left g I a (t + 1) ≡ c + bit (not b)
    next b e = sum-next (λ t. bit (not (is_among g (num I (a + t))))) t ∙ ap (λ (x : ℕ). x + bit (not (is_among g (num I (a + t))))) (sym r.same) ∙ ap (λ (x : Bool). c + bit (not x)) (sym e)

    pub sees-pass : true ≡ is_among g (num I (a + t)) → Sees g I a k (t + 1) c
    unfolding bit
    sees-pass e = record { within = omega arith; most = omega (arith, r.most); same = omega (arith, next true e) }

    pub sees-next : false ≡ is_among g (num I (a + t)) → Sees g I a k (t + 1) (c + 1)
    unfolding bit
    sees-next e = record { within = omega arith; most = omega (arith, r.most); same = omega (arith, next false e) }

  pub sees-done : {t c : ℕ} → k ≤ t → Sees g I a k t c → c ≡ named_left g I a k
  sees-done h r = r.same ∙ ap (named_left g I a) (le_antisymm r.within h)

-- ---- a sum over the numbers of a list

abbrev over : (ℕ → ℕ) → List ℕ → ℕ
over f l = sum (λ h. f (num l h)) (length l)

over-next : (f : ℕ → ℕ) (l : List ℕ) (x : ℕ) → over f (l ++ (x ∷ [])) ≡ over f l + f x
over-next f l x =
    ap (sum (λ h. f (num (l ++ (x ∷ [])) h))) (length-append l (x ∷ []))
    ∙ sum-next (λ h. f (num (l ++ (x ∷ [])) h)) (length l)
    ∙ ap (λ (y : ℕ). y + f (num (l ++ (x ∷ [])) (length l))) (sum_same (λ h. f (num (l ++ (x ∷ [])) h)) (λ h. f (num l h)) (length l) (λ h m. ap f (get_or-append l (x ∷ []) 0 h m)))
    ∙ ap (λ (y : ℕ). over f l + f y) (get_or-append_seam l x [] 0)

-- ---- all lists: j frames are looked at

-- what the list of frame j has left
abbrev left_of : List ℕ → List ℕ → List ℕ → ℕ → ℕ
left_of g I O j = named_left g I (num O j) (num O (j + 1) - num O j)

pub record Tallies (g I O : List ℕ) (n j c : ℕ) : Type 0 where
  pub within : j ≤ n
  pub same : c ≡ sum (λ h. named_left g I (num O (num (survivors g j) h)) (num O (num (survivors g j) h + 1) - num O (num (survivors g j) h))) (length (survivors g j))
  pub most : c ≤ num O j

-- a list has left what names a frame that is left
left-list : {n w x : ℕ} {O : List ℕ} → Listed n w x O → (g I : List ℕ) → ((i : ℕ) → i < num O n → num I i < n) → (j : ℕ) → j < n → left_of g I O j ≡ length (kept_links (survivors g n) I O j)
left-list {n} {w} {x} {O} lists g I h j m =
    sym (
    ap length (kept-from (survivors g n) I O j)
    ∙ length-those (λ t. is_among (survivors g n) (num I (num O j + t))) (num O (j + 1) - num O j)
    ∙ sum_same (λ t. bit (is_among (survivors g n) (num I (num O j + t)))) (λ t. bit (not (is_among g (num I (num O j + t))))) (num O (j + 1) - num O j)
    (λ t s. ap bit (left-among g n (num I (num O j + t)) (h (num O j + t) (omega (arith, lists-rise lists (j + 1) n (omega arith) (omega arith))))))
    )

module _ {g I O : List ℕ} {n w x : ℕ} (lists : Listed n w x O) where
  pub tallies-start : Tallies g I O n 0 0
  tallies-start = record {
    within = omega arith;
    same = sym (ap (over (left_of g I O)) (those-none (λ j. not (is_among g j))) ∙ sum-none (λ h. left_of g I O (num [] h)));
    most = omega arith;
  }

  module _ {j c : ℕ} (l : j < n) (r : Tallies g I O n j c) where
    pub tallies-pass : true ≡ is_among g j → Tallies g I O n (j + 1) c
    tallies-pass e = record {
      within = omega arith;
      same = r.same ∙ ap (over (left_of g I O)) (sym (those-no (λ j. not (is_among g j)) j (ap not (sym e))));
      most = omega (arith, r.most, lists.offsets-rise j l);
    }

    -- its list, from a up to b, has v links left
    module _ {a b : ℕ} (ea : a ≡ num O j) (eb : b ≡ num O (j + 1)) where
      pub tallies-inside : (a ≤ b) × (b ≤ x)
      tallies-inside = (omega (arith, ea, eb, lists.offsets-rise j l), omega (arith, eb, lists-rise lists (j + 1) n (omega arith) (omega arith), lists.indices-long))

      module _ {v : ℕ} (u : v ≡ named_left g I a (b - a)) where
        given : v ≡ left_of g I O j
        given = u ∙ ap (λ (y : ℕ). named_left g I y (b - y)) ea ∙ ap (λ (y : ℕ). named_left g I (num O j) (y - num O j)) eb

        pub tallies-room : c + v ≤ num O (j + 1)
        tallies-room = omega (arith, given, r.most, named-few g I (num O j) (num O (j + 1) - num O j), lists.offsets-rise j l)

        pub tallies-next : false ≡ is_among g j → Tallies g I O n (j + 1) (c + v)
        tallies-next e = record {
          within = omega arith;
          same =
              ap (λ (y : ℕ). c + y) given ∙ ap (λ (y : ℕ). y + left_of g I O j) r.same
              ∙ sym (over-next (left_of g I O) (survivors g j) j)
              ∙ ap (over (left_of g I O)) (sym (those-yes (λ j. not (is_among g j)) j (ap not (sym e))));
          most = tallies-room;
        }

  pub tallies-done : {j c : ℕ} → ((i : ℕ) → i < num O n → num I i < n) → n ≤ j → Tallies g I O n j c → c ≡ links_left (survivors g n) I O
  tallies-done {j} {c} h m r =
      r.same
      ∙ ap (λ (y : ℕ). over (left_of g I O) (survivors g y)) (le_antisymm r.within m)
      ∙ sum_same (λ s. left_of g I O (num (survivors g n) s)) (λ s. length (kept_links (survivors g n) I O (num (survivors g n) s))) (length (survivors g n))
      (λ s b. left-list lists g I h (num (survivors g n) s) (those-below (λ j. not (is_among g j)) n s b))
