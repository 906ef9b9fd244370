-- The mirror of a record: where it can stand, and the file searched in parts. Assumes nothing.
use mathlib.Core.Path.{◌≡◌, sym, subst, ◌∙◌}
use mathlib.Core.List.{List}
use mathlib.Core.Logic.{⊎_elim}
use mathlib.Core.Bool.{Bool, true, false, ◌&&◌, true≢false}
use Prim.Native.Nat.{ℕ, ◌+◌, ◌-◌, ◌<◌, ◌≤◌}
use native.Mathlib.Omega.{arith}
use native.Mathlib.Decide.{dec_lt}
use lib.Dec.{eqb}
use borrow.Author.Tests.{eq-eqb, eqb-true, lt-ltb, le-ltb, ltb-true}
use Rattle.laws.specs.Loops.{first}
use Rattle.laws.proofs.First.{first_some, first_holds, first-none}
use Rattle.laws.proofs.Bools.{two, and_left, and_right, not-true-is}
use Rattle.partner.specs.Partner.{link_from, link_to, link_weight, link_pair, turned_pair, is_mirror, mirrored_in, PairsRise}
use Rattle.laws.proofs.Bisects.{Bisects, bisects-done}

module _ (f : List ℕ) (i : ℕ) where
  pub mirror-weight : (j : ℕ) → link_from f j ≡ link_to f i → link_to f j ≡ link_from f i → is_mirror f i j ≡ eqb (link_weight f j) (link_weight f i)
  unfolding is_mirror
  mirror-weight j h l = rw (eq-eqb (link_from f j) (link_to f i) h, eq-eqb (link_to f j) (link_from f i) l)

  -- a mirror has the pair turned
  pub mirror-pair : (j : ℕ) → is_mirror f i j ≡ true → link_pair f j ≡ turned_pair f i
  unfolding is_mirror
  mirror-pair j e =
      let b = and_left (eqb (link_from f j) (link_to f i) && eqb (link_to f j) (link_from f i)) (eqb (link_weight f j) (link_weight f i)) e in
      let l = eqb-true (link_from f j) (link_to f i) (and_left (eqb (link_from f j) (link_to f i)) (eqb (link_to f j) (link_from f i)) b) in
      let m = eqb-true (link_to f j) (link_from f i) (and_right (eqb (link_from f j) (link_to f i)) (eqb (link_to f j) (link_from f i)) b) in
      rw (l, m)

  -- the same record, named otherwise
  moved : {b : Bool} (s t : ℕ) → s ≡ t → is_mirror f i s ≡ b → is_mirror f i t ≡ b
  moved {b} s t q e = subst (λ (x : ℕ). is_mirror f i x ≡ b) q e

  module _ (a k : ℕ) where
    abbrev here : ℕ → Bool
    here t = is_mirror f i (a + t)

    pub met_some : (t : ℕ) → t < k → is_mirror f i (a + t) ≡ true → mirrored_in f i a k ≡ true
    unfolding mirrored_in
    met_some t l e = lt-ltb (first here k) k (first_some here k t l e)

    pub met-none : ((t : ℕ) → t < k → is_mirror f i (a + t) ≡ false) → mirrored_in f i a k ≡ false
    unfolding mirrored_in
    met-none h = le-ltb (first here k) k (omega (arith, first-none here k h))

    -- one by one
    pub met_next : (t : ℕ) → ((s : ℕ) → s < t → is_mirror f i (a + s) ≡ false) → is_mirror f i (a + t) ≡ false → (s : ℕ) → s < t + 1 → is_mirror f i (a + s) ≡ false
    met_next t h e s l = elim (dec_lt s t) [ yes q ↦ h s q | no q ↦ moved (a + t) (a + s) (omega arith) e ]

    -- where there is one
    pub met_at : mirrored_in f i a k ≡ true → (t : ℕ) × ((t < k) × (is_mirror f i (a + t) ≡ true))
    unfolding mirrored_in
    met_at e = let l = ltb-true (first here k) k e in (first here k, (l, first_holds here k l))

    pub met-not : mirrored_in f i a k ≡ false → (t : ℕ) → t < k → is_mirror f i (a + t) ≡ false
    met-not e t l = not-true-is (λ q. true≢false (sym (met_some t l q) ∙ e))

    -- the search by halving ends at the only place that may be
    pub met-done : {low left : ℕ} → PairsRise f a k → Bisects (link_pair f) (turned_pair f i) a k low left → left ≤ 1 → is_mirror f i low ≡ mirrored_in f i a k
    met-done {low} {left} c h m = ⊎_elim found missed (two (is_mirror f i low))
      where
        place : low ≡ a + (low - a)
        place = omega (arith, h.inside)

        found : is_mirror f i low ≡ true → is_mirror f i low ≡ mirrored_in f i a k
        found e = e ∙ sym (met_some (low - a) (omega (arith, h.inside, h.some)) (subst (λ (x : ℕ). is_mirror f i x ≡ true) place e))

        missed : is_mirror f i low ≡ false → is_mirror f i low ≡ mirrored_in f i a k
        missed e = e ∙ sym (met-none (λ t l. not-true-is (λ q. true≢false (sym (subst (λ (x : ℕ). is_mirror f i x ≡ true) (bisects-done c.rises h m t l (mirror-pair (a + t) q)) q) ∙ e))))

  pub met-empty : (a : ℕ) → mirrored_in f i a 0 ≡ false
  met-empty a = met-none a 0 (λ t l. absurd (omega arith))

  -- ---- the whole file in three parts

  module _ (d k n : ℕ) (w : d + k ≤ n) where
    pub met-first : mirrored_in f i 0 d ≡ true → mirrored_in f i 0 n ≡ true
    met-first e = let m = met_at 0 d e in met_some 0 n m.0 (omega (arith, m.1.0)) m.1.1

    pub met-second : mirrored_in f i d k ≡ true → mirrored_in f i 0 n ≡ true
    met-second e = let m = met_at d k e in met_some 0 n (d + m.0) (omega (arith, m.1.0)) (moved (d + m.0) (0 + (d + m.0)) (omega arith) m.1.1)

    pub met-third : mirrored_in f i 0 d ≡ false → mirrored_in f i d k ≡ false → mirrored_in f i (d + k) (n - (d + k)) ≡ mirrored_in f i 0 n
    met-third x y = ⊎_elim found missed (two (mirrored_in f i (d + k) (n - (d + k))))
      where
        found : mirrored_in f i (d + k) (n - (d + k)) ≡ true → mirrored_in f i (d + k) (n - (d + k)) ≡ mirrored_in f i 0 n
        found e = let m = met_at (d + k) (n - (d + k)) e in e ∙ sym (met_some 0 n (d + k + m.0) (omega (arith, m.1.0)) (moved (d + k + m.0) (0 + (d + k + m.0)) (omega arith) m.1.1))

        none : mirrored_in f i (d + k) (n - (d + k)) ≡ false → (t : ℕ) → t < n → is_mirror f i (0 + t) ≡ false
        none e t l = elim (dec_lt t d) [
          | yes p ↦ met-not 0 d x t p
          | no p ↦ elim (dec_lt t (d + k)) [
            | yes q ↦ moved (d + (t - d)) (0 + t) (omega arith) (met-not d k y (t - d) (omega arith))
            | no q ↦ moved (d + k + (t - (d + k))) (0 + t) (omega arith) (met-not (d + k) (n - (d + k)) e (t - (d + k)) (omega arith))
          ]
        ]

        missed : mirrored_in f i (d + k) (n - (d + k)) ≡ false → mirrored_in f i (d + k) (n - (d + k)) ≡ mirrored_in f i 0 n
        missed e = e ∙ sym (met-none 0 n (none e))
