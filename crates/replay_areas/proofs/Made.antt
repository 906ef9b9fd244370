-- An array that is made of a closure's answers, which changes nothing: each place holds what the closure gives for it. Assumes nothing.
use Rattle.std.proofs.Common.{◌≡◌, ℕ, zero, suc, ◌+◌, ◌<◌, List, [], get_or, subst, refl, sym, ap, ◌∙◌, append-nil, arith}
use native.Mathlib.Nat.{zero-add}
use native.Mathlib.Numerals.{unary_clauses}
use Rattle.std.proofs.lemmas.List.{ext_get_or}
use Rattle.std.specs.Fn.{Mut, Called}
use Rattle.std.specs.Array.{IsFromFnResultFrom, IsFromFnResult}
use Rattle.laws.specs.Joined.{each}
use Rattle.laws.proofs.Laid.{singles-size, singles-get}

module _ {F : Type 0} (g : Mut F (ℕ × Unit {0}) ℕ) (h : ℕ → ℕ) (f : F) (same : (i x : ℕ) (q : F) → Called g f (i, tt) x q → (q ≡ f) × (x ≡ h i)) (ys : List ℕ) where
  shift : (i k : ℕ) → i + suc k ≡ i + 1 + k
  shift i k = omega arith

  made-at : (n i : ℕ) (p : F) → p ≡ f → IsFromFnResultFrom g p ys i n → (k : ℕ) → k < n → get_or ys (i + k) 0 ≡ h (i + k)
  made-at zero i p e m k l = absurd (omega arith)
  made-at (suc n) i p e (q, y, at, call, rest) zero l =
      let s = same i y q (subst (λ (r : F). Called g r (i, tt) y q) e call) in
      simp unary_clauses (at.1 0 ∙ s.1)
  made-at (suc n) i p e (q, y, at, call, rest) (suc k) l =
      let s = same i y q (subst (λ (r : F). Called g r (i, tt) y q) e call) in
      let r = made-at n (i + 1) q s.0 rest k (omega arith) in
      rw (shift i k) r

  pub made-each : {n : ℕ} → IsFromFnResult g f ys n → ys ≡ each h n
  made-each {n} r =
      ext_get_or 0 ys (each h n) (r.long ∙ sym (singles-size h n))
      (λ k l.
      subst (λ (x : ℕ). get_or ys x 0 ≡ h x) (zero-add k) (made-at n 0 f refl r.each k (omega arith))
      ∙ sym (singles-get h n k [] 0 (omega arith))
      ∙ ap (λ (v : List ℕ). get_or v k 0) (append-nil (each h n)))
