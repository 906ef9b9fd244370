-- The whole number nearest to a fraction lies at least as near as any other, and where another is as near it is even. Nothing here is about floats. Assumes nothing.
use mathlib.Core.Path.{◌≡◌, refl, sym, ◌∙◌, subst}
use mathlib.Core.Logic.{◌⊎◌, inl, inr}
use Prim.Native.Nat.{ℕ, suc, ◌+◌, ◌-◌, ◌*◌, ◌/◌, ◌%◌, ◌≤◌, ◌<◌}
use native.Mathlib.Nat.{suc-mul, mul-le-mul_right, mod-lt, div-add-mod'}
use native.Mathlib.Omega.{arith}
use native.Mathlib.Decide.{dec_lt}
use lib.Ieee.Nearest.{closest}
use Rattle.monitor_narrow.specs.Nearness.{differ}
use Rattle.monitor_narrow.proofs.Rounds.{compare-less, compare_same, compare-next}

row : (v w u : ℕ) → v < w → v * u + u ≤ w * u
row v w u h = subst (λ (x : ℕ). x ≤ w * u) (suc-mul v u) (mul-le-mul_right u h)

-- A is w · u and r more: what each multiple of u is away, by its place beside w
record Beside (A u v w r d : ℕ) : Type 0 where
  under : v < w → u + r ≤ differ A d
  at : v ≡ w → differ A d ≡ r
  next : v ≡ suc w → differ A d ≡ u - r
  over : suc w < v → u + (u - r) ≤ differ A d

beside : (A u v w r : ℕ) → w * u + r ≡ A → r < u → Beside A u v w r (v * u)
beside A u v w r e h = record {
  under = λ l. omega (arith, row v w u l);
  at = λ q. rw q (omega arith);
  next = λ q. rw (q, suc-mul w u) (omega arith);
  over = λ l. omega (arith, row (suc w) v u l, suc-mul w u);
}

module _ (A u v : ℕ) (p : 0 < u) where
  -- the nearest, by the remainder
  chosen : (q w r : ℕ) → w ≡ A / u → r ≡ A % u → q ≡ closest A u → ((r * 2 < u) × (q ≡ w)) ⊎ (((u < r * 2) × (q ≡ suc w)) ⊎ ((r * 2 ≡ u) × (q ≡ w + w % 2)))
  chosen q w r e f g = elim (dec_lt (r * 2) u) [
    | yes l ↦ inl (l, g ∙ rw (← e, ← f, compare-less (r * 2) u l))
    | no n ↦ elim (dec_lt u (r * 2)) [
      | yes l ↦ inr (inl (l, g ∙ rw (← e, ← f, compare-next (r * 2) u l)))
      | no m ↦ let z : r * 2 ≡ u = omega arith in inr (inr (z, g ∙ rw (← e, ← f, compare_same (r * 2) u z)))
    ]
  ]

  place : (w r d : ℕ) → r < u → Beside A u v w r d → ((v ≡ w) × (differ A d ≡ r)) ⊎ (((v ≡ suc w) × (differ A d ≡ u - r)) ⊎ (u ≤ differ A d))
  place w r d h b = elim (dec_lt v w) [
    | yes l ↦ inr (inr (omega (arith, b.under l)))
    | no n ↦ elim (dec_lt w v) [
      | no m ↦ let e : v ≡ w = omega arith in inl (e, b.at e)
      | yes l ↦ elim (dec_lt (suc w) v) [ yes k ↦ inr (inr (omega (arith, b.over k))) | no k ↦ let e : v ≡ suc w = omega arith in inr (inl (e, b.next e)) ]
    ]
  ]

-- how far the nearest is, with what is known of it
taken : (A u w r q : ℕ) → w * u + r ≡ A → r < u → ((r * 2 < u) × (q ≡ w)) ⊎ (((u < r * 2) × (q ≡ suc w)) ⊎ ((r * 2 ≡ u) × (q ≡ w + w % 2)))
    → ((r * 2 < u) × (q ≡ w) × (differ A (q * u) ≡ r)) ⊎ (((u < r * 2) × (q ≡ suc w) × (differ A (q * u) ≡ u - r)) ⊎ ((r * 2 ≡ u) × (q % 2 ≡ 0) × (differ A (q * u) ≡ r)))
taken A u w r q e h (inl x) = inl (x.0, x.1, (beside A u q w r e h).at x.1)
taken A u w r q e h (inr (inl x)) = inr (inl (x.0, x.1, (beside A u q w r e h).next x.1))
taken A u w r q e h (inr (inr x)) = inr (inr (
  x.0,
  rw x.1 (even w),
  elim (dec_lt 0 (w % 2)) [
    | yes l ↦ (beside A u q w r e h).next (x.1 ∙ odd w l) ∙ half u r x.0
    | no n ↦ (beside A u q w r e h).at (x.1 ∙ plain w n)
  ],
))
  where
    even : (w : ℕ) → (w + w % 2) % 2 ≡ 0
    even w = omega arith

    odd : (w : ℕ) → 0 < w % 2 → w + w % 2 ≡ suc w
    odd w l = omega arith

    plain : (w : ℕ) → (0 < w % 2 → ⊥) → w + w % 2 ≡ w
    plain w n = omega arith

    half : (u r : ℕ) → r * 2 ≡ u → u - r ≡ r
    half u r x = omega arith

module _ (A u v : ℕ) (p : 0 < u) where
  abbrev w : ℕ
  w = A / u

  abbrev r : ℕ
  r = A % u

  abbrev q : ℕ
  q = closest A u

  by_place : ((r * 2 < u) × (q ≡ w) × (differ A (q * u) ≡ r)) ⊎ (((u < r * 2) × (q ≡ suc w) × (differ A (q * u) ≡ u - r)) ⊎ ((r * 2 ≡ u) × (q % 2 ≡ 0) × (differ A (q * u) ≡ r)))
      → ((v ≡ w) × (differ A (v * u) ≡ r)) ⊎ (((v ≡ suc w) × (differ A (v * u) ≡ u - r)) ⊎ (u ≤ differ A (v * u))) → r < u
      → (differ A (q * u) ≤ differ A (v * u)) × (differ A (q * u) ≡ differ A (v * u) → (v ≡ q) ⊎ (q % 2 ≡ 0))
  by_place (inl x) (inl y) h = (omega arith, λ t. inl (y.0 ∙ sym x.1))
  by_place (inl x) (inr (inl y)) h = (omega arith, λ t. absurd (omega arith))
  by_place (inl x) (inr (inr y)) h = (omega arith, λ t. absurd (omega arith))
  by_place (inr (inl x)) (inl y) h = (omega arith, λ t. absurd (omega arith))
  by_place (inr (inl x)) (inr (inl y)) h = (omega arith, λ t. inl (y.0 ∙ sym x.1))
  by_place (inr (inl x)) (inr (inr y)) h = (omega arith, λ t. absurd (omega arith))
  by_place (inr (inr x)) (inl y) h = (omega arith, λ t. inr x.1)
  by_place (inr (inr x)) (inr (inl y)) h = (omega arith, λ t. inr x.1)
  by_place (inr (inr x)) (inr (inr y)) h = (omega arith, λ t. inr x.1)

  pub closest-near : (differ A (closest A u * u) ≤ differ A (v * u)) × (differ A (closest A u * u) ≡ differ A (v * u) → (v ≡ closest A u) ⊎ (closest A u % 2 ≡ 0))
  closest-near =
      let h : r < u = mod-lt A p in
      let e : w * u + r ≡ A = div-add-mod' A u in
      by_place (taken A u w r q e h (chosen A u v p q w r refl refl refl)) (place A u v p w r (v * u) h (beside A u v w r e h)) h
