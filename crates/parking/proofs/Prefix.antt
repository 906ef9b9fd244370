-- Whether a record is fine is told by the words up to its end. Assumes nothing.
use mathlib.Core.Path.{◌≡◌, sym, ap, ◌∙◌}
use Prim.Native.Nat.{ℕ, zero, suc, ◌+◌, ◌-◌, ◌*◌, ◌<◌}
use native.Mathlib.Omega.{arith}
use native.Mathlib.Decide.{dec_lt}
use Rattle.laws.proofs.Every.{every-same}
use Rattle.parked.specs.declared.Layout.{Layout}
use Rattle.parked.specs.Fine.{head_fine, layout_by, value_fits, offset_fits, held_fits, index_fits, weight_fits, state_fine, affinity_fine, word_fine, record_fine}
use Rattle.parking.proofs.Files.{at_head, at_words, head-0, head-1, head-2}

module _ (g h : ℕ → ℕ) where
  pub layout-same : ((w : ℕ) → w < 12 → g w ≡ h w) → layout_by g ≡ layout_by h
  unfolding layout_by
  layout-same e = rw (e 0 (omega arith), e 1 (omega arith), e 3 (omega arith), e 11 (omega arith))

  word_same : (l : Layout) (w : ℕ) → g w ≡ h w → g (w - 1) ≡ h (w - 1) → word_fine g l w ≡ word_fine h l w
  unfolding word_fine state_fine affinity_fine value_fits held_fits index_fits weight_fits offset_fits
  word_same l w a b = rw (a, b)

  head-same : (q : ℕ) → q < 3 → ((w : ℕ) → w < 4 * q + 4 → g w ≡ h w) → head_fine g q ≡ head_fine h q
  head-same zero l e = head-0 g ∙ rw (e 0 (omega arith), e 1 (omega arith), e 2 (omega arith), e 3 (omega arith)) (sym (head-0 h))
  head-same (suc zero) l e = head-1 g ∙ rw (e 0 (omega arith), e 1 (omega arith), e 4 (omega arith), e 5 (omega arith), e 6 (omega arith), e 7 (omega arith)) (sym (head-1 h))
  head-same (suc (suc zero)) l e = head-2 g ∙
      rw (e 0 (omega arith), e 1 (omega arith), e 4 (omega arith), e 6 (omega arith), e 8 (omega arith), e 9 (omega arith), e 10 (omega arith), e 11 (omega arith)) (sym (head-2 h))
  head-same (suc (suc (suc q))) l e = absurd (omega (arith, l))

  pub record_same : (q : ℕ) → ((w : ℕ) → w < 4 * q + 4 → g w ≡ h w) → record_fine g q ≡ record_fine h q
  record_same q e = elim (dec_lt q 3) [
    | yes l ↦ at_head g q l ∙ head-same q l e ∙ sym (at_head h q l)
    | no n ↦
        at_words g q (omega arith)
        ∙ every-same (λ k. word_fine g (layout_by g) (4 * q + k)) (λ k. word_fine h (layout_by h) (4 * q + k)) 4
        (λ k m. ap (λ (l : Layout). word_fine g l (4 * q + k)) (layout-same (λ w a. e w (omega arith))) ∙
        word_same (layout_by h) (4 * q + k) (e (4 * q + k) (omega arith)) (e (4 * q + k - 1) (omega arith)))
        ∙ sym (at_words h q (omega arith))
  ]
