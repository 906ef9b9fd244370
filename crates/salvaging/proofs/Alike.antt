-- Records with the same bytes are alike to the reader, wherever they lie. Assumes nothing.
use mathlib.Core.Path.{◌≡◌, sym, ap, ◌∙◌}
use mathlib.Core.List.{List}
use Prim.Native.Nat.{ℕ, ◌+◌, ◌*◌, ◌<◌}
use native.Mathlib.Omega.{arith}
use Rattle.laws.specs.Area.{num, bits}
use Rattle.laws.proofs.Every.{every-same}
use Rattle.little.specs.Little.{value_at}
use Rattle.little.proofs.Roundtrip.{little-same}
use Rattle.elementary.specs.Limits.{in_domain}
use Rattle.frames.specs.Frames.{record_bytes, picture_at, field_at, spare_fine, values_fine, good_alone}

module _ (f g : List ℕ) (a b : ℕ) (h : (t : ℕ) → t < record_bytes → num f (a + t) ≡ num g (b + t)) where
  pub picture-alike : picture_at f a ≡ picture_at g b
  picture-alike = little-same 4 f g a b (λ t l. h t (omega arith))

  pub field_alike : field_at f a ≡ field_at g b
  field_alike = h 5 (omega arith)

  spare-alike : spare_fine f a ≡ spare_fine g b
  unfolding spare_fine
  spare-alike = rw (h 6 (omega arith), h 7 (omega arith))

  value-alike : (k : ℕ) → k < 8 → value_at f (a + 8 + 8 * k) ≡ value_at g (b + 8 + 8 * k)
  unfolding value_at
  value-alike k l = ap bits (little-same 8 f g (a + 8 + 8 * k) (b + 8 + 8 * k) (λ t m. ap (num f) (place a k t) ∙ h (8 + 8 * k + t) (omega arith) ∙ ap (num g) (sym (place b k t))))
    where
      place : (x k t : ℕ) → x + 8 + 8 * k + t ≡ x + (8 + 8 * k + t)
      place x k t = omega arith

  values-alike : values_fine f a ≡ values_fine g b
  unfolding values_fine
  values-alike = every-same (λ k. in_domain (value_at f (a + 8 + 8 * k))) (λ k. in_domain (value_at g (b + 8 + 8 * k))) 8 (λ k l. ap in_domain (value-alike k l))

  pub alone-alike : good_alone f a ≡ good_alone g b
  unfolding good_alone
  alone-alike = rw (picture-alike, h 4 (omega arith), field_alike, spare-alike, values-alike)
