-- A record's bytes: what is read in them, and that what is read makes them again; and the coordinates, two for each record. Assumes nothing.
use mathlib.Core.Path.{◌≡◌, refl, sym, ap, ap₂, ◌∙◌, subst}
use mathlib.Core.List.{List, [], ◌∷◌, ◌++◌}
use Prim.Native.Nat.{ℕ, suc, ◌+◌, ◌*◌, ◌/◌, ◌%◌, ◌^◌, ◌<◌, ◌≤◌}
use native.Mathlib.Omega.{arith}
use native.Mathlib.Decide.{dec_lt}
use native.Mathlib.Nat.{add-suc}
use lib.ListN.{length, take, drop}
use lib.Seq.{get_or-append-add, take-add, drop-drop, drop-cons}
use Rattle.laws.specs.Area.{num}
use Rattle.little.specs.Little.{little_of, little_bytes, AllBelow}
use Rattle.little.proofs.Roundtrip.{little-same, little-back, bytes_back}
use Rattle.monitor.specs.Monitor.{monitor_record}
use Rattle.monitor_read.specs.MonitorRead.{coordinate_at}

module _ (p s b x y : ℕ) where
  -- byte 4 is the side, byte 5 the field, bytes 6 and 7 are zero
  pub side-in : num (monitor_record p s b x y) 4 ≡ s
  unfolding monitor_record little_bytes
  side-in = refl

  pub field_in : num (monitor_record p s b x y) 5 ≡ b
  unfolding monitor_record little_bytes
  field_in = refl

  pub zeros-in : (num (monitor_record p s b x y) 6 ≡ 0) × (num (monitor_record p s b x y) 7 ≡ 0)
  unfolding monitor_record little_bytes
  zeros-in = (refl, refl)

  pub picture-in : p < 2 ^ 32 → little_of (monitor_record p s b x y) 0 4 ≡ p
  unfolding monitor_record
  picture-in h = little-back 4 p (s ∷ b ∷ 0 ∷ 0 ∷ (little_bytes 4 x ++ little_bytes 4 y)) h

  -- the bytes before x, and those before y
  abbrev before-x : List ℕ
  before-x = little_bytes 4 p ++ (s ∷ b ∷ 0 ∷ 0 ∷ [])

  abbrev before-y : List ℕ
  before-y = little_bytes 4 p ++ (s ∷ b ∷ 0 ∷ 0 ∷ little_bytes 4 x)

  x-place : (j : ℕ) → num (monitor_record p s b x y) (8 + j) ≡ num (little_bytes 4 x ++ little_bytes 4 y) j
  unfolding monitor_record little_bytes
  x-place j = get_or-append-add before-x (little_bytes 4 x ++ little_bytes 4 y) j 0

  y-place : (j : ℕ) → num (monitor_record p s b x y) (12 + j) ≡ num (little_bytes 4 y ++ []) j
  unfolding monitor_record little_bytes
  y-place j = get_or-append-add before-y (little_bytes 4 y ++ []) j 0

  pub x-in : x < 2 ^ 32 → little_of (monitor_record p s b x y) 8 4 ≡ x
  x-in h = little-same 4 (monitor_record p s b x y) (little_bytes 4 x ++ little_bytes 4 y) 8 0 (λ j l. x-place j ∙ ap (num (little_bytes 4 x ++ little_bytes 4 y)) (plus j))
      ∙ little-back 4 x (little_bytes 4 y) h
    where
      plus : (j : ℕ) → j ≡ 0 + j
      plus j = omega arith

  pub y-in : y < 2 ^ 32 → little_of (monitor_record p s b x y) 12 4 ≡ y
  y-in h = little-same 4 (monitor_record p s b x y) (little_bytes 4 y ++ []) 12 0 (λ j l. y-place j ∙ ap (num (little_bytes 4 y ++ [])) (plus j)) ∙ little-back 4 y [] h
    where
      plus : (j : ℕ) → j ≡ 0 + j
      plus j = omega arith

-- sixteen bytes from a on whose spare bytes are zero are the record of what is read in them
module _ (f : List ℕ) (a : ℕ) (small : AllBelow 256 f) (within : a + 16 ≤ length f) where
  next : (k m : ℕ) → a + k < length f → take (suc m) (drop (a + k) f) ≡ num f (a + k) ∷ take m (drop (a + suc k) f)
  next k m h = ap (take (suc m)) (drop-cons f (a + k) 0 h) ∙ ap (λ (q : ℕ). num f (a + k) ∷ take m (drop q f)) (sym (add-suc a k))

  halves : (k m q : ℕ) → take (m + q) (drop (a + k) f) ≡ take m (drop (a + k) f) ++ take q (drop (a + k + m) f)
  halves k m q = take-add m q (drop (a + k) f) ∙ ap (λ (l : List ℕ). take m (drop (a + k) f) ++ take q l) (drop-drop m (a + k) f)

  pub record-back : num f (a + 6) ≡ 0 → num f (a + 7) ≡ 0 → monitor_record (little_of f a 4) (num f (a + 4)) (num f (a + 5)) (little_of f (a + 8) 4) (little_of f (a + 12) 4) ≡ take 16 (drop a f)
  unfolding monitor_record
  record-back u v =
      sym
      (ap (λ (q : ℕ). take 16 (drop q f)) (plain a)
      ∙ halves 0 4 12
      ∙ ap₂ (λ (l m : List ℕ). l ++ m) (ap (λ (q : ℕ). take 4 (drop q f)) (sym (plain a)) ∙ sym (bytes_back 4 f a small (omega arith)))
      (ap (λ (q : ℕ). take 12 (drop (q + 4) f)) (sym (plain a))
      ∙ next 4 11 (omega arith)
      ∙ ap (λ (l : List ℕ). num f (a + 4) ∷ l)
      (next 5 10 (omega arith)
      ∙ ap (λ (l : List ℕ). num f (a + 5) ∷ l)
      (next 6 9 (omega arith) ∙ ap₂ (λ (z : ℕ) (l : List ℕ). z ∷ l) u
      (next 7 8 (omega arith) ∙ ap₂ (λ (z : ℕ) (l : List ℕ). z ∷ l) v
      (halves 8 4 4 ∙ ap₂ (λ (l m : List ℕ). l ++ m) (sym (bytes_back 4 f (a + 8) small (omega arith)))
      (ap (λ (q : ℕ). take 4 (drop q f)) (twelve a) ∙ sym (bytes_back 4 f (a + 12) small (omega arith)))))))))
    where
      plain : (q : ℕ) → q ≡ q + 0
      plain q = omega arith

      twelve : (q : ℕ) → q + 8 + 4 ≡ q + 12
      twelve q = omega arith

-- ---- coordinates two by two

pub by-halves : (G : ℕ → Type 0) (n : ℕ) → ((i : ℕ) → i < n → G (2 * i)) → ((i : ℕ) → i < n → G (2 * i + 1)) → (j : ℕ) → j < 2 * n → G j
by-halves G n x y j l = elim (dec_lt 0 (j % 2)) [ yes o ↦ subst G (odd j o) (y (j / 2) (omega arith)) | no z ↦ subst G (even j z) (x (j / 2) (omega arith)) ]
  where
    odd : (j : ℕ) → 0 < j % 2 → 2 * (j / 2) + 1 ≡ j
    odd j o = omega arith

    even : (j : ℕ) → (0 < j % 2 → ⊥) → 2 * (j / 2) ≡ j
    even j z = omega arith

-- where they stand in record i

pub x-stands : (f : List ℕ) (i : ℕ) → coordinate_at f (2 * i) ≡ little_of f (i * 16 + 8) 4
unfolding coordinate_at
x-stands f i = let e : 2 * i / 2 * 16 + (8 + 4 * (2 * i % 2)) ≡ i * 16 + 8 = omega arith in ap (λ (a : ℕ). little_of f a 4) e

pub y-stands : (f : List ℕ) (i : ℕ) → coordinate_at f (2 * i + 1) ≡ little_of f (i * 16 + 12) 4
unfolding coordinate_at
y-stands f i = let e : (2 * i + 1) / 2 * 16 + (8 + 4 * ((2 * i + 1) % 2)) ≡ i * 16 + 12 = omega arith in ap (λ (a : ℕ). little_of f a 4) e
