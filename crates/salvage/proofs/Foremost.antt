-- A list at the front of an area, and more put behind it; the bytes of a record. Assumes nothing.
use mathlib.Core.Path.{◌≡◌, refl, sym, ap, subst, ◌∙◌}
use mathlib.Core.List.{List, [], ◌∷◌, ◌++◌}
use Prim.Native.Nat.{ℕ, ◌+◌, ◌-◌, ◌<◌, ◌≤◌}
use native.Mathlib.Omega.{arith}
use lib.ListN.{length, set, take, drop, length-append, length-drop}
use lib.Seq.{take-append_seam, drop-append-add, drop-drop, length-take-le, get_or-take, get_or-drop}
use Rattle.laws.specs.Area.{num}
use Rattle.laws.specs.Joined.{written}
use Rattle.areas.proofs.Fetched.{put_next}
use Rattle.frames.specs.Frames.{record_bytes}
use Rattle.salvage.specs.Salvage.{record_at, foremost}

module _ (w l : List ℕ) where
  pub foremost-copy : (v : List ℕ) → written v (length w) (foremost w l) ≡ foremost (w ++ v) l
  foremost-copy v = rw (take-append_seam w (drop (length w) l), drop-append-add w (drop (length w) l) (length v), drop-drop (length v) (length w) l, length-append w v)

  pub foremost-put : (x : ℕ) → length w < length l → set (foremost w l) (length w) x ≡ foremost (w ++ (x ∷ [])) l
  foremost-put x h = put_next w l (length w) x refl h ∙ ap (λ (n : ℕ). (w ++ (x ∷ [])) ++ drop n l) (sym (length-append w (x ∷ [])))

  pub foremost-size : length w ≤ length l → length (foremost w l) ≡ length l
  foremost-size h = length-append w (drop (length w) l) ∙ rw (length-drop (length w) l) (omega arith)

-- ---- a record

module _ (f : List ℕ) (a : ℕ) (h : a + record_bytes ≤ length f) where
  pub copied-size : length (record_at f a) ≡ record_bytes
  copied-size = length-take-le record_bytes (drop a f) (rw (length-drop a f) (omega arith))

  pub record-byte : (t : ℕ) → t < record_bytes → num (record_at f a) t ≡ num f (a + t)
  record-byte t l = get_or-take record_bytes (drop a f) t 0 l ∙ get_or-drop a f t 0

-- the part of the file that is copied
pub part-copied : (f : List ℕ) (a : ℕ) → take (a + record_bytes - a) (drop a f) ≡ record_at f a
part-copied f a =
    let e : a + record_bytes - a ≡ record_bytes = omega arith in
    ap (λ (n : ℕ). take n (drop a f)) e
