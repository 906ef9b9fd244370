-- Numbers of four and of eight bytes, byte by byte, and the bytes of a number, one after the other. Assumes nothing.
use mathlib.Core.Path.{◌≡◌, refl, sym, ap, ◌∙◌}
use mathlib.Core.List.{List, ◌++◌, append_assoc}
use Prim.Native.Nat.{ℕ, zero, suc, ◌+◌, ◌*◌, ◌/◌}
use native.Mathlib.Omega.{arith}
use lib.ListN.{length, take, drop}
use lib.Seq.{drop-drop}
use Rattle.laws.specs.Area.{num}
use borrow.Rule.Slice.PartMut.{put_mid}
use Rattle.laws.specs.Joined.{written}
use Rattle.std.specs.Int.{w32, w64, to_le_bytes}
use Rattle.little.specs.Little.{little_bytes, little_of}

pub four : (f : List ℕ) (a : ℕ) → little_of f a 4 ≡ num f a + 256 * (num f (a + 1) + 256 * (num f (a + 2) + 256 * num f (a + 3)))
unfolding little_of
four f a =
    let p : a + 1 + 1 ≡ a + 2 = omega arith in
    let q : a + 2 + 1 ≡ a + 3 = omega arith in
    rw (p, q) (omega arith)

pub eight : (f : List ℕ) (a : ℕ)
    → little_of f a 8
    ≡ num f a
    + 256 * (num f (a + 1) + 256 * (num f (a + 2) + 256 * (num f (a + 3) + 256 * (num f (a + 4) + 256 * (num f (a + 5) + 256 * (num f (a + 6) + 256 * num f (a + 7)))))))
unfolding little_of
eight f a =
    let e2 : a + 1 + 1 ≡ a + 2 = omega arith in
    let e3 : a + 2 + 1 ≡ a + 3 = omega arith in
    let e4 : a + 3 + 1 ≡ a + 4 = omega arith in
    let e5 : a + 4 + 1 ≡ a + 5 = omega arith in
    let e6 : a + 5 + 1 ≡ a + 6 = omega arith in
    let e7 : a + 6 + 1 ≡ a + 7 = omega arith in
    rw (e2, e3, e4, e5, e6, e7) (omega arith)

pub length-bytes : (n v : ℕ) → length (little_bytes n v) ≡ n
unfolding little_bytes
length-bytes zero v = refl
length-bytes (suc n) v = ap suc (length-bytes n (v / 256))

-- the bytes that std writes of a number
pub bytes_eight : (v : ℕ) → little_bytes 8 v ≡ to_le_bytes w64 v
unfolding little_bytes
bytes_eight v =
    let e2 : v / 256 / 256 ≡ v / 65536 = omega arith in
    let e3 : v / 65536 / 256 ≡ v / 16777216 = omega arith in
    let e4 : v / 16777216 / 256 ≡ v / 4294967296 = omega arith in
    let e5 : v / 4294967296 / 256 ≡ v / 1099511627776 = omega arith in
    let e6 : v / 1099511627776 / 256 ≡ v / 281474976710656 = omega arith in
    let e7 : v / 281474976710656 / 256 ≡ v / 72057594037927936 = omega arith in
    rw (e2, e3, e4, e5, e6, e7)

pub four_of_eight : (v : ℕ) → take 4 (little_bytes 8 v) ≡ little_bytes 4 v
unfolding little_bytes
four_of_eight v = refl

pub bytes_four : (v : ℕ) → little_bytes 4 v ≡ to_le_bytes w32 v
bytes_four v = sym (four_of_eight v) ∙ ap (take 4) (bytes_eight v)

-- a part of an area written over
pub mid-written : (l : List ℕ) (a : ℕ) {v w : List ℕ} {k : ℕ} → v ≡ w → k ≡ length w → put_mid a k l v ≡ written w a l
mid-written l a {v} {w} {k} e h =
    ap (λ (x : List ℕ). put_mid a k l x) e
    ∙ ap (λ (x : List ℕ). take a l ++ (w ++ x)) (drop-drop k a l ∙ ap (λ (x : ℕ). drop (a + x) l) h)
    ∙ sym (append_assoc (take a l) w (drop (a + length w) l))
