-- Every file that writing makes is one that reading takes, and what is read is pictures, sides, fields and the narrowed coordinates. Assumes nothing.
use mathlib.Core.Path.{◌≡◌, refl, sym, ap, ◌∙◌}
use mathlib.Core.List.{List, [], append-nil}
use mathlib.Core.Bool.{true, false, not, ◌&&◌, ◌||◌, true≢false}
use Prim.Native.Nat.{ℕ, ◌+◌, ◌-◌, ◌*◌, ◌^◌, ◌<◌, ◌≤◌}
use native.Mathlib.Omega.{arith}
use native.Mathlib.Nat.{le_refl}
use lib.Dec.{leb}
use lib.ListN.{length, take, drop}
use lib.Seq.{take_at}
use borrow.Author.Tests.{leb-true, eq-eqb, not-false}
use Rattle.laws.specs.Area.{num}
use Rattle.laws.specs.Joined.{joined}
use Rattle.laws.proofs.Bools.{and_left, and_right, or_left, or_right}
use Rattle.laws.proofs.Laid.{laid-size, laid-at}
use Rattle.take_rows.proofs.Packing.{each_same}
use Rattle.little.specs.Little.{little_of}
use Rattle.little.proofs.Roundtrip.{little-same}
use Rattle.frames.specs.Frames.{picture_fine, side_fine, field_fine, spare_fine}
use Rattle.std.specs.Prelude.{Option, Some, None}
use Rattle.monitor_narrow.specs.Narrow.{narrow_of, widen_of, finite_single}
use Rattle.monitor_narrow.proofs.Theorems.{narrowed-below, narrowed-finite}
use Rattle.monitor.specs.Monitor.{frame_fine, follows_at, frames_room}
use Rattle.std.specs.Prelude.{Ok}
use Rattle.monitor_write.specs.MonitorWrite.{wrong_at, is_past, past_at, faulty_at, single_bits, monitor_row, write_monitor}
use Rattle.monitor_write.proofs.Laws.{row-size}
use Rattle.monitor_read.specs.MonitorRead.{byte_at, monitor_picture, coordinate_at, coordinates_fine, broken_at, whole_monitor, is_monitor, monitor_reading, fronted, widened_at, read_monitor}
use Rattle.monitoring.specs.MonitorReasons.{AllGood}
use Rattle.monitoring.proofs.Records.{side-in, field_in, zeros-in, picture-in, x-in, y-in, by-halves, x-stands, y-stands}
use Rattle.monitoring.proofs.WriteTold.{write-taken}
use Rattle.monitoring.proofs.ReadTold.{good-file, out-filled}

-- ---- a coordinate that is not past

told-single : (a : Option ℕ) → is_past a ≡ false → a ≡ Some (single_bits a)
unfolding is_past single_bits
told-single (Some w) e = refl
told-single None e = absurd (true≢false e)

module _ (b : ℕ) (e : is_past (narrow_of b) ≡ false) where
  pub single-is : narrow_of b ≡ Some (single_bits (narrow_of b))
  single-is = told-single (narrow_of b) e

  single-below : single_bits (narrow_of b) < 2 ^ 32
  single-below = narrowed-below b (single_bits (narrow_of b)) single-is

  single-finite : finite_single (single_bits (narrow_of b)) ≡ true
  single-finite = narrowed-finite b (single_bits (narrow_of b)) single-is

-- the order by pictures and fields that are the same up to i
pub follows_same : (p q b c : ℕ → ℕ) (i : ℕ) → ((j : ℕ) → j ≤ i → p j ≡ q j) → ((j : ℕ) → j ≤ i → b j ≡ c j) → follows_at p b i ≡ follows_at q c i
unfolding follows_at
follows_same p q b c i h k = rw (h (i - 1) (omega arith), h i (le_refl i), k (i - 1) (omega arith), k i (le_refl i))

-- ---- a frame that is not faulty

pub record GoodFrame (P S B X : List ℕ) (i : ℕ) : Type 0 where
  pub fine : frame_fine (num P i) (num S i) (num B i) ≡ true
  pub follows : follows_at (num P) (num B) i ≡ true
  pub x-told : is_past (narrow_of (num X (2 * i))) ≡ false
  pub y-told : is_past (narrow_of (num X (2 * i + 1))) ≡ false

pub good-frame : (P S B X : List ℕ) (i : ℕ) → faulty_at P S B X i ≡ false → GoodFrame P S B X i
unfolding faulty_at wrong_at past_at
good-frame P S B X i e =
    let F = frame_fine (num P i) (num S i) (num B i) in
    let O = follows_at (num P) (num B) i in
    let x = is_past (narrow_of (num X (2 * i))) in
    let y = is_past (narrow_of (num X (2 * i + 1))) in
    let w : F && O ≡ true = not-false (F && O) (or_left (not (F && O)) (x || y) e) in
    let p : (x || y) ≡ false = or_right (not (F && O)) (x || y) e in
    record { fine = and_left F O w; follows = and_right F O w; x-told = or_left x y p; y-told = or_right x y p }

picture-below : (p s b : ℕ) → frame_fine p s b ≡ true → p < 2 ^ 32
unfolding frame_fine picture_fine
picture-below p s b e = omega (
  arith,
  leb-true p 79999 (and_right (leb 1 p) (leb p 79999)
      (and_left (leb 1 p && leb p 79999) (side_fine s) (and_left (leb 1 p && leb p 79999 && side_fine s) (field_fine b) e))),
)

-- ---- the bytes written

module _ (n : ℕ) (P S B X : List ℕ) (good : (i : ℕ) → i < n → faulty_at P S B X i ≡ false) where
  abbrev row : ℕ → List ℕ
  row = monitor_row P S B X

  abbrev file : List ℕ
  file = joined (monitor_row P S B X) n

  sizes : (i : ℕ) → i < n → length (row i) ≡ 16
  sizes i h = row-size P S B X i

  pub file-size : length (joined (monitor_row P S B X) n) ≡ n * 16
  file-size = laid-size 16 row n sizes

  byte-in : (i j : ℕ) → i < n → j < 16 → num file (i * 16 + j) ≡ num (row i) j
  byte-in i j h l = ap (λ (r : List ℕ). num r (i * 16 + j)) (sym (append-nil file)) ∙ laid-at 16 row n i j [] 0 sizes h l

  -- the number in four bytes of record i
  number_in : (i d : ℕ) → i < n → d + 4 ≤ 16 → little_of file (i * 16 + d) 4 ≡ little_of (row i) d 4
  number_in i d h l = little-same 4 file (row i) (i * 16 + d) d (λ j m. ap (num file) (sums (i * 16) d j) ∙ byte-in i (d + j) h (omega arith))
    where
      sums : (a d j : ℕ) → a + d + j ≡ a + (d + j)
      sums a d j = omega arith

  module _ (i : ℕ) (h : i < n) where
    abbrev g : GoodFrame P S B X i
    g = good-frame P S B X i (good i h)

    picture-read : monitor_picture file i ≡ num P i
    unfolding monitor_row
    picture-read = ap (λ (a : ℕ). little_of file a 4) (plain (i * 16)) ∙ number_in i 0 h (omega arith) ∙
        picture-in (num P i) (num S i) (num B i) (single_bits (narrow_of (num X (2 * i)))) (single_bits (narrow_of (num X (2 * i + 1))))
        (picture-below (num P i) (num S i) (num B i) g.fine)
      where
        plain : (a : ℕ) → a ≡ a + 0
        plain a = omega arith

    side-read : byte_at file 4 i ≡ num S i
    unfolding monitor_row
    side-read = byte-in i 4 h (omega arith) ∙ side-in (num P i) (num S i) (num B i) (single_bits (narrow_of (num X (2 * i)))) (single_bits (narrow_of (num X (2 * i + 1))))

    field-read : byte_at file 5 i ≡ num B i
    unfolding monitor_row
    field-read = byte-in i 5 h (omega arith) ∙ field_in (num P i) (num S i) (num B i) (single_bits (narrow_of (num X (2 * i)))) (single_bits (narrow_of (num X (2 * i + 1))))

    spare-read : spare_fine file (i * 16) ≡ true
    unfolding spare_fine monitor_row
    spare-read =
        let z = zeros-in (num P i) (num S i) (num B i) (single_bits (narrow_of (num X (2 * i)))) (single_bits (narrow_of (num X (2 * i + 1)))) in
        rw (eq-eqb (num file (i * 16 + 6)) 0 (byte-in i 6 h (omega arith) ∙ z.0), eq-eqb (num file (i * 16 + 7)) 0 (byte-in i 7 h (omega arith) ∙ z.1))

    pub x-read : coordinate_at file (2 * i) ≡ single_bits (narrow_of (num X (2 * i)))
    unfolding monitor_row
    x-read =
        x-stands file i ∙ number_in i 8 h (omega arith) ∙ x-in (num P i) (num S i) (num B i) (single_bits (narrow_of (num X (2 * i))))
        (single_bits (narrow_of (num X (2 * i + 1)))) (single-below (num X (2 * i)) g.x-told)

    pub y-read : coordinate_at file (2 * i + 1) ≡ single_bits (narrow_of (num X (2 * i + 1)))
    unfolding monitor_row
    y-read =
        y-stands file i ∙ number_in i 12 h (omega arith) ∙ y-in (num P i) (num S i) (num B i) (single_bits (narrow_of (num X (2 * i))))
        (single_bits (narrow_of (num X (2 * i + 1)))) (single-below (num X (2 * i + 1)) g.y-told)

    coordinates-read : coordinates_fine file i ≡ true
    unfolding coordinates_fine
    coordinates-read = rw (x-read, y-read, single-finite (num X (2 * i)) g.x-told, single-finite (num X (2 * i + 1)) g.y-told)

  order-read : (i : ℕ) → i < n → follows_at (monitor_picture file) (byte_at file 5) i ≡ true
  order-read i h = follows_same (monitor_picture file) (num P) (byte_at file 5) (num B) i (λ j l. picture-read j (omega arith)) (λ j l. field-read j (omega arith)) ∙ (g i h).follows

  record-read : (i : ℕ) → i < n → broken_at file i ≡ false
  unfolding broken_at
  record-read i h = rw (picture-read i h, side-read i h, field-read i h, (g i h).fine, spare-read i h, coordinates-read i h, order-read i h)

  -- coordinate j of the file is that of the frames, narrowed
  coordinate-read : (j : ℕ) → j < 2 * n → coordinate_at file j ≡ single_bits (narrow_of (num X j))
  coordinate-read = by-halves (λ j. coordinate_at file j ≡ single_bits (narrow_of (num X j))) n x-read y-read

  whole-read : whole_monitor file ≡ n
  whole-read = let e = file-size in omega arith

  file-good : AllGood file
  file-good = (λ i l. record-read i (rw whole-read at l), let e = file-size in omega arith)

  pub file-taken : (P' S' B' X' : List ℕ) → frames_room n (length P') (length S') (length B') (length X') ≡ true
      → read_monitor file P' S' B' X' ≡ monitor_reading (Ok n) (fronted (num P) n P') (fronted (num S) n S') (fronted (num B) n B')
      (fronted (λ j. widen_of (single_bits (narrow_of (num X j)))) (2 * n) X')
  file-taken P' S' B' X' e =
      sym (out-filled file P' S' B' X' file-good (rw whole-read e))
      ∙ rw (
        whole-read,
        each_same (monitor_picture file) (num P) n picture-read,
        each_same (byte_at file 4) (num S) n side-read,
        each_same (byte_at file 5) (num B) n field-read,
        each_same (widened_at file) (λ j. widen_of (single_bits (narrow_of (num X j)))) (2 * n) (λ j l. ap widen_of
            (coordinate-read j l)),
      )

-- ---- the theorems

module _ (n : ℕ) (P S B X t : List ℕ) (done : (write_monitor n P S B X t).answer ≡ Ok n) where
  -- the bytes at the target's front are the records
  pub written-file : take (n * 16) (write_monitor n P S B X t).target ≡ joined (monitor_row P S B X) n
  written-file =
      let w = write-taken n P S B X t n done in
      ap (take (n * 16)) w.3 ∙ take_at (joined (monitor_row P S B X) n) (drop (n * 16) t) (n * 16) (file-size n P S B X w.2)

  -- what writing makes, reading takes
  pub written-is-good : is_monitor (take (n * 16) (write_monitor n P S B X t).target) ≡ true
  written-is-good = rw written-file (good-file (joined (monitor_row P S B X) n) (file-good n P S B X (write-taken n P S B X t n done).2))

  -- into any areas that are long enough: pictures, sides, fields, and the coordinates narrowed and widened; the areas' tails are kept
  pub written-then-read : (P' S' B' X' : List ℕ) → frames_room n (length P') (length S') (length B') (length X') ≡ true
      → read_monitor (take (n * 16) (write_monitor n P S B X t).target) P' S' B' X' ≡ monitor_reading (Ok n) (fronted (num P) n P') (fronted (num S) n S')
      (fronted (num B) n B') (fronted (λ j. widen_of (single_bits (narrow_of (num X j)))) (2 * n) X')
  written-then-read P' S' B' X' e = rw written-file (file-taken n P S B X (write-taken n P S B X t n done).2 P' S' B' X' e)
