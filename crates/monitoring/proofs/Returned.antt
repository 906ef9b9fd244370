-- Reading and then writing gives the same bytes, and writing what was written and read changes nothing further. Assumes nothing but that a file's elements are bytes, where it is said.
use mathlib.Core.Path.{◌≡◌, refl, sym, ap, ap₂, ◌∙◌, subst}
use mathlib.Core.List.{List, ◌++◌}
use mathlib.Core.Bool.{true, false, ◌&&◌}
use Prim.Native.Nat.{ℕ, ◌+◌, ◌-◌, ◌*◌, ◌/◌, ◌%◌, ◌^◌, ◌<◌, ◌≤◌}
use native.Mathlib.Omega.{arith}
use native.Mathlib.Nat.{le_of_eq, le_refl}
use lib.Dec.{eqb}
use lib.ListN.{length, take, drop, length-append, length-drop}
use lib.Seq.{take_all}
use borrow.Author.Tests.{le-leb, eqb-true, not-false}
use Rattle.laws.specs.Area.{num}
use Rattle.laws.specs.Joined.{joined, laid, each}
use Rattle.laws.proofs.Bools.{and_left, and_right}
use Rattle.laws.proofs.First.{first-none}
use Rattle.laws.proofs.Joined.{length-singles, singles-at}
use Rattle.laws.proofs.Laid.{laid-front}
use Rattle.take_rows.proofs.Packing.{joined_same}
use Rattle.little.specs.Little.{AllBelow}
use Rattle.little.proofs.Roundtrip.{little-below}
use Rattle.frames.specs.Frames.{spare_fine}
use Rattle.std.specs.Prelude.{Option, Some}
use Rattle.monitor_narrow.specs.Narrow.{narrow_of, widen_of, finite_single}
use Rattle.monitor_narrow.proofs.Theorems.{narrow-widened, narrow-once}
use Rattle.monitor.specs.Monitor.{monitor_record, frame_fine, follows_at, frames_room, FramesLie}
use Rattle.monitor.proofs.Laws.{frames-lie}
use Rattle.std.specs.Prelude.{Ok}
use Rattle.monitor_write.specs.MonitorWrite.{wrong_at, is_past, past_at, faulty_at, single_bits, monitor_row, monitor_writing, room_to_write, write_monitor}
use Rattle.monitor_write.proofs.Laws.{writing-whole}
use Rattle.monitor_read.specs.MonitorRead.{byte_at, monitor_picture, coordinate_at, coordinates_fine, broken_at, whole_monitor, MonitorReading, fronted, widened_at, read_monitor}
use Rattle.monitoring.specs.MonitorReasons.{AllGood}
use Rattle.monitoring.proofs.Records.{record-back, by-halves, x-stands, y-stands}
use Rattle.monitoring.proofs.WriteTold.{write-taken}
use Rattle.monitoring.proofs.ReadTold.{read_taken}
use Rattle.monitoring.proofs.Written.{single-is, follows_same, GoodFrame, good-frame, written-file, written-then-read}

-- ---- an area whose front is filled

pub fronted-size : (g : ℕ → ℕ) (n : ℕ) (l : List ℕ) → n ≤ length l → length (fronted g n l) ≡ length l
fronted-size g n l h = length-append (each g n) (drop n l) ∙ add (length-singles g n) (length-drop n l)
  where
    add : {x y : ℕ} → x ≡ n → y ≡ length l - n → x + y ≡ length l
    add e f = omega arith

pub fronted-at : (g : ℕ → ℕ) (n : ℕ) (l : List ℕ) (i : ℕ) → i < n → num (fronted g n l) i ≡ g i
fronted-at g n l i h = singles-at g n i (drop n l) h

-- ---- frames that are good are written

room-is : (n p s b x t : ℕ) → frames_room n p s b x ≡ true → n * 16 ≤ t → room_to_write n p s b x t ≡ true
unfolding room_to_write
room-is n p s b x t e h = rw (e, le-leb (n * 16) t h)

not-faulty : (P S B X : List ℕ) (i : ℕ) → GoodFrame P S B X i → faulty_at P S B X i ≡ false
unfolding faulty_at wrong_at past_at
not-faulty P S B X i g = rw (g.fine, g.follows, g.x-told, g.y-told)

good-written : (n : ℕ) (P S B X t : List ℕ) → frames_room n (length P) (length S) (length B) (length X) ≡ true → n * 16 ≤ length t → ((i : ℕ) → i < n → GoodFrame P S B X i)
    → monitor_writing (Ok n) (laid (monitor_row P S B X) 16 n t) ≡ write_monitor n P S B X t
good-written n P S B X t e h g =
    writing-whole n P S B X t (room-is n (length P) (length S) (length B) (length X) (length t) e h) n
    (sym (first-none (faulty_at P S B X) n (λ i l. not-faulty P S B X i (g i l)))) (laid (monitor_row P S B X) 16 n t) (le_refl n) refl

-- ---- areas whose fronts hold frames p, s, b and coordinates that are widened from single precision

module _ (n : ℕ) (p s b c : ℕ → ℕ) (P S B X : List ℕ) (room : frames_room n (length P) (length S) (length B) (length X) ≡ true)
    (fine : (i : ℕ) → i < n → frame_fine (p i) (s i) (b i) ≡ true) (order : (i : ℕ) → i < n → follows_at p b i ≡ true) (back : (j : ℕ) → j < 2 * n → narrow_of (widen_of (c j)) ≡ Some (c j)) where
  abbrev P' : List ℕ
  P' = fronted p n P

  abbrev S' : List ℕ
  S' = fronted s n S

  abbrev B' : List ℕ
  B' = fronted b n B

  abbrev X' : List ℕ
  X' = fronted (λ j. widen_of (c j)) (2 * n) X

  abbrev lies : FramesLie n (length P) (length S) (length B) (length X)
  lies = frames-lie n (length P) (length S) (length B) (length X) room

  room-left : frames_room n (length P') (length S') (length B') (length X') ≡ true
  room-left = rw (
    fronted-size p n P lies.pictures-long,
    fronted-size s n S lies.sides-long,
    fronted-size b n B lies.fields-long,
    fronted-size (λ j. widen_of (c j))
        (2 * n) X lies.positions-long,
  ) room

  narrow_at : (j : ℕ) → j < 2 * n → narrow_of (num X' j) ≡ Some (c j)
  narrow_at j h = ap narrow_of (fronted-at (λ j. widen_of (c j)) (2 * n) X j h) ∙ back j h

  single-told : (a : ℕ) (w : Option ℕ) → w ≡ Some a → is_past w ≡ false
  unfolding is_past
  single-told a w e = rw e

  single-bits : (a : ℕ) (w : Option ℕ) → w ≡ Some a → single_bits w ≡ a
  unfolding single_bits
  single-bits a w e = rw e

  good_left : (i : ℕ) → i < n → GoodFrame P' S' B' X' i
  good_left i h = record {
    fine = rw (fronted-at p n P i h, fronted-at s n S i h, fronted-at b n B i h) (fine i h);
    follows = follows_same (num P') p (num B') b i (λ j l. fronted-at p n P j (omega arith)) (λ j l. fronted-at b n B j (omega arith)) ∙ order i h;
    x-told = single-told (c (2 * i)) (narrow_of (num X' (2 * i))) (narrow_at (2 * i) (omega arith));
    y-told = single-told (c (2 * i + 1)) (narrow_of (num X' (2 * i + 1))) (narrow_at (2 * i + 1) (omega arith));
  }

  row-left : (i : ℕ) → i < n → monitor_row P' S' B' X' i ≡ monitor_record (p i) (s i) (b i) (c (2 * i)) (c (2 * i + 1))
  unfolding monitor_row
  row-left i h = rw (
    fronted-at p n P i h,
    fronted-at s n S i h,
    fronted-at b n B i h,
    single-bits (c (2 * i)) (narrow_of (num X' (2 * i)))
        (narrow_at (2 * i) (omega arith)),
    single-bits (c (2 * i + 1)) (narrow_of (num X' (2 * i + 1))) (narrow_at (2 * i + 1) (omega arith)),
  )

  pub fronts-written : (t : List ℕ) → n * 16 ≤ length t
      → write_monitor n (fronted p n P) (fronted s n S) (fronted b n B) (fronted (λ j. widen_of (c j)) (2 * n) X) t ≡ monitor_writing (Ok n)
      (joined (λ i. monitor_record (p i) (s i) (b i) (c (2 * i)) (c (2 * i + 1))) n ++ drop (n * 16) t)
  fronts-written t h = sym (good-written n P' S' B' X' t room-left h good_left)
      ∙ ap (λ (l : List ℕ). monitor_writing (Ok n) (l ++ drop (n * 16) t))
      (joined_same (monitor_row P' S' B' X') (λ i. monitor_record (p i) (s i) (b i) (c (2 * i)) (c (2 * i + 1))) n row-left)

-- ---- written, read, and written again: the same bytes

module _ (n : ℕ) (P S B X t : List ℕ) (done : (write_monitor n P S B X t).answer ≡ Ok n) where
  frame : (i : ℕ) → i < n → GoodFrame P S B X i
  frame i h = good-frame P S B X i ((write-taken n P S B X t n done).2 i h)

  once_more : (j : ℕ) → j < 2 * n → narrow_of (widen_of (single_bits (narrow_of (num X j)))) ≡ Some (single_bits (narrow_of (num X j)))
  once_more = by-halves (λ j. narrow_of (widen_of (single_bits (narrow_of (num X j)))) ≡ Some (single_bits (narrow_of (num X j)))) n
      (λ i h. narrow-once (num X (2 * i)) (single_bits (narrow_of (num X (2 * i)))) (single-is (num X (2 * i)) (frame i h).x-told))
      (λ i h. narrow-once (num X (2 * i + 1)) (single_bits (narrow_of (num X (2 * i + 1)))) (single-is (num X (2 * i + 1)) (frame i h).y-told))

  rows-file : take (n * 16) (write_monitor n P S B X t).target ≡ joined
      (λ i. monitor_record (num P i) (num S i) (num B i) (single_bits (narrow_of (num X (2 * i)))) (single_bits (narrow_of (num X (2 * i + 1))))) n
  unfolding monitor_row
  rows-file = written-file n P S B X t done

  -- what was written, read into any areas and written to any target: all n records again, byte for byte
  pub written-again : (P' S' B' X' t' : List ℕ) → frames_room n (length P') (length S') (length B') (length X') ≡ true → n * 16 ≤ length t'
      → write_monitor n
      (read_monitor (take (n * 16) (write_monitor n P S B X t).target) P' S' B' X').pictures
      (read_monitor (take (n * 16) (write_monitor n P S B X t).target) P' S' B' X').sides
      (read_monitor (take (n * 16) (write_monitor n P S B X t).target) P' S' B' X').fields
      (read_monitor (take (n * 16) (write_monitor n P S B X t).target) P' S' B' X').positions
      t'
      ≡ monitor_writing (Ok n) (take (n * 16) (write_monitor n P S B X t).target ++ drop (n * 16) t')
  written-again P' S' B' X' t' e h =
      ap (λ (r : MonitorReading). write_monitor n r.pictures r.sides r.fields r.positions t') (written-then-read n P S B X t done P' S' B' X' e)
      ∙ fronts-written n (num P) (num S) (num B) (λ j. single_bits (narrow_of (num X j))) P' S' B' X' e (λ i l. (frame i l).fine) (λ i l. (frame i l).follows) once_more t' h
      ∙ ap (λ (l : List ℕ). monitor_writing (Ok n) (l ++ drop (n * 16) t')) (sym rows-file)

-- ---- read, and then written: the same bytes

record GoodRecord (f : List ℕ) (i : ℕ) : Type 0 where
  fine : frame_fine (monitor_picture f i) (byte_at f 4 i) (byte_at f 5 i) ≡ true
  spare-one : num f (i * 16 + 6) ≡ 0
  spare-two : num f (i * 16 + 7) ≡ 0
  x-fine : finite_single (coordinate_at f (2 * i)) ≡ true
  y-fine : finite_single (coordinate_at f (2 * i + 1)) ≡ true
  order : follows_at (monitor_picture f) (byte_at f 5) i ≡ true

good-record : (f : List ℕ) (i : ℕ) → broken_at f i ≡ false → GoodRecord f i
unfolding broken_at spare_fine coordinates_fine
good-record f i e =
    let F = frame_fine (monitor_picture f i) (byte_at f 4 i) (byte_at f 5 i) in
    let u = eqb (num f (i * 16 + 6)) 0 in
    let v = eqb (num f (i * 16 + 7)) 0 in
    let x = finite_single (coordinate_at f (2 * i)) in
    let y = finite_single (coordinate_at f (2 * i + 1)) in
    let O = follows_at (monitor_picture f) (byte_at f 5) i in
    let all : F && (u && v) && (x && y) && O ≡ true = not-false (F && (u && v) && (x && y) && O) e in
    let three = and_left (F && (u && v) && (x && y)) O all in
    let pair = and_left (F && (u && v)) (x && y) three in
    record {
      fine = and_left F (u && v) pair;
      spare-one = eqb-true (num f (i * 16 + 6)) 0 (and_left u v (and_right F (u && v) pair));
      spare-two = eqb-true (num f (i * 16 + 7)) 0 (and_right u v (and_right F (u && v) pair));
      x-fine = and_left x y (and_right (F && (u && v)) (x && y) three);
      y-fine = and_right x y (and_right (F && (u && v)) (x && y) three);
      order = and_right (F && (u && v) && (x && y)) O all;
    }

coordinate-below : (f : List ℕ) (j : ℕ) → AllBelow 256 f → coordinate_at f j < 2 ^ 32
unfolding coordinate_at
coordinate-below f j small = little-below 4 f (j / 2 * 16 + (8 + 4 * (j % 2))) small

module _ (f P S B X : List ℕ) (small : AllBelow 256 f) where
  module _ (good : AllGood f) where
    abbrev m : ℕ
    m = whole_monitor f

    held : (i : ℕ) → i < m → GoodRecord f i
    held i h = good-record f i (good.0 i h)

    whole-file : m * 16 ≡ length f
    whole-file = let e = good.1 in omega arith

    back : (j : ℕ) → j < 2 * m → narrow_of (widen_of (coordinate_at f j)) ≡ Some (coordinate_at f j)
    back = by-halves (λ j. narrow_of (widen_of (coordinate_at f j)) ≡ Some (coordinate_at f j)) m
        (λ i h. narrow-widened (coordinate_at f (2 * i)) (coordinate-below f (2 * i) small) (held i h).x-fine)
        (λ i h. narrow-widened (coordinate_at f (2 * i + 1)) (coordinate-below f (2 * i + 1) small) (held i h).y-fine)

    row-stands : (i : ℕ) → i < m → take 16 (drop (i * 16) f) ≡ monitor_record (monitor_picture f i) (byte_at f 4 i) (byte_at f 5 i) (coordinate_at f (2 * i)) (coordinate_at f (2 * i + 1))
    row-stands i h = rw (x-stands f i, y-stands f i) (sym (record-back f (i * 16) small (omega (arith, whole-file)) (held i h).spare-one (held i h).spare-two))

    rows_are : joined (λ i. monitor_record (monitor_picture f i) (byte_at f 4 i) (byte_at f 5 i) (coordinate_at f (2 * i)) (coordinate_at f (2 * i + 1))) m ≡ f
    rows_are = sym (laid-front 16 (λ i. monitor_record (monitor_picture f i) (byte_at f 4 i) (byte_at f 5 i) (coordinate_at f (2 * i)) (coordinate_at f (2 * i + 1))) m f row-stands)
        ∙ take_all (m * 16) f (le_of_eq (sym whole-file))

    filled-written : frames_room m (length P) (length S) (length B) (length X) ≡ true → (t : List ℕ) → length f ≤ length t
        → write_monitor m (fronted (monitor_picture f) m P) (fronted (byte_at f 4) m S) (fronted (byte_at f 5) m B) (fronted (widened_at f) (2 * m) X) t ≡ monitor_writing (Ok m)
        (f ++ drop (length f) t)
    filled-written e t h =
        fronts-written m (monitor_picture f) (byte_at f 4) (byte_at f 5) (coordinate_at f) P S B X e (λ i l. (held i l).fine) (λ i l. (held i l).order) back t (omega (arith, whole-file))
        ∙ ap₂ (λ (l : List ℕ) (k : ℕ). monitor_writing (Ok m) (l ++ drop k t)) rows_are whole-file

  -- a file that is read, and what was read written to any target that holds it: the file's bytes at its front, and its tail as it was
  pub read-then-written : (n : ℕ) → (read_monitor f P S B X).answer ≡ Ok n → (t : List ℕ) → length f ≤ length t
      → write_monitor n (read_monitor f P S B X).pictures (read_monitor f P S B X).sides (read_monitor f P S B X).fields (read_monitor f P S B X).positions t ≡ monitor_writing
      (Ok n) (f ++ drop (length f) t)
  read-then-written n e t h =
      let w = read_taken f P S B X n e in
      ap (λ (r : MonitorReading). write_monitor n r.pictures r.sides r.fields r.positions t) w.3
      ∙ subst (λ (k : ℕ). write_monitor k (fronted (monitor_picture f) (whole_monitor f) P) (fronted (byte_at f 4) (whole_monitor f) S) (fronted (byte_at f 5) (whole_monitor f) B)
      (fronted (widened_at f) (2 * whole_monitor f) X) t ≡ monitor_writing (Ok k) (f ++ drop (length f) t)) (sym w.0) (filled-written w.1 w.2 t h)
