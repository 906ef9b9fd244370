-- Areas from which frames are taken out keep their lengths, and have room for what is left. Premises: `AreasRoom`, `Climbs`, `Staying`.
use mathlib.Core.Path.{◌≡◌}
use mathlib.Core.List.{List, ◌++◌}
use mathlib.Core.Bool.{true}
use Prim.Native.Nat.{ℕ, ◌+◌, ◌-◌, ◌*◌, ◌≤◌}
use native.Mathlib.Omega.{arith}
use native.Mathlib.Nat.{mul-le-mul, mul-le-mul_right}
use lib.ListN.{length, drop, replicate, length-append, length-drop, length-replicate}
use lib.Ieee.{Float}
use Rattle.laws.specs.Area.{num, zero64}
use Rattle.laws.specs.Joined.{each}
use Rattle.laws.proofs.Bools.{by_bool}
use Rattle.laws.proofs.Laid.{singles-size, laid-size}
use Rattle.areas.proofs.Front.{filled-size}
use Rattle.run_record.specs.declared.Settings.{Settings}
use Rattle.run_record.specs.Record.{is_tree}
use Rattle.take_gone.specs.Gone.{Climbs}
use Rattle.take_rows.specs.Rows.{shrunk, kept_rows, kept_square, centred_left, centred_rows, Staying}
use Rattle.take_rows.proofs.Packing.{kept-all}
use Rattle.take_lists.specs.Packed.{packed_indices, packed_weights, packed_offsets, links_left, Listed}
use Rattle.take_lists.proofs.Bounds.{packed-offsets-size}
use Rattle.take_lists.proofs.Theorems.{packed-indices-count, packed-weights-count, links-left-few, packed-listed}
use Rattle.take_left.specs.Outlook.{thinned}
use Rattle.take_out.specs.TakeOut.{Holdings, affinities_after, indices_after, offsets_after, packed_areas}
use Rattle.taking.specs.Room.{AreasRoom}

module _ {A : Type 0} where
  pub shrunk-size : (z : A) (size : ℕ) (X l : List A) → length X ≤ size → size ≤ length l → length (shrunk z size X l) ≡ length l
  shrunk-size z size X l h m =
      omega (
        arith,
        length-append X (replicate (size - length X) z ++ drop size l),
        length-append (replicate (size - length X) z) (drop size l),
        length-replicate (size - length X) z,
        length-drop size l,
      )

-- ---- what is left of rows

pub rows-left-size : (keep : List ℕ) (w : ℕ) (l : List ℕ) → length (kept_rows keep w l) ≡ length keep * w
rows-left-size keep w l = laid-size w (λ i. each (λ d. num l (num keep i * w + d)) w) (length keep) (λ i h. singles-size (λ d. num l (num keep i * w + d)) w)

pub centred-size : (keep : List ℕ) (c : ℕ) (y : List Float) → length (centred_rows keep c y) ≡ length keep * c
centred-size keep c y = laid-size c (λ i. each (λ d. centred_left keep c y (num keep i) d) c) (length keep) (λ i h. singles-size (λ d. centred_left keep c y (num keep i) d) c)

pub square-size : (keep : List ℕ) (n : ℕ) (l : List ℕ) → length (kept_square keep n l) ≡ length keep * length keep
square-size keep n l =
    laid-size (length keep) (λ i. each (λ j. num l (num keep i * n + num keep j)) (length keep)) (length keep) (λ i h. singles-size (λ j. num l (num keep i * n + num keep j)) (length keep))

-- ---- every area keeps its length

pub record SameSizes (h k : Holdings) : Type 0 where
  pub positions-size : length k.positions ≡ length h.positions
  pub increments-size : length k.increments ≡ length h.increments
  pub gains-size : length k.gains ≡ length h.gains
  pub affinities-size : length k.affinities ≡ length h.affinities
  pub indices-size : length k.indices ≡ length h.indices
  pub offsets-size : length k.offsets ≡ length h.offsets
  pub forces-size : length k.forces ≡ length h.forces
  pub table-size : length k.table ≡ length h.table
  pub old-size : length k.old ≡ length h.old

module _ (s : Settings) (keep : List ℕ) (h : Holdings) (room : AreasRoom s h) (climbs : Climbs keep) (kept : Staying keep s.n) where
  rows_fit : (w : ℕ) (l : List ℕ) → s.n * w ≤ length l → length (shrunk 0 (s.n * w) (kept_rows keep w l) l) ≡ length l
  rows_fit w l k = shrunk-size 0 (s.n * w) (kept_rows keep w l) l (omega (arith, rows-left-size keep w l, kept-all kept w)) k

  few-left : is_tree s.method ≡ true → links_left keep h.indices h.offsets ≤ num h.offsets s.n
  few-left t = links-left-few keep h.indices h.offsets (room.lists-room t) climbs kept

  affinities-fit : length (affinities_after s keep h.affinities h.indices h.offsets) ≡ length h.affinities
  unfolding affinities_after
  affinities-fit = by_bool (length (affinities_after s keep h.affinities h.indices h.offsets) ≡ length h.affinities) (is_tree s.method)
      (λ t. rw t (shrunk-size 0 (num h.offsets s.n) (packed_weights keep h.affinities h.indices h.offsets) h.affinities
      (omega (arith, packed-weights-count keep h.affinities h.indices h.offsets, few-left t)) (room.lists-room t).weights-long))
      (λ t. rw t (shrunk-size 0 (s.n * s.n) (kept_square keep s.n h.affinities) h.affinities (omega (arith, square-size keep s.n h.affinities, square-few)) (room.square-room t)))
    where
      square-few : length keep * length keep ≤ s.n * s.n
      square-few = mul-le-mul kept.few kept.few

  indices-fit : length (indices_after s keep h.indices h.offsets) ≡ length h.indices
  unfolding indices_after
  indices-fit = by_bool (length (indices_after s keep h.indices h.offsets) ≡ length h.indices) (is_tree s.method)
      (λ t. rw t (shrunk-size 0 (num h.offsets s.n) (packed_indices keep h.indices h.offsets) h.indices
      (omega (arith, packed-indices-count keep h.indices h.offsets, few-left t)) (room.lists-room t).indices-long))
      (λ t. rw t)

  offsets-fit : length (offsets_after s keep h.indices h.offsets) ≡ length h.offsets
  unfolding offsets_after
  offsets-fit = by_bool (length (offsets_after s keep h.indices h.offsets) ≡ length h.offsets) (is_tree s.method)
      (λ t. rw t (shrunk-size 0 (s.n + 1) (packed_offsets keep h.indices h.offsets) h.offsets
      (omega (arith, packed-offsets-size keep h.indices h.offsets, kept.few)) (room.lists-room t).offsets-long))
      (λ t. rw t)

  pub areas-keep-sizes : SameSizes h (packed_areas s keep h)
  unfolding packed_areas
  areas-keep-sizes = record {
    positions-size = shrunk-size zero64 (s.n * s.c) (centred_rows keep s.c h.positions) h.positions
        (omega (arith, centred-size keep s.c h.positions, kept-all kept s.c)) room.positions-room;
    increments-size = rows_fit s.c h.increments room.increments-room;
    gains-size = rows_fit s.c h.gains room.gains-room;
    affinities-size = affinities-fit;
    indices-size = indices-fit;
    offsets-size = offsets-fit;
    forces-size = filled-size zero64 (s.n * (2 * s.c + 1)) h.forces room.forces-room;
    table-size = rows_fit s.f h.table room.table-room;
    old-size = omega (arith, length-append keep (drop (length keep) h.old), length-drop (length keep) h.old, kept.few, room.old-room);
  }

  -- the lists that are left lie as lists do
  lists-left : is_tree s.method ≡ true → Listed (length keep) (length h.affinities) (length h.indices) (offsets_after s keep h.indices h.offsets)
  unfolding offsets_after
  lists-left t = rw t (packed-listed keep h.indices h.offsets (room.lists-room t) climbs kept)

  -- so there is room for what is left, and for taking out again
  pub room-left : AreasRoom (thinned s (length keep)) (packed_areas s keep h)
  unfolding thinned packed_areas
  room-left =
      let z = areas-keep-sizes in
      let few = kept.few in
      record {
        positions-room = omega (arith, z.positions-size, mul-le-mul_right s.c few, room.positions-room);
        increments-room = omega (arith, z.increments-size, mul-le-mul_right s.c few, room.increments-room);
        gains-room = omega (arith, z.gains-size, mul-le-mul_right s.c few, room.gains-room);
        forces-room = omega (arith, z.forces-size, mul-le-mul_right (2 * s.c + 1) few, room.forces-room);
        table-room = omega (arith, z.table-size, mul-le-mul_right s.f few, room.table-room);
        old-room = omega (arith, z.old-size, few, room.old-room);
        lists-room = λ t. rw (affinities-fit, indices-fit) (lists-left t);
        square-room = λ t. omega (arith, affinities-fit, mul-le-mul few few, room.square-room t);
      }
