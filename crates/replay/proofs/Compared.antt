-- What a comparison of an area with a list finds. Assumes nothing.
use Rattle.std.proofs.Common.{◌≡◌, ℕ, ◌<◌, ◌≤◌, Bool, true, false, List, length, sym, le-ltb, lt-ltb, eq-eqb, ne_eqb, le-leb}
use lib.Ieee.{Float, binary64, to_bits}
use borrow.Author.Tests.{lt-leb}
use Rattle.laws.specs.Loops.{every}
use Rattle.laws.specs.Area.{at, num}
use Rattle.replay.specs.Areas.{wanted_at, right_value, right_number, same_area, same_numbers}

module _ (v : List Float) (from m : ℕ) (l : List ℕ) (a : ℕ) where
  pub value-passed : (i : ℕ) → i < from → right_value v from m l a i ≡ true
  value-passed i h = rw (lt-ltb i from h)

  module _ (i : ℕ) (h : from ≤ i) {b w : ℕ} (eb : b ≡ to_bits binary64 (at v i)) (ew : w ≡ wanted_at l a m i 0x4000000000000000) where
    pub value-right : b ≡ w → right_value v from m l a i ≡ true
    value-right e = rw (le-ltb i from h, sym eb, sym ew, eq-eqb b w e)

    pub value-wrong : (b ≡ w → ⊥) → right_value v from m l a i ≡ false
    value-wrong n = rw (le-ltb i from h, sym eb, sym ew, ne_eqb b w n)

  pub area-before : length v < from → false ≡ same_area v from m l a
  unfolding same_area
  area-before h = rw (lt-leb from (length v) h)

  pub area-short : from ≤ length v → length v < m → false ≡ same_area v from m l a
  unfolding same_area
  area-short h k = rw (le-leb from (length v) h, lt-leb m (length v) k)

  pub area-is : (r : Bool) → from ≤ length v → m ≤ length v → r ≡ every (right_value v from m l a) (length v) → r ≡ same_area v from m l a
  unfolding same_area
  area-is r h k e = rw (le-leb from (length v) h, le-leb m (length v) k) e

module _ (v : List ℕ) (m : ℕ) (l : List ℕ) (a : ℕ) where
  module _ (i : ℕ) {b w : ℕ} (eb : b ≡ num v i) (ew : w ≡ wanted_at l a m i 0x40000000) where
    pub number-right : b ≡ w → right_number v m l a i ≡ true
    number-right e = rw (sym eb, sym ew, eq-eqb b w e)

    pub number-wrong : (b ≡ w → ⊥) → right_number v m l a i ≡ false
    number-wrong n = rw (sym eb, sym ew, ne_eqb b w n)

  pub numbers-short : length v < m → false ≡ same_numbers v m l a
  unfolding same_numbers
  numbers-short k = rw (lt-leb m (length v) k)

  pub numbers-are : (r : Bool) → m ≤ length v → r ≡ every (right_number v m l a) (length v) → r ≡ same_numbers v m l a
  unfolding same_numbers
  numbers-are r k e = rw (le-leb m (length v) k) e
