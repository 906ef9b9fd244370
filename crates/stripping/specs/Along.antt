-- The rule of the strip, in the request's words, and what a call that hands out frames leaves. Definitions only.
use Rattle.std.specs.Prelude.{◌≡◌, List, true, ℕ, ◌-◌, ◌<◌, ◌≤◌, length, drop, Float}
use Rattle.std.specs.Float.{binary64}
use Rattle.std.specs.Float.Ieee.{le, eq, sub, to_bits}
use Rattle.laws.specs.Area.{at, num, bits, zero64}
use Rattle.run_record.specs.Record.{is_ended}
use Rattle.run_entry.specs.State.{Memory}
use Rattle.run_entry.specs.Entry.{is_fine}
use Rattle.record_words.specs.RecordWords.{settings_of, standing_of}
use Rattle.strip_order.specs.Strip.{AllCalm}
use Rattle.strip_profile.specs.Profile.{in_profile}
use Rattle.hand_out.specs.HandOut.{Handing, hand_fault}

-- the n samples by rising position, equal positions (zeros of either sign are) by sample number, every sample exactly once. y are the positions, o the order
pub record ByRule (y : List Float) (n : ℕ) (o : List ℕ) : Type 0 where
  pub long : n ≤ length o
  pub named : (q : ℕ) → q < n → num o q < n
  pub somewhere : (i : ℕ) → i < n → (q : ℕ) × ((q < n) × (num o q ≡ i))
  pub once : (p q : ℕ) → p < n → q < n → num o p ≡ num o q → p ≡ q
  pub never-falls : (p q : ℕ) → p < q → q < n → le (at y (num o p)) (at y (num o q)) ≡ true
  pub by_number : (p q : ℕ) → p < q → q < n → eq (at y (num o p)) (at y (num o q)) ≡ true → num o p < num o q

-- n frames were handed out: w are the record's words, m the areas, o and g order and gaps as they were lent, h what is left
pub record HandedAlong (w : List ℕ) (m : Memory) (o g : List ℕ) (n : ℕ) (h : Handing) : Type 0 where
  pub entry-fine : is_fine (hand_fault w m) ≡ true
  pub all-frames : n ≡ num w 0
  pub in-profile : in_profile (settings_of w) ≡ true
  pub ended : is_ended (standing_of (num w 9)) ≡ true
  pub calm-positions : AllCalm m.positions n
  pub order-room : n ≤ length o
  pub gaps-room : n ≤ length g
  pub rule : ByRule m.positions n h.order
  -- +0.0 for the first, for each other one subtraction
  pub first-gap : 0 < n → num h.gaps 0 ≡ 0
  pub each-gap : (q : ℕ) → 0 < q → q < n → num h.gaps q ≡ to_bits binary64 (sub binary64 (at m.positions (num h.order q)) (at m.positions (num h.order (q - 1))))
  -- −0.0 is not below zero, and no gap is a NaN
  pub no-gap-below : (q : ℕ) → q < n → le zero64 (bits (num h.gaps q)) ≡ true
  pub order-length : length h.order ≡ length o
  pub gaps-length : length h.gaps ≡ length g
  pub order-tail : drop n h.order ≡ drop n o
  pub gaps-tail : drop n h.gaps ≡ drop n g
