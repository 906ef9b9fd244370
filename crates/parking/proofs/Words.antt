-- Each word of what is written is the run's. Assumes nothing.
use mathlib.Core.Path.{◌≡◌, sym, ap, subst, ◌∙◌}
use mathlib.Core.List.{List, [], ◌∷◌, ◌++◌, append-nil}
use mathlib.Core.Bool.{Bool, true, false, cond}
use Prim.Native.Nat.{ℕ, zero, suc, ◌+◌, ◌-◌, ◌*◌, ◌/◌, ◌<◌, ◌≤◌}
use native.Mathlib.Omega.{arith}
use lib.Dec.{ltb}
use lib.ListN.{length, take, drop, get_or-append}
use borrow.Author.Tests.{lt-ltb, le-ltb}
use Rattle.laws.specs.Area.{num}
use Rattle.laws.specs.Joined.{joined}
use Rattle.laws.proofs.Laid.{laid-at, laid-size}
use Rattle.little.specs.Little.{little_bytes, word_in, AllBelow}
use Rattle.little.proofs.Bytes.{length-bytes}
use Rattle.little.proofs.Roundtrip.{little-same, little-back, bytes_back}
use Rattle.parked.specs.declared.Layout.{Layout}
use Rattle.parked.specs.Layout.{filled_up, records_in}
use Rattle.parked.specs.Parked.{Stored, head_of, area_word, state_word, affinity_word, parked_word}
use Rattle.park.specs.Park.{parked_into}
use Rattle.parking.specs.Held.{bytes_most, halves_most, words_most, InWords}
use Rattle.parking.proofs.Regions.{Stacked, end_whole, chosen, in-positions, in-increments, in-gains, in-affinities, in-indices, in-weights}

-- ---- words one after the other

-- word w of n words written one after the other
pub row_word : (v : ℕ → ℕ) (n w : ℕ) (r : List ℕ) → w < n → v w < words_most → word_in (joined (λ w. little_bytes 8 (v w)) n ++ r) w ≡ v w
row_word v n w r h b =
    let row : ℕ → List ℕ = λ w. little_bytes 8 (v w) in
    little-same 8 (joined row n ++ r) (row w ++ []) (8 * w) 0
    (λ j m. ap (num (joined row n ++ r)) (place j) ∙ laid-at 8 row n w j r 0 (λ i l. length-bytes 8 (v i)) h m ∙
    sym (get_or-append (row w) [] 0 j (subst (λ (x : ℕ). j < x) (sym (length-bytes 8 (v w))) m)) ∙ ap (num (row w ++ [])) (plus j))
    ∙ little-back 8 (v w) [] b
  where
    place : (j : ℕ) → 8 * w + j ≡ w * 8 + j
    place j = omega arith

    plus : (j : ℕ) → j ≡ 0 + j
    plus j = omega arith

-- .. with nothing behind them
pub word-alone : (v : ℕ → ℕ) (n w : ℕ) → w < n → v w < words_most → word_in (joined (λ w. little_bytes 8 (v w)) n) w ≡ v w
word-alone v n w h b = ap (λ (f : List ℕ). word_in f w) (sym (append-nil (joined (λ w. little_bytes 8 (v w)) n))) ∙ row_word v n w [] h b

-- the bytes of word w
pub word-bytes : (f : List ℕ) (w : ℕ) → AllBelow bytes_most f → 8 * w + 8 ≤ length f → take 8 (drop (w * 8) f) ≡ little_bytes 8 (word_in f w)
word-bytes f w b h = ap (λ (x : ℕ). take 8 (drop x f)) (turn w) ∙ sym (bytes_back 8 f (8 * w) b h)
  where
    turn : (w : ℕ) → w * 8 ≡ 8 * w
    turn w = omega arith

-- they come to whole records
pub rows_long : (v : ℕ → ℕ) (l : Layout) → Stacked l → length (joined (λ w. little_bytes 8 (v w)) l.end) ≡ 32 * records_in l
rows_long v l r = laid-size 8 (λ w. little_bytes 8 (v w)) l.end (λ i h. length-bytes 8 (v i)) ∙ times l.end (end_whole l r)
  where
    times : (x : ℕ) → x ≡ 4 * (x / 4) → x * 8 ≡ 32 * (x / 4)
    times x e = omega arith

-- ---- every word is one of 64 bits

-- a list of words of 64 bits
pub record Lows (l : List ℕ) : Type 0 where
  pub each : AllBelow words_most l

pub nil-low : Lows []
nil-low = record { each = λ i. omega arith }

pub cons-low : {x : ℕ} {l : List ℕ} → x < words_most → Lows l → Lows (x ∷ l)
cons-low {x} {l} h b = record { each = place }
  where
    place : AllBelow words_most (x ∷ l)
    place zero = h
    place (suc i) = b.each i

pub either-below : {m : ℕ} (t : Bool) (x y : ℕ) → x < m → y < m → cond t x y < m
either-below true x y a b = a
either-below false x y a b = b

module _ (l : Layout) (d : Stored) (e : InWords d) (k : l.links < words_most) where
  head-below : AllBelow words_most (head_of l d.run)
  unfolding head_of
  head-below =
      let w = e.run in
      let third : Lows _ = cons-low (w 8) (cons-low (w 10) (cons-low (w 9) (cons-low k nil-low))) in
      let second : Lows _ = cons-low (w 4) (cons-low (w 5) (cons-low (w 6) (cons-low (either-below l.tree (num d.run 7) 0 (w 7) (omega arith)) third))) in
      (cons-low (w 3) (cons-low (w 0) (cons-low (w 1) (cons-low (w 2) second)))).each

  area-below : (v : List ℕ) (b m w : ℕ) → AllBelow words_most v → area_word v b m w < words_most
  unfolding area_word
  area-below v b m w h = either-below (ltb (w - b) m) (num v (w - b)) 0 (h (w - b)) (omega arith)

  wide : (v : List ℕ) → AllBelow halves_most v → AllBelow words_most v
  wide v h i = omega (arith, h i)

  pub word_below : (w : ℕ) → parked_word l d w < words_most
  unfolding parked_word state_word affinity_word
  word_below w =
      either-below (ltb w 12) _ _ (head-below w)
      (either-below (ltb w l.affinities) _ _
      (either-below (ltb w l.increments) _ _ (area-below d.positions 12 l.cells w e.positions)
      (either-below (ltb w l.gains) _ _ (area-below d.increments l.increments l.cells w e.increments) (area-below d.gains l.gains l.cells w e.gains)))
      (either-below (ltb w l.indices) _ _ (area-below (cond l.tree d.offsets d.affinities) l.affinities l.held w (which l.tree))
      (either-below (ltb w l.weights) _ _ (area-below d.indices l.indices l.links w (wide d.indices e.indices))
      (area-below d.affinities l.weights l.links w e.affinities))))
    where
      which : (t : Bool) → AllBelow words_most (cond t d.offsets d.affinities)
      which true = wide d.offsets e.offsets
      which false = e.affinities

  -- word w of what is written is word w of the run
  pub word-written : (t : List ℕ) (w : ℕ) → w < l.end → word_in (parked_into l d t) w ≡ parked_word l d w
  unfolding parked_into
  word-written t w h = row_word (parked_word l d) l.end w (drop (l.end * 8) t) h (word_below w)

-- ---- the run's words, region by region

-- place i of an area of m words, then zeros
abbrev pub filling : List ℕ → ℕ → ℕ → ℕ
filling v m i = cond (ltb i m) (num v i) 0

area-at : (v : List ℕ) (b m i : ℕ) → area_word v b m (b + i) ≡ filling v m i
unfolding area_word
area-at v b m i = ap (λ (x : ℕ). filling v m x) (is b i)
  where
    is : (b i : ℕ) → b + i - b ≡ i
    is b i = omega arith

pub filling-in : (v : List ℕ) (m i : ℕ) → i < m → filling v m i ≡ num v i
filling-in v m i h = rw (lt-ltb i m h)

pub filling-out : (v : List ℕ) (m i : ℕ) → m ≤ i → filling v m i ≡ 0
filling-out v m i h = rw (le-ltb i m h)

module _ (l : Layout) (r : Stacked l) (d : Stored) where
  past : (w : ℕ) → 12 ≤ w → parked_word l d w ≡ chosen l r (area_word d.positions 12 l.cells w) (area_word d.increments l.increments l.cells w)
      (area_word d.gains l.gains l.cells w) (area_word (cond l.tree d.offsets d.affinities) l.affinities l.held w)
      (area_word d.indices l.indices l.links w) (area_word d.affinities l.weights l.links w) w
  unfolding parked_word state_word affinity_word
  past w h = rw (le-ltb w 12 h)

  pub word-head : (w : ℕ) → w < 12 → parked_word l d w ≡ num (head_of l d.run) w
  unfolding parked_word
  word-head w h = rw (lt-ltb w 12 h)

  pub word-positions : (i : ℕ) → i < filled_up l.cells → parked_word l d (12 + i) ≡ filling d.positions l.cells i
  word-positions i h = past (12 + i) (omega arith) ∙ in-positions l r _ _ _ _ _ _ i h ∙ area-at d.positions 12 l.cells i

  pub word-increments : (i : ℕ) → i < filled_up l.cells → parked_word l d (l.increments + i) ≡ filling d.increments l.cells i
  word-increments i h = past (l.increments + i) (omega (arith, r.increments-at)) ∙ in-increments l r _ _ _ _ _ _ i h ∙ area-at d.increments l.increments l.cells i

  pub word-gains : (i : ℕ) → i < filled_up l.cells → parked_word l d (l.gains + i) ≡ filling d.gains l.cells i
  word-gains i h = past (l.gains + i) (omega (arith, r.increments-at, r.gains-at)) ∙ in-gains l r _ _ _ _ _ _ i h ∙ area-at d.gains l.gains l.cells i

  pub word-affinities : (i : ℕ) → i < filled_up l.held → parked_word l d (l.affinities + i) ≡ filling (cond l.tree d.offsets d.affinities) l.held i
  word-affinities i h = past (l.affinities + i) (omega (arith, r.increments-at, r.gains-at, r.affinities-at)) ∙ in-affinities l r _ _ _ _ _ _ i h ∙
      area-at (cond l.tree d.offsets d.affinities) l.affinities l.held i

  pub word-indices : (i : ℕ) → i < filled_up l.links → parked_word l d (l.indices + i) ≡ filling d.indices l.links i
  word-indices i h = past (l.indices + i) (omega (arith, r.increments-at, r.gains-at, r.affinities-at, r.indices-at)) ∙ in-indices l r _ _ _ _ _ _ i h ∙
      area-at d.indices l.indices l.links i

  pub word-weights : (i : ℕ) → i < filled_up l.links → parked_word l d (l.weights + i) ≡ filling d.affinities l.links i
  word-weights i h = past (l.weights + i) (omega (arith, r.increments-at, r.gains-at, r.affinities-at, r.indices-at, r.weights-at)) ∙
      in-weights l r _ _ _ _ _ _ i h ∙ area-at d.affinities l.weights l.links i
