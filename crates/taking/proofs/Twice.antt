-- Two removals one after the other leave what one removal of their union leaves, the centring of positions aside. Premises: the lists lie one after the other.
use mathlib.Core.Path.{◌≡◌, refl, sym, ap, subst, ◌∙◌}
use mathlib.Core.List.{List, ◌++◌}
use mathlib.Core.Bool.{true}
use Prim.Native.Nat.{ℕ, ◌+◌, ◌-◌, ◌*◌, ◌<◌, ◌≤◌}
use native.Mathlib.Omega.{arith}
use native.Mathlib.Nat.{mul-le-mul, mul-le-mul_right}
use lib.IntN.{pos}
use lib.ListN.{length, drop, replicate, get_or-append}
use lib.Seq.{drop_at}
use lib.Ieee.{Float, nan, binary64, of_int, add, sub, div}
use Rattle.laws.specs.Area.{at, num, zero64}
use Rattle.laws.proofs.Bools.{by_bool}
use Rattle.laws.proofs.Loops.{loop-same}
use Rattle.centring.specs.Centring.{plus_next, average_of}
use Rattle.run_record.specs.declared.Settings.{Settings}
use Rattle.run_record.specs.declared.Run.{Run}
use Rattle.run_record.specs.Record.{is_tree}
use Rattle.take_gone.specs.Gone.{survivors, Climbs}
use Rattle.take_gone.proofs.Left.{survivors-climb}
use Rattle.take_rows.specs.Rows.{shrunk, kept_rows, kept_square, average_left, centred_left, centred_rows, Staying}
use Rattle.take_rows.proofs.Packing.{kept-all}
use Rattle.take_rows.proofs.Survive.{survivors-kept}
use Rattle.take_lists.specs.Packed.{links_left, packed_indices, packed_weights, packed_offsets, Listed}
use Rattle.take_lists.proofs.Bounds.{packed-offsets-size}
use Rattle.take_lists.proofs.Theorems.{packed-indices-count, packed-weights-count, packed-offsets-end, links-left-few, packed-listed}
use Rattle.take_left.specs.Outlook.{thinned, thinned_run}
use Rattle.take_out.specs.TakeOut.{Holdings, affinities_after, indices_after, offsets_after, packed_areas}
use Rattle.taking.specs.Union.{Union}
use Rattle.taking.proofs.Sizes.{rows-left-size, centred-size, square-size}
use Rattle.taking.proofs.Composed.{survivors-union, through, through-size, through-at}
use Rattle.taking.proofs.TwicePacked.{shrunk-twice, filled-twice, row_at, rows-twice, square-twice, packed-indices-twice, links-left-twice, packed-offsets-twice, packed-weights-twice}

-- ---- the record

-- the settings and the record of what is left do not tell in how many removals it was left
pub thinned-twice : (s : Settings) (m k : ℕ) → thinned (thinned s m) k ≡ thinned s k
unfolding thinned
thinned-twice s m k = refl

pub thinned-run-twice : (r : Run) (m k : ℕ) → thinned_run (thinned_run r m) k ≡ thinned_run r k
unfolding thinned_run thinned
thinned-run-twice r m k = refl

-- ---- the areas

-- once is what one removal leaves, twice what two leave, of which the first left the frames in keep1, the second m frames
pub record TwiceAsOnce (keep1 : List ℕ) (m : ℕ) (twice once : Holdings) : Type 0 where
  pub increments : twice.increments ≡ once.increments
  pub gains : twice.gains ≡ once.gains
  pub affinities : twice.affinities ≡ once.affinities
  pub indices : twice.indices ≡ once.indices
  pub offsets : twice.offsets ≡ once.offsets
  pub forces : twice.forces ≡ once.forces
  pub table : twice.table ≡ once.table
  -- the place that the second tells is one among the frames that the first left
  pub old : (i : ℕ) → i < m → num keep1 (num twice.old i) ≡ num once.old i

module _ (s : Settings) (keep1 keep2 : List ℕ) (climbs1 : Climbs keep1) (kept1 : Staying keep1 s.n) (climbs2 : Climbs keep2) (kept2 : Staying keep2 (length keep1)) where
  rows-again : (w : ℕ) (l : List ℕ)
      → shrunk 0 (length keep1 * w) (kept_rows keep2 w (shrunk 0 (s.n * w) (kept_rows keep1 w l) l)) (shrunk 0 (s.n * w) (kept_rows keep1 w l) l)
      ≡ shrunk 0 (s.n * w) (kept_rows (through keep1 keep2) w l) l
  rows-again w l =
      let X = kept_rows keep1 w l in
      let Y = kept_rows (through keep1 keep2) w l in
      let few : length keep2 * w ≤ length keep1 * w = kept-all kept2 w in
      ap (λ (x : List ℕ). shrunk 0 (length keep1 * w) x (shrunk 0 (s.n * w) X l))
      (rows-twice keep1 keep2 kept2.below w l (replicate (s.n * w - length X) 0 ++ drop (s.n * w) l))
      ∙ shrunk-twice 0 (s.n * w) (length keep1 * w) X Y l (rows-left-size keep1 w l)
      (omega (arith, few, rows-left-size (through keep1 keep2) w l, ap (λ (x : ℕ). x * w) (through-size keep1 keep2))) (kept-all kept1 w)

  square-again : (l : List ℕ)
      → shrunk 0 (length keep1 * length keep1) (kept_square keep2 (length keep1) (shrunk 0 (s.n * s.n) (kept_square keep1 s.n l) l)) (shrunk 0 (s.n * s.n) (kept_square keep1 s.n l) l)
      ≡ shrunk 0 (s.n * s.n) (kept_square (through keep1 keep2) s.n l) l
  square-again l =
      let X = kept_square keep1 s.n l in
      let Y = kept_square (through keep1 keep2) s.n l in
      let size = s.n * s.n in
      let few : length keep2 * length keep2 ≤ length keep1 * length keep1 = mul-le-mul kept2.few kept2.few in
      ap (λ (x : List ℕ). shrunk 0 (length keep1 * length keep1) x (shrunk 0 size X l))
      (square-twice keep1 keep2 kept2.below s.n l (replicate (size - length X) 0 ++ drop size l))
      ∙ shrunk-twice 0 size (length keep1 * length keep1) X Y l (square-size keep1 s.n l)
      (omega (arith, few, square-size (through keep1 keep2) s.n l, ap (λ (x : ℕ). x * x) (through-size keep1 keep2))) (mul-le-mul kept1.few kept1.few)

  -- the lists: W, I and O are weights, indices and offsets
  module _ (W I O : List ℕ) {w x : ℕ} (lists : Listed s.n w x O) where
    abbrev n : ℕ
    n = s.n

    abbrev links : ℕ
    links = links_left keep1 I O

    abbrev W1 : List ℕ
    W1 = shrunk 0 (num O n) (packed_weights keep1 W I O) W

    abbrev I1 : List ℕ
    I1 = shrunk 0 (num O n) (packed_indices keep1 I O) I

    abbrev O1 : List ℕ
    O1 = shrunk 0 (n + 1) (packed_offsets keep1 I O) O

    abbrev P : List ℕ
    P = replicate (num O n - length (packed_indices keep1 I O)) 0 ++ drop (num O n) I

    abbrev Q : List ℕ
    Q = replicate (n + 1 - length (packed_offsets keep1 I O)) 0 ++ drop (n + 1) O

    -- the links that the first leaves end where its last offset says
    links_end : num O1 (length keep1) ≡ links
    links_end = get_or-append (packed_offsets keep1 I O) Q 0 (length keep1) (omega (arith, packed-offsets-size keep1 I O)) ∙ packed-offsets-end keep1 I O

    links-fewer : links ≤ num O n
    links-fewer = links-left-few keep1 I O lists climbs1 kept1

    links-fewest : links_left (through keep1 keep2) I O ≤ links
    links-fewest = omega (arith, links_end, links-left-few keep2 I1 O1 (packed-listed keep1 I O lists climbs1 kept1) climbs2 kept2, links-left-twice keep1 keep2 climbs1 kept2.below I O P Q)

    weights-again : shrunk 0 (num O1 (length keep1)) (packed_weights keep2 W1 I1 O1) W1 ≡ shrunk 0 (num O n) (packed_weights (through keep1 keep2) W I O) W
    weights-again =
        let X = packed_weights keep1 W I O in
        let Y = packed_weights (through keep1 keep2) W I O in
        ap (λ (y : ℕ). shrunk 0 y (packed_weights keep2 W1 I1 O1) W1) links_end
        ∙ ap (λ (y : List ℕ). shrunk 0 links y W1) (packed-weights-twice keep1 keep2 climbs1 kept2.below I O P Q W (replicate (num O n - length X) 0 ++ drop (num O n) W))
        ∙ shrunk-twice 0 (num O n) links X Y W (packed-weights-count keep1 W I O) (omega (arith, packed-weights-count (through keep1 keep2) W I O, links-fewest)) links-fewer

    indices-again : shrunk 0 (num O1 (length keep1)) (packed_indices keep2 I1 O1) I1 ≡ shrunk 0 (num O n) (packed_indices (through keep1 keep2) I O) I
    indices-again =
        let X = packed_indices keep1 I O in
        let Y = packed_indices (through keep1 keep2) I O in
        ap (λ (y : ℕ). shrunk 0 y (packed_indices keep2 I1 O1) I1) links_end
        ∙ ap (λ (y : List ℕ). shrunk 0 links y I1) (packed-indices-twice keep1 keep2 climbs1 kept2.below I O P Q)
        ∙ shrunk-twice 0 (num O n) links X Y I (packed-indices-count keep1 I O) (omega (arith, packed-indices-count (through keep1 keep2) I O, links-fewest)) links-fewer

    offsets-again : shrunk 0 (length keep1 + 1) (packed_offsets keep2 I1 O1) O1 ≡ shrunk 0 (n + 1) (packed_offsets (through keep1 keep2) I O) O
    offsets-again =
        let X = packed_offsets keep1 I O in
        let Y = packed_offsets (through keep1 keep2) I O in
        ap (λ (y : List ℕ). shrunk 0 (length keep1 + 1) y O1) (packed-offsets-twice keep1 keep2 climbs1 kept2.below I O P Q)
        ∙ shrunk-twice 0 (n + 1) (length keep1 + 1) X Y O (packed-offsets-size keep1 I O)
        (omega (arith, packed-offsets-size (through keep1 keep2) I O, through-size keep1 keep2, kept2.few)) (omega (arith, kept1.few))

  -- ---- all areas, h before both removals

  module _ (h : Holdings) (lists : is_tree s.method ≡ true → Listed s.n (length h.affinities) (length h.indices) h.offsets) where
    -- what the first leaves, what both leave, and what one leaves
    abbrev first : Holdings
    first = packed_areas s keep1 h

    abbrev twice : Holdings
    twice = packed_areas (thinned s (length keep1)) keep2 first

    abbrev once : Holdings
    once = packed_areas s (through keep1 keep2) h

    affinities-once : twice.affinities ≡ once.affinities
    unfolding packed_areas affinities_after indices_after offsets_after thinned
    affinities-once = by_bool (twice.affinities ≡ once.affinities) (is_tree s.method)
        (λ t. rw t (weights-again h.affinities h.indices h.offsets (lists t)))
        (λ t. rw t (square-again h.affinities))

    indices-once : twice.indices ≡ once.indices
    unfolding packed_areas indices_after offsets_after thinned
    indices-once = by_bool (twice.indices ≡ once.indices) (is_tree s.method)
        (λ t. rw t (indices-again h.affinities h.indices h.offsets (lists t)))
        (λ t. rw t)

    offsets-once : twice.offsets ≡ once.offsets
    unfolding packed_areas indices_after offsets_after thinned
    offsets-once = by_bool (twice.offsets ≡ once.offsets) (is_tree s.method)
        (λ t. rw t (offsets-again h.affinities h.indices h.offsets (lists t)))
        (λ t. rw t)

    old-once : (i : ℕ) → i < length keep2 → num keep1 (num twice.old i) ≡ num once.old i
    unfolding packed_areas
    old-once i l =
        ap (num keep1) (get_or-append keep2 (drop (length keep2) first.old) 0 i l)
        ∙ sym (through-at keep1 keep2 i l)
        ∙ sym (get_or-append (through keep1 keep2) (drop (length (through keep1 keep2)) h.old) 0 i (omega (arith, through-size keep1 keep2)))

    packed-twice : TwiceAsOnce keep1 (length keep2) twice once
    unfolding packed_areas thinned
    packed-twice = record {
      increments = rows-again s.c h.increments;
      gains = rows-again s.c h.gains;
      affinities = affinities-once;
      indices = indices-once;
      offsets = offsets-once;
      forces = filled-twice zero64 (s.n * (2 * s.c + 1)) (length keep1 * (2 * s.c + 1)) h.forces (mul-le-mul_right (2 * s.c + 1) kept1.few);
      table = rows-again s.f h.table;
      old = old-once;
    }

-- THEOREM: of all areas but the positions, two removals leave what one of their union leaves, whole areas with zeros and tails
pub twice-as-once : (s : Settings) (g1 g2 u : List ℕ) (h : Holdings) → Union g1 g2 u s.n
    → (is_tree s.method ≡ true → Listed s.n (length h.affinities) (length h.indices) h.offsets)
    → TwiceAsOnce (survivors g1 s.n) (length (survivors u s.n))
    (packed_areas (thinned s (length (survivors g1 s.n))) (survivors g2 (length (survivors g1 s.n))) (packed_areas s (survivors g1 s.n) h))
    (packed_areas s (survivors u s.n) h)
twice-as-once s g1 g2 u h e lists =
    let keep1 = survivors g1 s.n in
    let keep2 = survivors g2 (length keep1) in
    let k = packed_areas (thinned s (length keep1)) keep2 (packed_areas s keep1 h) in
    let p : TwiceAsOnce keep1 (length (through keep1 keep2)) k (packed_areas s (through keep1 keep2) h) =
    rw (through-size keep1 keep2) (packed-twice s keep1 keep2 (survivors-climb g1 s.n) (survivors-kept g1 s.n) (survivors-climb g2 (length keep1)) (survivors-kept g2 (length keep1)) h lists) in
    subst (λ (x : List ℕ). TwiceAsOnce keep1 (length x) k (packed_areas s x h)) (sym (survivors-union g1 g2 u s.n e)) p

-- ---- the positions

average-same : (v w : ℕ → Float) (n : ℕ) → ((i : ℕ) → i < n → v i ≡ w i) → average_of v n ≡ average_of w n
average-same v w n e = ap (λ (x : Float). div binary64 x (of_int binary64 (pos n))) (loop-same (plus_next v) (plus_next w) n 0 zero64 (λ j y a b. ap (add binary64 y) (e j (omega arith))))

-- y are the positions before both removals, n frames of c components, y1 those after the first, y2 after the second, yu after one of the union; keep names the frames that are left
pub record CentredTwice (n c : ℕ) (keep1 keep : List ℕ) (y y1 y2 yu : List Float) : Type 0 where
  -- the first leaves each frame's position less the mean of those that it leaves
  pub first : (i d : ℕ) → i < length keep1 → d < c → at y1 (i * c + d) ≡ sub binary64 (at y (num keep1 i * c + d)) (average_left keep1 c y d)
  -- the second that, less the mean of what the first made of the frames that are left
  pub second : (i d : ℕ) → i < length keep → d < c → at y2 (i * c + d)
      ≡ sub binary64 (centred_left keep1 c y (num keep i) d) (average_of (λ k. centred_left keep1 c y (num keep k) d) (length keep))
  -- one removal of the union leaves each of them less their mean
  pub union : (i d : ℕ) → i < length keep → d < c → at yu (i * c + d) ≡ sub binary64 (at y (num keep i * c + d)) (average_left keep c y d)
  -- past the positions of those that are left all is one: zeros up to n·c, then what stood there
  pub rest : drop (length keep * c) y2 ≡ drop (length keep * c) yu

centred-at : (keep : List ℕ) (c : ℕ) (y r : List Float) (i d : ℕ) → i < length keep → d < c → at (centred_rows keep c y ++ r) (i * c + d) ≡ centred_left keep c y (num keep i) d
centred-at keep c y r i d h k = row_at (λ i d. centred_left keep c y (num keep i) d) c (length keep) i d r nan h k

module _ (n c : ℕ) (keep1 keep2 : List ℕ) (kept1 : Staying keep1 n) (kept2 : Staying keep2 (length keep1)) (y : List Float) where
  abbrev y1 : List Float
  y1 = shrunk zero64 (n * c) (centred_rows keep1 c y) y

  abbrev y2 : List Float
  y2 = shrunk zero64 (length keep1 * c) (centred_rows keep2 c y1) y1

  abbrev yu : List Float
  yu = shrunk zero64 (n * c) (centred_rows (through keep1 keep2) c y) y

  after_first : (i d : ℕ) → i < length keep1 → d < c → at y1 (i * c + d) ≡ centred_left keep1 c y (num keep1 i) d
  after_first i d h k = centred-at keep1 c y (replicate (n * c - length (centred_rows keep1 c y)) zero64 ++ drop (n * c) y) i d h k

  of-second : (i d : ℕ) → i < length keep2 → d < c → at y1 (num keep2 i * c + d) ≡ centred_left keep1 c y (num (through keep1 keep2) i) d
  of-second i d h k = after_first (num keep2 i) d (kept2.below i h) k ∙ ap (λ (x : ℕ). centred_left keep1 c y x d) (sym (through-at keep1 keep2 i h))

  after-second : (i d : ℕ) → i < length keep2 → d < c → at y2 (i * c + d)
      ≡ sub binary64 (centred_left keep1 c y (num (through keep1 keep2) i) d) (average_of (λ k. centred_left keep1 c y (num (through keep1 keep2) k) d) (length keep2))
  after-second i d h k =
      centred-at keep2 c y1 (replicate (length keep1 * c - length (centred_rows keep2 c y1)) zero64 ++ drop (length keep1 * c) y1) i d h k
      ∙ ap (λ (x : Float). sub binary64 x (average_left keep2 c y1 d)) (of-second i d h k)
      ∙ ap (sub binary64 (centred_left keep1 c y (num (through keep1 keep2) i) d))
      (average-same (λ j. at y1 (num keep2 j * c + d)) (λ j. centred_left keep1 c y (num (through keep1 keep2) j) d) (length keep2) (λ j l. of-second j d l k))

  -- what the second leaves: its rows in front, and behind them all as one removal leaves it
  whole : y2 ≡ shrunk zero64 (n * c) (centred_rows keep2 c y1) y
  whole = shrunk-twice zero64 (n * c) (length keep1 * c) (centred_rows keep1 c y) (centred_rows keep2 c y1) y (centred-size keep1 c y)
      (omega (arith, centred-size keep2 c y1, kept-all kept2 c)) (kept-all kept1 c)

  behind : drop (length keep2 * c) y2 ≡ drop (length keep2 * c) yu
  behind =
      let X = centred_rows keep2 c y1 in
      let Y = centred_rows (through keep1 keep2) c y in
      let same : length X ≡ length Y = centred-size keep2 c y1 ∙ ap (λ (x : ℕ). x * c) (sym (through-size keep1 keep2)) ∙ sym (centred-size (through keep1 keep2) c y) in
      ap (drop (length keep2 * c)) whole
      ∙ drop_at X (replicate (n * c - length X) zero64 ++ drop (n * c) y) (length keep2 * c) (centred-size keep2 c y1)
      ∙ ap (λ (x : ℕ). replicate (n * c - x) zero64 ++ drop (n * c) y) same
      ∙ sym (drop_at Y (replicate (n * c - length Y) zero64 ++ drop (n * c) y) (length keep2 * c) (sym same ∙ centred-size keep2 c y1))

  centred-again : CentredTwice n c keep1 (through keep1 keep2) y y1 y2 yu
  centred-again = record {
    first = after_first;
    second = λ i d h k. rw (through-size keep1 keep2) (after-second i d (subst (λ (x : ℕ). i < x) (through-size keep1 keep2) h) k);
    union = λ i d h k. centred-at (through keep1 keep2) c y (replicate (n * c - length (centred_rows (through keep1 keep2) c y)) zero64 ++ drop (n * c) y) i d h k;
    rest = subst (λ (x : ℕ). drop (x * c) y2 ≡ drop (x * c) yu) (sym (through-size keep1 keep2)) behind;
  }

-- THEOREM: what two removals leave of the positions, beside what one of their union leaves. Each is centred once more in the first case, so no equation between the two is claimed
pub positions-centred-twice : (s : Settings) (g1 g2 u : List ℕ) (h : Holdings) → Union g1 g2 u s.n
    → CentredTwice s.n s.c (survivors g1 s.n) (survivors u s.n) h.positions
    (packed_areas s (survivors g1 s.n) h).positions
    (packed_areas (thinned s (length (survivors g1 s.n))) (survivors g2 (length (survivors g1 s.n))) (packed_areas s (survivors g1 s.n) h)).positions
    (packed_areas s (survivors u s.n) h).positions
unfolding packed_areas thinned
positions-centred-twice s g1 g2 u h e =
    let keep1 = survivors g1 s.n in
    let keep2 = survivors g2 (length keep1) in
    let y = h.positions in
    let y1 = shrunk zero64 (s.n * s.c) (centred_rows keep1 s.c y) y in
    let y2 = shrunk zero64 (length keep1 * s.c) (centred_rows keep2 s.c y1) y1 in
    subst (λ (x : List ℕ). CentredTwice s.n s.c keep1 x y y1 y2 (shrunk zero64 (s.n * s.c) (centred_rows x s.c y) y)) (sym (survivors-union g1 g2 u s.n e))
    (centred-again s.n s.c keep1 keep2 (survivors-kept g1 s.n) (survivors-kept g2 (length keep1)) y)
