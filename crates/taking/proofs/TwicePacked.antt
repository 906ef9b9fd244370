-- Areas packed twice are packed once: rows, a matrix, neighbour lists. keep1 are the old places of what the first packing leaves, keep2 places among those. Premises: those of each law.
use mathlib.Core.Path.{◌≡◌, sym, ap, subst, ◌∙◌}
use mathlib.Core.List.{List, [], ◌++◌, map, map-map, append_assoc, append-nil}
use mathlib.Core.Bool.{◌&&◌}
use Prim.Native.Nat.{ℕ, ◌+◌, ◌-◌, ◌*◌, ◌<◌, ◌≤◌}
use native.Mathlib.Omega.{arith}
use native.Mathlib.Nat.{le_refl}
use lib.ListN.{length, get_or, drop, replicate, length-replicate, replicate-append-replicate, get_or-append}
use lib.Seq.{drop_at}
use Rattle.laws.specs.Area.{num}
use Rattle.laws.specs.Joined.{those, joined, each}
use Rattle.laws.proofs.Sums.{sum_same}
use Rattle.laws.proofs.Joined.{joined-mono, length-map, those-same, map-those}
use Rattle.laws.proofs.Laid.{singles-size, singles-get, laid-at}
use Rattle.areas.specs.Filled.{filled}
use Rattle.take_gone.specs.Gone.{stands_at, is_among, Climbs}
use Rattle.take_rows.specs.Rows.{shrunk, kept_rows, kept_square}
use Rattle.take_rows.proofs.Packing.{joined_same, each_same}
use Rattle.take_lists.specs.Packed.{kept_links, indices_left, weights_left, links_before, links_left, packed_indices, packed_weights, packed_offsets}
use Rattle.take_lists.proofs.Bounds.{packed-indices-size, packed-offsets-size}
use Rattle.take_lists.proofs.Theorems.{kept-link-among, packed-offset-at, packed-offsets-step, packed-index-at, packed-weight-at, packed-indices-count, packed-weights-count}
use Rattle.taking.proofs.Composed.{those-both, through, through-size, through-at, through-stands, through-among}

-- ---- an area whose front is written twice, zeros following: a is the first size, b the second

module _ {A : Type 0} (z : A) (a b : ℕ) where
  zeros-join : (y : ℕ) (r : List A) → y ≤ b → b ≤ a → replicate (b - y) z ++ (replicate (a - b) z ++ r) ≡ replicate (a - y) z ++ r
  zeros-join y r h k =
      sym (append_assoc (replicate (b - y) z) (replicate (a - b) z) r)
      ∙ ap (λ (x : List A). x ++ r) (replicate-append-replicate (b - y) (a - b) z ∙ ap (λ (x : ℕ). replicate x z) (whole y h k))
    where
      whole : (y : ℕ) → y ≤ b → b ≤ a → b - y + (a - b) ≡ a - y
      whole y h k = omega arith

  -- zeros up to the second size are followed by those that the first left up to its own
  pub shrunk-twice : (X Y l : List A) → length X ≡ b → length Y ≤ b → b ≤ a → shrunk z b Y (shrunk z a X l) ≡ shrunk z a Y l
  shrunk-twice X Y l e h k =
      ap (λ (x : List A). Y ++ (replicate (b - length Y) z ++ x)) (drop_at X (replicate (a - length X) z ++ drop a l) b e ∙ ap (λ (x : ℕ). replicate (a - x) z ++ drop a l) e)
      ∙ ap (λ (x : List A). Y ++ x) (zeros-join (length Y) (drop a l) h k)

  pub filled-twice : (l : List A) → b ≤ a → filled z b (filled z a l) ≡ filled z a l
  filled-twice l k =
      ap (λ (x : List A). replicate b z ++ drop b (x ++ drop a l)) split
      ∙ ap (λ (x : List A). replicate b z ++ drop b x) (append_assoc (replicate b z) (replicate (a - b) z) (drop a l))
      ∙ ap (λ (x : List A). replicate b z ++ x) (drop_at (replicate b z) (replicate (a - b) z ++ drop a l) b (length-replicate b z))
      ∙ sym (append_assoc (replicate b z) (replicate (a - b) z) (drop a l))
      ∙ ap (λ (x : List A). x ++ drop a l) (sym split)
    where
      whole : b ≤ a → a ≡ b + (a - b)
      whole k = omega arith

      split : replicate a z ≡ replicate b z ++ replicate (a - b) z
      split = ap (λ (x : ℕ). replicate x z) (whole k) ∙ sym (replicate-append-replicate b (a - b) z)

module _ {A : Type 0} where
  -- value j of a row of single values
  pub row-value : (g : ℕ → A) (w j : ℕ) (z : A) → j < w → get_or (each g w) j z ≡ g j
  row-value g w j z h = ap (λ (x : List A). get_or x j z) (sym (append-nil (each g w))) ∙ singles-get g w j [] z h

  -- value d of row i of rows of w values
  pub row_at : (f : ℕ → ℕ → A) (w m i d : ℕ) (r : List A) (z : A) → i < m → d < w → get_or (joined (λ i. each (f i) w) m ++ r) (i * w + d) z ≡ f i d
  row_at f w m i d r z h k = laid-at w (λ i. each (f i) w) m i d r z (λ i l. singles-size (f i) w) h k ∙ row-value (f i) w d z k

-- ---- rows and the matrix

module _ (keep1 keep2 : List ℕ) (within : (i : ℕ) → i < length keep2 → num keep2 i < length keep1) where
  -- rows of rows, whatever follows them
  pub rows-twice : (w : ℕ) (l r : List ℕ) → kept_rows keep2 w (kept_rows keep1 w l ++ r) ≡ kept_rows (through keep1 keep2) w l
  rows-twice w l r =
      joined_same (λ i. each (λ d. num (kept_rows keep1 w l ++ r) (num keep2 i * w + d)) w) (λ i. each (λ d. num l (num (through keep1 keep2) i * w + d)) w) (length keep2) (λ i h.
      each_same (λ d. num (kept_rows keep1 w l ++ r) (num keep2 i * w + d)) (λ d. num l (num (through keep1 keep2) i * w + d)) w (λ d k.
      row_at (λ i d. num l (num keep1 i * w + d)) w (length keep1) (num keep2 i) d r 0 (within i h) k
      ∙ ap (λ (x : ℕ). num l (x * w + d)) (sym (through-at keep1 keep2 i h))))
      ∙ ap (joined (λ i. each (λ d. num l (num (through keep1 keep2) i * w + d)) w)) (sym (through-size keep1 keep2))

  pub square-twice : (n : ℕ) (l r : List ℕ) → kept_square keep2 (length keep1) (kept_square keep1 n l ++ r) ≡ kept_square (through keep1 keep2) n l
  square-twice n l r =
      joined_same (λ i. each (λ j. num (kept_square keep1 n l ++ r) (num keep2 i * length keep1 + num keep2 j)) (length keep2))
      (λ i. each (λ j. num l (num (through keep1 keep2) i * n + num (through keep1 keep2) j)) (length keep2)) (length keep2) (λ i h.
      each_same (λ j. num (kept_square keep1 n l ++ r) (num keep2 i * length keep1 + num keep2 j)) (λ j. num l (num (through keep1 keep2) i * n + num (through keep1 keep2) j)) (length keep2) (λ j k.
      row_at (λ i j. num l (num keep1 i * n + num keep1 j)) (length keep1) (length keep1) (num keep2 i) (num keep2 j) r 0 (within i h) (within j k)
      ∙ ap (λ (x : ℕ). num l (x * n + num keep1 (num keep2 j))) (sym (through-at keep1 keep2 i h))
      ∙ ap (λ (x : ℕ). num l (num (through keep1 keep2) i * n + x)) (sym (through-at keep1 keep2 j k))))
      ∙ ap (λ (x : ℕ). joined (λ i. each (λ j. num l (num (through keep1 keep2) i * n + num (through keep1 keep2) j)) x) x) (sym (through-size keep1 keep2))

-- ---- neighbour lists

-- I1 and O1 are indices and offsets after the first packing: the packed lists at the front, whatever follows
module _ (keep1 keep2 : List ℕ) (climbs : Climbs keep1) (within : (i : ℕ) → i < length keep2 → num keep2 i < length keep1) (I O P Q : List ℕ) where
  abbrev I1 : List ℕ
  I1 = packed_indices keep1 I O ++ P

  abbrev O1 : List ℕ
  O1 = packed_offsets keep1 I O ++ Q

  -- the links of frame j that the first packing leaves
  abbrev first-kept : ℕ → List ℕ
  first-kept i = kept_links keep1 I O (num keep1 i)

  -- the frame that link t of its list i named before
  abbrev named : ℕ → ℕ → ℕ
  named i t = num I (num O (num keep1 i) + num (first-kept i) t)

  offset1 : (i : ℕ) → i ≤ length keep1 → num O1 i ≡ num (packed_offsets keep1 I O) i
  offset1 i h = get_or-append (packed_offsets keep1 I O) Q 0 i (omega (arith, packed-offsets-size keep1 I O))

  long1 : (i : ℕ) → i < length keep1 → num O1 (i + 1) - num O1 i ≡ length (first-kept i)
  long1 i h = omega (arith, offset1 i (omega arith), offset1 (i + 1) (omega arith), packed-offsets-step keep1 I O i h)

  -- a place of list i lies within what is left
  in_list : (i t : ℕ) → i < length keep1 → t < length (first-kept i) → num O1 i + t < links_left keep1 I O
  in_list i t h k =
      omega (
        arith,
        offset1 i (omega arith),
        packed-offset-at keep1 I O i (omega arith),
        packed-offset-at keep1 I O (i + 1) (omega arith),
        packed-offsets-step keep1 I O i h,
        packed-indices-size keep1 I O (i + 1),
        packed-indices-size keep1 I O (length keep1),
        joined-mono (λ h. indices_left keep1 I O (num keep1 h)) (i + 1) (length keep1) (omega arith),
      )

  index1 : (i t : ℕ) → i < length keep1 → t < length (first-kept i) → num I1 (num O1 i + t) ≡ stands_at keep1 (named i t)
  index1 i t h k =
      get_or-append (packed_indices keep1 I O) P 0 (num O1 i + t) (omega (arith, packed-indices-count keep1 I O, in_list i t h k))
      ∙ ap (λ (x : ℕ). num (packed_indices keep1 I O) (x + t)) (offset1 i (omega arith))
      ∙ packed-index-at keep1 I O i t h k

  -- what both packings leave of a list, by its places before the first
  links-twice : (i : ℕ) → i < length keep1 → kept_links (through keep1 keep2) I O (num keep1 i) ≡ map (num (first-kept i)) (kept_links keep2 I1 O1 i)
  unfolding kept_links
  links-twice i h =
      let j = num keep1 i in
      let N = num O (j + 1) - num O j in
      those-same (λ t. is_among (through keep1 keep2) (num I (num O j + t))) (λ t. is_among keep1 (num I (num O j + t)) && is_among keep2 (stands_at keep1 (num I (num O j + t)))) N
      (λ t k. through-among keep1 keep2 climbs within (num I (num O j + t)))
      ∙ those-both (λ t. is_among keep1 (num I (num O j + t))) (λ t. is_among keep2 (stands_at keep1 (num I (num O j + t)))) N
      ∙ ap (map (num (first-kept i)))
      (those-same (λ t. is_among keep2 (stands_at keep1 (named i t))) (λ t. is_among keep2 (num I1 (num O1 i + t))) (length (first-kept i)) (λ t k. ap (is_among keep2) (sym (index1 i t h k)))
      ∙ ap (those (λ t. is_among keep2 (num I1 (num O1 i + t)))) (sym (long1 i h)))

  map-kept : {A : Type 0} (f g : ℕ → A) (i : ℕ) → ((t : ℕ) → t < num O1 (i + 1) - num O1 i → f t ≡ g t) → map f (kept_links keep2 I1 O1 i) ≡ map g (kept_links keep2 I1 O1 i)
  unfolding kept_links
  map-kept f g i e = map-those f g (λ t. is_among keep2 (num I1 (num O1 i + t))) (num O1 (i + 1) - num O1 i) e

  -- the same of what is told of each link
  told-twice : {A : Type 0} (f g : ℕ → A) (i : ℕ) → i < length keep1 → ((t : ℕ) → t < length (first-kept i) → f t ≡ g (num (first-kept i) t))
      → map f (kept_links keep2 I1 O1 i) ≡ map g (kept_links (through keep1 keep2) I O (num keep1 i))
  told-twice f g i h e = agree ∙ sym (map-map g (num (first-kept i)) (kept_links keep2 I1 O1 i)) ∙ ap (map g) (sym (links-twice i h))
    where
      agree : map f (kept_links keep2 I1 O1 i) ≡ map (λ t. g (num (first-kept i) t)) (kept_links keep2 I1 O1 i)
      agree = map-kept f (λ t. g (num (first-kept i) t)) i (λ t k. e t (subst (λ (x : ℕ). t < x) (long1 i h) k))

  indices-left-twice : (i : ℕ) → i < length keep1 → indices_left keep2 I1 O1 i ≡ indices_left (through keep1 keep2) I O (num keep1 i)
  indices-left-twice i h = told-twice (λ t. stands_at keep2 (num I1 (num O1 i + t))) (λ t. stands_at (through keep1 keep2) (num I (num O (num keep1 i) + t))) i h
      (λ t k. ap (stands_at keep2) (index1 i t h k) ∙ sym (through-stands keep1 keep2 climbs within (named i t) (kept-link-among keep1 I O (num keep1 i) t k)))

  length-twice : (i : ℕ) → i < length keep1 → length (kept_links keep2 I1 O1 i) ≡ length (kept_links (through keep1 keep2) I O (num keep1 i))
  length-twice i h = sym (ap length (links-twice i h) ∙ length-map (num (first-kept i)) (kept_links keep2 I1 O1 i))

  -- number i of keep2
  old-frame : (i : ℕ) → i < length keep2 → num keep1 (num keep2 i) ≡ num (through keep1 keep2) i
  old-frame i h = sym (through-at keep1 keep2 i h)

  pub packed-indices-twice : packed_indices keep2 I1 O1 ≡ packed_indices (through keep1 keep2) I O
  packed-indices-twice =
      joined_same (λ i. indices_left keep2 I1 O1 (num keep2 i)) (λ i. indices_left (through keep1 keep2) I O (num (through keep1 keep2) i)) (length keep2)
      (λ i h. indices-left-twice (num keep2 i) (within i h) ∙ ap (indices_left (through keep1 keep2) I O) (old-frame i h))
      ∙ ap (joined (λ i. indices_left (through keep1 keep2) I O (num (through keep1 keep2) i))) (sym (through-size keep1 keep2))

  before-twice : (i : ℕ) → i ≤ length keep2 → links_before keep2 I1 O1 i ≡ links_before (through keep1 keep2) I O i
  before-twice i h = sum_same (λ h. length (kept_links keep2 I1 O1 (num keep2 h))) (λ h. length (kept_links (through keep1 keep2) I O (num (through keep1 keep2) h))) i
      (λ j l. let k : j < length keep2 = omega arith in length-twice (num keep2 j) (within j k) ∙ ap (λ (x : ℕ). length (kept_links (through keep1 keep2) I O x)) (old-frame j k))

  pub links-left-twice : links_left keep2 I1 O1 ≡ links_left (through keep1 keep2) I O
  links-left-twice = before-twice (length keep2) (le_refl (length keep2)) ∙ ap (links_before (through keep1 keep2) I O) (sym (through-size keep1 keep2))

  pub packed-offsets-twice : packed_offsets keep2 I1 O1 ≡ packed_offsets (through keep1 keep2) I O
  packed-offsets-twice =
      each_same (links_before keep2 I1 O1) (links_before (through keep1 keep2) I O) (length keep2 + 1) (λ i h. before-twice i (omega arith))
      ∙ ap (λ (x : ℕ). each (links_before (through keep1 keep2) I O) (x + 1)) (sym (through-size keep1 keep2))

  -- W are the weights, and after the first packing R follows what is left of them
  module _ (W R : List ℕ) where
    weight1 : (i t : ℕ) → i < length keep1 → t < length (first-kept i) → num (packed_weights keep1 W I O ++ R) (num O1 i + t) ≡ num W (num O (num keep1 i) + num (first-kept i) t)
    weight1 i t h k =
        get_or-append (packed_weights keep1 W I O) R 0 (num O1 i + t) (omega (arith, packed-weights-count keep1 W I O, in_list i t h k))
        ∙ ap (λ (x : ℕ). num (packed_weights keep1 W I O) (x + t)) (offset1 i (omega arith))
        ∙ packed-weight-at keep1 W I O i t h k

    weights-left-twice : (i : ℕ) → i < length keep1 → weights_left keep2 (packed_weights keep1 W I O ++ R) I1 O1 i ≡ weights_left (through keep1 keep2) W I O (num keep1 i)
    weights-left-twice i h = told-twice (λ t. num (packed_weights keep1 W I O ++ R) (num O1 i + t)) (λ t. num W (num O (num keep1 i) + t)) i h (λ t k. weight1 i t h k)

    pub packed-weights-twice : packed_weights keep2 (packed_weights keep1 W I O ++ R) I1 O1 ≡ packed_weights (through keep1 keep2) W I O
    packed-weights-twice =
        joined_same (λ i. weights_left keep2 (packed_weights keep1 W I O ++ R) I1 O1 (num keep2 i)) (λ i. weights_left (through keep1 keep2) W I O (num (through keep1 keep2) i)) (length keep2)
        (λ i h. weights-left-twice (num keep2 i) (within i h) ∙ ap (weights_left (through keep1 keep2) W I O) (old-frame i h))
        ∙ ap (joined (λ i. weights_left (through keep1 keep2) W I O (num (through keep1 keep2) i))) (sym (through-size keep1 keep2))
