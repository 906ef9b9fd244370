-- Writing all lists from the last link down: what holds between two frames, and what a frame keeps. Assumes nothing.
use mathlib.Core.Path.{◌≡◌, refl, sym, ap, subst, ◌∙◌}
use mathlib.Core.Logic.{⊎_elim}
use mathlib.Core.List.{List, [], ◌∷◌, ◌++◌, map, append_assoc}
use Prim.Native.Nat.{ℕ, suc, ◌+◌, ◌-◌, ◌*◌, ◌<◌, ◌≤◌}
use native.Mathlib.Omega.{arith}
use native.Mathlib.Decide.{ℕ_discrete, dec_lt}
use native.Mathlib.Numerals.{add-one}
use native.Mathlib.Nat.{le_refl, add-mul, one-mul}
use lib.Dec.{eqb}
use lib.Ieee.{Float, nan}
use lib.ListN.{length, set, take, drop, length-set, length-append, length-drop, get_or-append}
use lib.Seq.{drop-set-lt, drop_at, get_or-take, length-take-le}
use borrow.Author.Tests.{eq-eqb, ne_eqb, lt-ltb, le-ltb}
use Rattle.laws.specs.Domain.{most_frames}
use Rattle.laws.specs.Loops.{first}
use Rattle.laws.specs.Area.{at, num, zero64}
use Rattle.laws.specs.Joined.{those, joined, ending}
use Rattle.laws.proofs.Numbers.{row_in}
use Rattle.laws.proofs.Bools.{two}
use Rattle.laws.proofs.First.{first-same}
use Rattle.laws.proofs.Joined.{those-rise, those-same, map-those, place_in, spot_yes, spot_no, spot-at, joined-none, joined-next, joined-grow, joined-mono}
use Rattle.laws.proofs.Joined.{joined_at, tail_at, length-singles, singles-at, length-map, get_or-map-in}
use Rattle.laws.proofs.Parts.{drop-put}
use Rattle.affinity_links.specs.Links.{found, plus_of, span, past, Cursor}
use Rattle.affinity_links.proofs.Search.{found-same, cursor-same, cursor-at}
use Rattle.affinity_lists.specs.Lists.{Rows, place, linked, weight, list_of, weights_of, list_start, links_of, indices_of, weights_all, offsets_of}
use Rattle.affinity_lists.specs.Steps.{link_sought, weight_sought, list_sought, weights_sought, Part, Room, Lowered, Topped}
use Rattle.affinity_lists.proofs.Linked.{linked-comm, linked-self, weight-down, weight-none, weight-comm, plus-same, length-weights, links-most, links-small, start-least}
use Rattle.affinity_lists.proofs.Picked.{those-most, those-front, those-under, those-over}

abbrev pub singles : ℕ → ℕ → List ℕ → ℕ → List ℕ
singles n k J i = list_start n k J i ∷ []

-- ---- J, S, Q: the areas at first. The lists from i on are written, and the rows below i are as they were

pub record Filled (n k : ℕ) (J : List ℕ) (S : List Float) (Q : List ℕ) (i q : ℕ) (W : List Float) (I O : List ℕ) : Type 0 where
  pub within : i ≤ n
  pub kept_i : (p : ℕ) → p < i * k → num I p ≡ num J p
  pub kept_w : (p : ℕ) → p < i * k → at W p ≡ at S p
  pub left_i : joined (list_of n k J) i ++ drop q I ≡ indices_of n k J
  pub left_w : joined (weights_of n k J S) i ++ drop q W ≡ weights_all n k J S
  pub left_o : joined (singles n k J) i ++ drop i O ≡ offsets_of n k J Q
  pub here : q ≡ list_start n k J i
  pub size_i : length I ≡ length J
  pub size_w : length W ≡ length S
  pub size_o : length O ≡ length Q
  pub room_o : n + 1 ≤ length Q

module _ (n k : ℕ) (J : List ℕ) (S : List Float) (Q : List ℕ) (ok : Rows n k J) where
  -- ---- the start
  -- what is past the offsets does not see a store among them
  pub offsets-same : (v : ℕ) → offsets_of n k J (set Q n v) ≡ offsets_of n k J Q
  offsets-same v = ap (λ (r : List ℕ). joined (singles n k J) (suc n) ++ r) (drop-set-lt (suc n) Q n v (omega arith))

  pub filled-start : (links : ℕ) → links ≡ links_of n k J → n + 1 ≤ length Q → Filled n k J S (set Q n links) n links S J (set Q n links)
  filled-start links e h = rw e (record {
    within = le_refl n;
    kept_i = λ p l. refl;
    kept_w = λ p l. refl;
    left_i = refl;
    left_w = refl;
    left_o =
        ap (λ (r : List ℕ). joined (singles n k J) n ++ r) (drop-put Q n (links_of n k J) (omega arith) ∙ ap (λ (x : ℕ). links_of n k J ∷ drop x Q) (add-one n))
        ∙ sym (append_assoc (joined (singles n k J) n) (links_of n k J ∷ []) (drop (suc n) Q))
        ∙ ap (λ (r : List ℕ). r ++ drop (suc n) Q) (sym (joined-next (singles n k J) n) ∙ ap (joined (singles n k J)) (add-one n))
        ∙ sym (offsets-same (links_of n k J));
    here = refl;
    size_i = refl;
    size_w = refl;
    size_o = refl;
    room_o = rw (length-set Q n (links_of n k J)) h;
  })

  pub filled-small : {i q : ℕ} {W : List Float} {I O : List ℕ} → n ≤ most_frames → k < n → Filled n k J S Q i q W I O → q ≤ 2 * (most_frames * most_frames)
  filled-small {i} h l f = omega (arith, f.here, joined-mono (list_of n k J) i n f.within, links-small n k J ok h l)

  -- ---- the end
  pub filled-end : {i q : ℕ} {W : List Float} {I O : List ℕ} → i ≡ 0 → Filled n k J S Q i q W I O → (W ≡ weights_all n k J S) × (I ≡ indices_of n k J) × (O ≡ offsets_of n k J Q)
  filled-end {i} {q} {W} {I} {O} e f =
      let g : Filled n k J S Q 0 q W I O = rw e at f in
      let z : q ≡ 0 = g.here ∙ ap length (joined-none (list_of n k J)) in (
        ap (λ (x : ℕ). drop x W) (sym z) ∙ ap (λ (r : List Float). r ++ drop q W) (sym (joined-none (weights_of n k J S))) ∙ g.left_w,
        ap (λ (x : ℕ). drop x I) (sym z) ∙ ap (λ (r : List ℕ). r ++ drop q I) (sym (joined-none (list_of n k J))) ∙ g.left_i,
        ap (λ (r : List ℕ). r ++ O) (sym (joined-none (singles n k J))) ∙ g.left_o,
      )

-- ---- the words of the cursors stand in R: in the rows below i and in the lists from i on they stand at i

pub record Cursors (n k : ℕ) (J : List ℕ) (i : ℕ) (R : List ℕ) : Type 0 where
  pub rows : (j : ℕ) → j < i → Cursor (past J (j * k)) k i (num R j)
  pub lists : (j : ℕ) → i ≤ j → j < n → Cursor (num (list_of n k J j)) (length (list_of n k J j)) i (num R j)

-- at first each stands at the end of its row
pub cursors-start : {n k : ℕ} {J R R' : List ℕ} → n ≤ most_frames → Rows n k J → Topped J R n k R' → Cursors n k J n R'
cursors-start {n} {k} {J} h ok t = record {
  rows = λ j l. rw (t.rows j l) (cursor-at k (le_refl k) h (λ s m. ok.inside j s l m) (λ s m b. absurd (omega arith)));
  lists = λ j l m. absurd (omega arith);
}

-- ---- the lists above i are written, and the cursors stand at i + 1

pub record RowReady (n k : ℕ) (J : List ℕ) (S : List Float) (Q : List ℕ) (i q : ℕ) (W : List Float) (I O R : List ℕ) : Type 0 where
  pub filled : Filled n k J S Q (i + 1) q W I O
  pub cursors : Cursors n k J (i + 1) R
  pub size_r : n ≤ length R

module _ {n k : ℕ} {J : List ℕ} {S : List Float} {Q : List ℕ} (big : (2 * (n * k) ≤ length S) × (2 * (n * k) ≤ length J)) where
  module _ (ok : Rows n k J) (many : (n ≤ most_frames) × (k < n)) {i q : ℕ} {W : List Float} {I O R : List ℕ} (g : RowReady n k J S Q i q W I O R) where
    f : Filled n k J S Q (i + 1) q W I O
    f = g.filled

    frame : i < n
    frame = omega (arith, f.within)

    next_row : (i + 1) * k ≡ i * k + k
    next_row = rw (add-mul i 1 k, one-mul k)

    -- ---- what can be read
    start-at : (j : ℕ) → i < j → j ≤ n → num O j ≡ list_start n k J j
    start-at j h l =
        tail_at (joined (singles n k J) (i + 1)) O (offsets_of n k J Q) (i + 1) j 0 f.left_o (length-singles (list_start n k J) (i + 1)) (omega arith)
        ∙ singles-at (list_start n k J) (suc n) j (drop (suc n) Q) (omega arith)

    low : (j : ℕ) → i < j → q ≤ list_start n k J j
    low j h = omega (arith, f.here, joined-mono (list_of n k J) (i + 1) j (omega arith))

    list_at : (j t : ℕ) → i < j → j < n → t < length (list_of n k J j) → num I (list_start n k J j + t) ≡ num (list_of n k J j) t
    list_at j t h l m =
        tail_at (joined (list_of n k J) (i + 1)) I (indices_of n k J) q (list_start n k J j + t) 0 f.left_i (sym f.here) (omega (arith, low j h))
        ∙ joined_at (list_of n k J) n j t (drop (links_of n k J) J) 0 l m

    weight-at : (j t : ℕ) → i < j → j < n → t < length (list_of n k J j) → at W (list_start n k J j + t) ≡ weight k J S j (num (list_of n k J j) t)
    weight-at j t h l m =
        tail_at (joined (weights_of n k J S) (i + 1)) W (weights_all n k J S) q (list_start n k J j + t) nan f.left_w (length-weights n k J S (i + 1) ∙ sym f.here) (omega (arith, low j h))
        ∙ ap (λ (x : ℕ). at (weights_all n k J S) (x + t)) (sym (length-weights n k J S j))
        ∙ joined_at (weights_of n k J S) n j t (drop (links_of n k J) S) nan l (subst (λ (x : ℕ). t < x) (sym (length-map (weight k J S j) (list_of n k J j))) m)
        ∙ get_or-map-in (weight k J S j) (list_of n k J j) t 0 nan m

    -- list j is as long as its offsets say
    span-is : (j : ℕ) → i < j → j < n → span O j ≡ length (list_of n k J j)
    span-is j h l = omega (arith, start-at j h (omega arith), start-at (j + 1) (omega arith) (omega arith), joined-grow (list_of n k J) j)

    row_at : (j t : ℕ) → j < i → t < k → j * k + t < (i + 1) * k
    row_at j t h l = omega (arith, next_row, row_in j i k (i * k) h (le_refl (i * k)))

    row-end : (j : ℕ) → j < n → (j * k + k ≤ length I) × (j * k + k ≤ length W)
    row-end j l = omega (arith, f.size_i, f.size_w, row_in j n k (n * k) l (le_refl (n * k)))

    top : (q ≤ links_of n k J) × (links_of n k J ≤ length I) × (links_of n k J ≤ length W)
    top = omega (arith, f.here, joined-mono (list_of n k J) (i + 1) n f.within, links-most n k J ok, f.size_i, f.size_w)

    -- ---- the rows and lists as they stand, each with its cursor
    row_is : (j t : ℕ) → j ≤ i → t < k → past I (j * k) t ≡ past J (j * k) t
    row_is j t h l = f.kept_i (j * k + t) (omega (arith, next_row, row_in j (i + 1) k ((i + 1) * k) (omega arith) (le_refl ((i + 1) * k))))

    list-is-at : (j t : ℕ) → i < j → j < n → t < length (list_of n k J j) → past I (num O j) t ≡ num (list_of n k J j) t
    list-is-at j t h l m = ap (λ (x : ℕ). past I x t) (start-at j h (omega arith)) ∙ list_at j t h l m

    row-part : (j x w : ℕ) → j ≤ i → Cursor (past J (j * k)) k x w → Part W I (j * k) k x w
    row-part j x w h u = record {
      small = omega (arith, many);
      inside = row-end j (omega (arith, frame));
      rising = λ s t a b. omega (arith, row_is j s h (omega arith), row_is j t h b, ok.rising j (omega (arith, frame)) s t a b);
      cursor = cursor-same (λ t l. sym (row_is j t h l)) u;
    }

    list-part : (j : ℕ) → i < j → j < n → Part W I (num O j) (span O j) (i + 1) (num R j)
    list-part j m l = rw (span-is j m l) (record {
      small = omega (arith, many, those-most (linked k J j) n);
      inside = omega (arith, start-at j m (omega arith), joined-grow (list_of n k J) j, joined-mono (list_of n k J) (j + 1) n (omega arith), top);
      rising = λ s t a b. omega (arith, list-is-at j s m l (omega arith), list-is-at j t m l b, those-rise (linked k J j) n s t a b);
      cursor = cursor-same (λ t b. sym (list-is-at j t m l b)) (g.cursors.lists j (omega arith) l);
    })

    -- row i does not name i
    own-cursor : Cursor (past J (i * k)) k i (num R i)
    own-cursor =
        let u = g.cursors.rows i (omega arith) in
        record {
          word = u.word;
          within = u.within;
          under = λ t l. omega (arith, u.under t l, ok.other i t frame (omega (arith, u.within)));
          over = λ t a b. omega (arith, u.over t a b);
        }

    -- ---- what is looked up is the link, and its weight
    module _ (j : ℕ) (l : j < n) where
      place_is : j < i → (place k I i j ≡ place k J i j) × (place k I j i ≡ place k J j i)
      place_is m = (found-same I J (i * k) (i * k) k j (λ t b. row_is i t (le_refl i) b), found-same I J (j * k) (j * k) k i (λ t b. row_is j t (omega arith) b))

      above-found : i < j → found I (num O j) (span O j) i ≡ place_in (linked k J j) n i
      above-found m =
          ap (λ (x : ℕ). first (λ t. eqb (num I (num O j + t)) i) x) (span-is j m l)
          ∙ first-same (λ t. eqb (num I (num O j + t)) i) (λ t. eqb (num (list_of n k J j) t) i) (length (list_of n k J j)) (λ t b. ap (λ (x : ℕ). eqb x i) (list-is-at j t m l b))

      le_from : {a b : ℕ} → a ≡ b → b ≤ a
      le_from e = omega arith

      ready-yes : link_sought I O k i j ≡ linked k J i j
      unfolding link_sought
      ready-yes = elim (dec_lt j i) [
        | yes m ↦ rw (lt-ltb j i m, (place_is m).0, (place_is m).1)
        | no m ↦ elim (ℕ_discrete j i) [
          | yes e ↦ rw (le-ltb j i (omega arith), eq-eqb j i e) (sym (ap (linked k J i) e ∙ linked-self n k J ok i frame))
          | no d ↦ rw (le-ltb j i (omega arith), ne_eqb j i d, above-found (omega arith), span-is j (omega arith) l)
              (⊎_elim
              (λ b. lt-ltb _ _ (spot_yes (linked k J j) n i frame b) ∙ sym b)
              (λ b. le-ltb _ _ (le_from (spot_no (linked k J j) n i b)) ∙ sym b)
              (two (linked k J j i)) ∙ linked-comm k J S j i)
        ]
      ]

      ready-weight : weight_sought W I O k i j ≡ weight k J S i j
      unfolding weight_sought
      ready-weight = elim (dec_lt j i) [
        | yes m ↦ rw (lt-ltb j i m, (place_is m).0, (place_is m).1)
            (plus-same W S (i * k) (i * k) k (place k J i j) (plus_of W (j * k) k (place k J j i) zero64) (λ t b. f.kept_w (i * k + t) (omega (arith, next_row)))
            ∙ ap (plus_of S (i * k) k (place k J i j)) (plus-same W S (j * k) (j * k) k (place k J j i) zero64 (λ t b. f.kept_w (j * k + t) (row_at j t m b)))
            ∙ sym (weight-down k J S i j (omega arith)))
        | no m ↦ elim (ℕ_discrete j i) [
          | yes e ↦ rw (le-ltb j i (omega arith), eq-eqb j i e) (sym (ap (weight k J S i) e ∙ weight-none k J S i i (linked-self n k J ok i frame)))
          | no d ↦ rw (le-ltb j i (omega arith), ne_eqb j i d, above-found (omega arith), span-is j (omega arith) l)
              (⊎_elim
              (λ b. rw (lt-ltb _ _ (spot_yes (linked k J j) n i frame b))
              (ap (λ (x : ℕ). at W (x + place_in (linked k J j) n i)) (start-at j (omega arith) (omega arith))
              ∙ weight-at j (place_in (linked k J j) n i) (omega arith) l (spot_yes (linked k J j) n i frame b)
              ∙ ap (weight k J S j) (spot-at (linked k J j) n i frame b) ∙ weight-comm k J S j i))
              (λ b. rw (le-ltb _ _ (le_from (spot_no (linked k J j) n i b))) (sym (weight-none k J S i j (linked-comm k J S i j ∙ b))))
              (two (linked k J j i)))
        ]
      ]

    -- so what is looked up is list i
    list-is : list_sought I O n k i ≡ list_of n k J i
    list-is = those-same (link_sought I O k i) (linked k J i) n (λ j l. ready-yes j l)

    weights-are : weights_sought W I O n k i ≡ weights_of n k J S i
    weights-are = ap (map (weight_sought W I O k i)) list-is ∙ map-those (weight_sought W I O k i) (weight k J S i) (linked k J i) n (λ j l. ready-weight j l)

    size_is : q ≡ list_start n k J i + length (list_of n k J i)
    size_is = f.here ∙ joined-grow (list_of n k J) i

    pub ready-room : Room W I O R n k i q
    ready-room = record {
      frame = (frame, many.0);
      sizes = (omega (arith, f.size_o, f.room_o), g.size_r);
      own = row-part i i (num R i) (le_refl i) own-cursor;
      rows = λ j m. row-part j (i + 1) (num R j) (omega arith) (g.cursors.rows j (omega arith));
      lists = λ j m l. list-part j m l;
      inside = omega (arith, top);
      under = omega (arith, ap length list-is, size_is, start-least n k J ok i (omega (arith, frame)));
      over = λ j m l. omega (arith, start-at j m (omega arith), low j m);
    }

    -- the cursors afterwards
    pub cursors-next : {R' : List ℕ} → Lowered I O R n k i R' → Cursors n k J i R'
    cursors-next {R'} d = record {
      rows = λ j l. cursor-same (λ t m. row_is j t (omega arith) m) (d.rows j l);
      lists = λ j m l. elim (ℕ_discrete i j) [
        | yes e ↦ subst (λ (x : ℕ). Cursor (num (list_of n k J x)) (length (list_of n k J x)) i (num R' x)) e
            (rw (d.own, list-is, those-same (link_sought I O k i) (linked k J i) i (λ x h. ready-yes x (omega (arith, frame))))
            (cursor-at (length (those (linked k J i) i)) (those-front (linked k J i) n i (omega (arith, frame))) (omega (arith, frame, many))
            (λ t h. those-under (linked k J i) n i t (omega (arith, those-front (linked k J i) n i (omega (arith, frame)))) h) (λ t a h. those-over (linked k J i) n i t a h)))
        | no e ↦ cursor-same (λ t b. list-is-at j t (omega arith) l b) (rw (span-is j (omega arith) l) at (d.lists j (omega arith) l))
      ];
    }

    -- ---- list i is written
    filled-so : (q' : ℕ) → q' ≡ list_start n k J i → Filled n k J S Q i q' (take q' W ++ (weights_of n k J S i ++ drop q W)) (take q' I ++ (list_of n k J i ++ drop q I)) (set O i q')
    filled-so q' e =
        let h_i : length (take q' I) ≡ q' = length-take-le q' I (omega (arith, top, size_is)) in
        let h_w : length (take q' W) ≡ q' = length-take-le q' W (omega (arith, top, size_is)) in
        let under : i * k ≤ q' = omega (arith, e, start-least n k J ok i (omega (arith, frame))) in
        record {
          within = omega (arith, frame);
          kept_i = λ p l. get_or-append (take q' I) (list_of n k J i ++ drop q I) 0 p (omega (arith, h_i)) ∙ get_or-take q' I p 0 (omega arith) ∙ f.kept_i p (omega (arith, next_row));
          kept_w = λ p l. get_or-append (take q' W) (weights_of n k J S i ++ drop q W) nan p (omega (arith, h_w)) ∙ get_or-take q' W p nan (omega arith) ∙ f.kept_w p (omega (arith, next_row));
          left_i = left (list_of n k J) I (take q' I) q' h_i f.left_i;
          left_w = left (weights_of n k J S) W (take q' W) q' h_w f.left_w;
          left_o =
              ap (λ (r : List ℕ). joined (singles n k J) i ++ r) (drop-put O i q' (omega (arith, f.size_o, f.room_o, frame)) ∙ ap (λ (x : ℕ). x ∷ drop (i + 1) O) e)
              ∙ sym (append_assoc (joined (singles n k J) i) (singles n k J i) (drop (i + 1) O))
              ∙ ap (λ (r : List ℕ). r ++ drop (i + 1) O) (sym (joined-next (singles n k J) i))
              ∙ f.left_o;
          here = e;
          size_i = whole I (take q' I) (list_of n k J i) h_i (omega (arith, size_is)) (omega (arith, top)) ∙ f.size_i;
          size_w = whole W (take q' W) (weights_of n k J S i) h_w (omega (arith, size_is, length-map (weight k J S i) (list_of n k J i))) (omega (arith, top)) ∙ f.size_w;
          size_o = length-set O i q' ∙ f.size_o;
          room_o = f.room_o;
        }
      where
        -- the list is put before what is left
        left : {A : Type 0} {T : List A} (h : ℕ → List A) (L x : List A) (q' : ℕ) → length x ≡ q' → joined h (i + 1) ++ drop q L ≡ T → joined h i ++ drop q' (x ++ (h i ++ drop q L)) ≡ T
        left {A} h L x q' e t =
            ap (λ (r : List A). joined h i ++ r) (drop_at x (h i ++ drop q L) q' e)
            ∙ sym (append_assoc (joined h i) (h i) (drop q L)) ∙ ap (λ (r : List A). r ++ drop q L) (sym (joined-next h i)) ∙ t

        whole : {A : Type 0} (L x w : List A) → length x ≡ q' → q' + length w ≡ q → q ≤ length L → length (x ++ (w ++ drop q L)) ≡ length L
        whole L x w e a b = omega (arith, length-append x (w ++ drop q L), length-append w (drop q L), length-drop q L)

    pub filled_next : (q' : ℕ) (W' : List Float) (I' : List ℕ) → q' ≡ q - length (list_sought I O n k i)
        → W' ≡ ending (weights_sought W I O n k i) q W → I' ≡ ending (list_sought I O n k i) q I → Filled n k J S Q i q' W' I' (set O i q')
    filled_next q' W' I' e e_w e_i =
        let s : q' ≡ list_start n k J i = omega (arith, e, ap length list-is, size_is) in
        let w_i : I' ≡ take q' I ++ (list_of n k J i ++ drop q I) = e_i ∙ ap (λ (x : ℕ). take x I ++ (list_sought I O n k i ++ drop q I)) (sym e) ∙
        ap (λ (r : List ℕ). take q' I ++ (r ++ drop q I)) list-is in
        let w_w : W' ≡ take q' W ++ (weights_of n k J S i ++ drop q W) = e_w ∙ ap (λ (x : ℕ). take x W ++ (weights_sought W I O n k i ++ drop q W)) (shorter e) ∙
        ap (λ (r : List Float). take q' W ++ (r ++ drop q W)) weights-are in
        rw (w_i, w_w) (filled-so q' s)
      where
        shorter : q' ≡ q - length (list_sought I O n k i) → q - length (weights_sought W I O n k i) ≡ q'
        shorter e = omega (arith, e, length-map (weight_sought W I O k i) (list_sought I O n k i))
