-- Writing one list from its last link down: what holds between two turns, and what a turn keeps. Assumes nothing.
use mathlib.Core.Path.{◌≡◌, refl, sym, ap, subst, ◌∙◌}
use mathlib.Core.List.{List, [], ◌∷◌, ◌++◌, map}
use mathlib.Core.Bool.{Bool, true, false}
use Prim.Native.Nat.{ℕ, ◌+◌, ◌-◌, ◌*◌, ◌<◌, ◌≤◌}
use native.Mathlib.Omega.{arith}
use native.Mathlib.Decide.{ℕ_discrete, dec_lt}
use native.Mathlib.Nat.{le_refl}
use lib.Dec.{ltb}
use lib.Ieee.{Float, nan}
use lib.ListN.{length, set, take, drop, length-append, length-set, get_or-append}
use lib.Seq.{get_or-drop, get_or-set_same, get_or-set_other, drop-set-lt}
use borrow.Author.Tests.{eq-eqb, ne_eqb, lt-ltb, le-ltb}
use Rattle.laws.specs.Domain.{most_frames}
use Rattle.laws.specs.Area.{num, zero64}
use Rattle.laws.specs.Joined.{those, ending}
use Rattle.laws.proofs.Numbers.{row_in}
use Rattle.laws.proofs.Bools.{or_right}
use Rattle.laws.proofs.Joined.{those-yes, those-no, those-none, those-below, map-append, length-map}
use Rattle.laws.proofs.Parts.{Ends, ends-start, ends_next, ends_low, ends-done}
use Rattle.affinity_links.specs.Links.{found, plus_of, plus_fallen, span, past, cursor_of, held_of, fallen_of, Cursor, sought_yes, sought_weight, sought_row, sought_cursor, Sought}
use Rattle.affinity_lists.specs.Steps.{link_sought, weight_sought, list_sought, weights_sought, Room, Lowered}
use Rattle.affinity_links.proofs.Search.{found_at, word_same, Turn, turn-next, turn-yes, turn-stays, turn-plus, turn-value, turn-within}
use Rattle.affinity_lists.proofs.Picked.{those-most, those-least, those-front}

-- W₀, I₀, R₀: the areas at first. From j on list i is written; q is where it begins so far, m where its frames above i begin, c the word of row i
module _ (W₀ : List Float) (I₀ O R₀ : List ℕ) (n k i e : ℕ) where
  pub record Writing (j c q m : ℕ) (W : List Float) (I R : List ℕ) : Type 0 where
    pub within : j ≤ n
    pub rest : i ≤ j → Cursor (past I₀ (i * k)) k i c
    pub fall : j ≤ i → Cursor (past I₀ (i * k)) k j c
    pub mark : j ≤ i → m + length (list_sought I₀ O n k i) ≡ e + length (those (link_sought I₀ O k i) i)
    pub count : q + length (list_sought I₀ O n k i) ≡ e + length (those (link_sought I₀ O k i) j)
    pub indices : Ends 0 (list_sought I₀ O n k i) e I₀ (those (link_sought I₀ O k i) j) q I
    pub weights : Ends nan (weights_sought W₀ I₀ O n k i) e W₀ (map (weight_sought W₀ I₀ O k i) (those (link_sought I₀ O k i) j)) q W
    pub size : length R ≡ length R₀
    pub tail : drop n R ≡ drop n R₀
    pub left : (x : ℕ) → x < j → num R x ≡ num R₀ x
    pub rows : (x : ℕ) → j ≤ x → x < i → Cursor (past I₀ (x * k)) k i (num R x)
    pub lists : (x : ℕ) → j ≤ x → i < x → x < n → Cursor (past I₀ (num O x)) (span O x) i (num R x)

module _ {W₀ : List Float} {I₀ O R₀ : List ℕ} {n k i e : ℕ} (o : Room W₀ I₀ O R₀ n k i e) where
  abbrev link : ℕ → Bool
  link = link_sought I₀ O k i

  pub writing_start : Writing W₀ I₀ O R₀ n k i e n (num R₀ i) e e W₀ I₀ R₀
  writing_start = record {
    within = le_refl n;
    rest = λ h. o.own.cursor;
    fall = λ h. absurd (omega (arith, o.frame));
    mark = λ h. absurd (omega (arith, o.frame));
    count = refl;
    indices = ends-start;
    weights = ends-start;
    size = refl;
    tail = refl;
    left = λ x l. refl;
    rows = λ x h l. absurd (omega (arith, o.frame));
    lists = λ x h l b. absurd (omega arith);
  }

  -- a frame is not linked with itself
  not-self : link i ≡ false
  unfolding link_sought
  not-self = rw (le-ltb i i (le_refl i), eq-eqb i i refl)

  -- what row i names below i is linked with i
  is-linked : (t : ℕ) → t < k → num I₀ (i * k + t) < i → link (num I₀ (i * k + t)) ≡ true
  unfolding link_sought
  is-linked t l h = rw (lt-ltb (num I₀ (i * k + t)) i h, sym (found_at I₀ (i * k) k (num I₀ (i * k + t)) o.own.rising t l refl), lt-ltb t k l)

  module _ {c q m : ℕ} {W : List Float} {I R : List ℕ} where
    -- ---- a turn at j, which is one below where the last one left off
    module _ (j j' : ℕ) (g : j' ≡ j + 1) (r' : Writing W₀ I₀ O R₀ n k i e j' c q m W I R) where
      r : Writing W₀ I₀ O R₀ n k i e (j + 1) c q m W I R
      r = rw g at r'

      -- i itself is passed over: here its frames above i begin
      pub writing-mark : j ≡ i → Writing W₀ I₀ O R₀ n k i e j c q q W I R
      writing-mark d =
          let l : those link (j + 1) ≡ those link j = those-no link j (ap link d ∙ not-self) in
          record {
            within = omega (arith, r.within);
            rest = λ h. r.rest (omega arith);
            fall = λ h. subst (λ (x : ℕ). Cursor (past I₀ (i * k)) k x c) (sym d) (r.rest (omega arith));
            mark = λ h. r.count ∙ ap (λ (x : List ℕ). e + length x) l ∙ ap (λ (x : ℕ). e + length (those link x)) d;
            count = rw l at r.count;
            indices = rw l at r.indices;
            weights = rw l at r.weights;
            size = r.size;
            tail = r.tail;
            left = λ x h. r.left x (omega arith);
            rows = λ x h b. absurd (omega arith);
            lists = λ x h b u. r.lists x (omega arith) b u;
          }

      -- the rows below i and the lists above i are as they were, and so is what is left to read of row i
      low : i * k ≤ q
      low = omega (arith, r.count, o.under)

      row_at : (t : ℕ) → j < i → t < k → j * k + t < q
      row_at t h l = omega (arith, low, row_in j i k (i * k) h (le_refl (i * k)))

      own_at : (t : ℕ) → j < i → t < cursor_of c → i * k + t < q
      own_at t h l =
          let u = r.fall (omega arith) in
          omega (
            arith,
            r.count,
            o.under,
            those-least link (past I₀ (i * k)) (cursor_of c) (j + 1) u.under
                (λ a b x y. o.own.rising a b x (omega (arith, u.within)))
                (λ x y. is-linked x (omega (arith, u.within)) (omega (arith, u.under x y))),
          )

      list-from : (t : ℕ) → i < j → e ≤ num O j + t
      list-from t h = omega (arith, o.over j h (omega (arith, r.within)))

      stands : num R j ≡ num R₀ j
      stands = r.left j (omega arith)

      -- ---- what is read in this turn
      own_turn : j < i → Turn W W₀ I I₀ (i * k) k j c
      own_turn h = record {
        rise = o.own.rising;
        small = omega (arith, o.frame);
        cursor = r.fall (omega arith);
        same_i = λ t l. ends_low r.indices (i * k + t) (own_at t h l);
        same_s = λ t l. ends_low r.weights (i * k + t) (own_at t h l);
      }

      row-turn : j < i → Turn W W₀ I I₀ (j * k) k i (num R j)
      row-turn h =
          let u : Cursor (past I₀ (j * k)) k (i + 1) (num R j) = subst (λ (x : ℕ). Cursor (past I₀ (j * k)) k (i + 1) x) (sym stands) (o.rows j h).cursor in
          record {
            rise = (o.rows j h).rising;
            small = omega (arith, o.frame);
            cursor = u;
            same_i = λ t l. ends_low r.indices (j * k + t) (row_at t h (omega (arith, u.within)));
            same_s = λ t l. ends_low r.weights (j * k + t) (row_at t h (omega (arith, u.within)));
          }

      list-turn : i < j → Turn W W₀ I I₀ (num O j) (span O j) i (num R j)
      list-turn h =
          let p = o.lists j h (omega (arith, r.within)) in
          record {
            rise = p.rising;
            small = omega (arith, o.frame);
            cursor = subst (λ (x : ℕ). Cursor (past I₀ (num O j)) (span O j) (i + 1) x) (sym stands) p.cursor;
            same_i = λ t l. r.indices.high (num O j + t) (list-from t h);
            same_s = λ t l. r.weights.high (num O j + t) (list-from t h);
          }

      module _ (other : j ≡ i → ⊥) where
        pub writing-sought : Sought W I O k i j c (num R j)
        writing-sought = record {
          small = omega (arith, o.frame, r.within);
          below = λ h. (
            turn-within (own_turn h) o.own.small (omega (arith, o.own.inside, r.indices.size)) (omega (arith, o.own.inside, r.weights.size)),
            turn-within (row-turn h) o.own.small (omega (arith, (o.rows j h).inside, r.indices.size)) (omega (arith, (o.rows j h).inside, r.weights.size)),
          );
          above = λ h. let p = o.lists j (omega (arith, other)) (omega (arith, r.within)) in (
            omega (arith, o.sizes, r.within),
            turn-within (list-turn (omega (arith, other))) p.small (omega (arith, p.inside, r.indices.size)) (omega (arith, p.inside, r.weights.size)),
          );
        }

        writing-yes : sought_yes I O k i j c (num R j) ≡ link j
        unfolding sought_yes link_sought
        writing-yes = elim (dec_lt j i) [
          | yes h ↦ rw (lt-ltb j i h, turn-yes (own_turn h), turn-yes (row-turn h))
          | no h ↦ rw (le-ltb j i (omega arith), ne_eqb j i other) (turn-yes (list-turn (omega (arith, other))))
        ]

        writing-weight : sought_weight W I O k i j c (num R j) ≡ weight_sought W₀ I₀ O k i j
        unfolding sought_weight weight_sought
        writing-weight = elim (dec_lt j i) [
          | yes h ↦ rw (lt-ltb j i h)
              (turn-plus (own_turn h) (plus_fallen W (j * k) (num R j) (fallen_of (past I (j * k)) (num R j) i) zero64)
              ∙ ap (plus_of W₀ (i * k) k (found I₀ (i * k) k j)) (turn-plus (row-turn h) zero64))
          | no h ↦ rw (le-ltb j i (omega arith), ne_eqb j i other) (turn-value (list-turn (omega (arith, other))))
        ]

        -- the cursor in row i afterwards
        next-rest : i ≤ j → Cursor (past I₀ (i * k)) k i (sought_row I k i j c)
        unfolding sought_row
        next-rest h = rw (le-ltb j i h) (r.rest (omega arith))

        next-fall : j ≤ i → Cursor (past I₀ (i * k)) k j (sought_row I k i j c)
        unfolding sought_row
        next-fall h = rw (lt-ltb j i (omega (arith, other))) (turn-next (own_turn (omega (arith, other))))

        -- and that of j, which stays where there is no link
        row_next : j < i → Cursor (past I₀ (j * k)) k i (sought_cursor I O k i j (num R j))
        unfolding sought_cursor
        row_next h = rw (lt-ltb j i h) (turn-next (row-turn h))

        list-next : i < j → Cursor (past I₀ (num O j)) (span O j) i (sought_cursor I O k i j (num R j))
        unfolding sought_cursor
        list-next h = rw (le-ltb j i (omega arith)) (turn-next (list-turn h))

        row_stays : j < i → sought_yes I O k i j c (num R j) ≡ false → Cursor (past I₀ (j * k)) k i (num R j)
        unfolding sought_yes
        row_stays h b = turn-stays (row-turn h) (or_right (ltb (fallen_of (past I (i * k)) c j) c) (ltb (fallen_of (past I (j * k)) (num R j) i) (num R j)) (rw (lt-ltb j i h) at b))

        list-stays : i < j → sought_yes I O k i j c (num R j) ≡ false → Cursor (past I₀ (num O j)) (span O j) i (num R j)
        unfolding sought_yes
        list-stays h b = turn-stays (list-turn h) (rw (le-ltb j i (omega arith)) at b)

        -- what the look-up tells: y, and the word s of row i
        module _ (y : Bool) (told : y ≡ sought_yes I O k i j c (num R j)) (s : ℕ) (d : s ≡ sought_row I k i j c) where
          -- a turn that finds no link
          pub writing_pass : y ≡ false → Writing W₀ I₀ O R₀ n k i e j s q m W I R
          writing_pass b =
              let free : sought_yes I O k i j c (num R j) ≡ false = sym told ∙ b in
              let l : those link (j + 1) ≡ those link j = those-no link j (sym writing-yes ∙ free) in
              record {
                within = omega (arith, r.within);
                rest = λ h. rw d (next-rest h);
                fall = λ h. rw d (next-fall h);
                mark = λ h. r.mark (omega (arith, other));
                count = rw l at r.count;
                indices = rw l at r.indices;
                weights = rw l at r.weights;
                size = r.size;
                tail = r.tail;
                left = λ x h. r.left x (omega arith);
                rows = λ x h a. elim (ℕ_discrete j x) [
                  | yes v ↦ subst (λ (z : ℕ). z < i → Cursor (past I₀ (z * k)) k i (num R z)) v (λ z. row_stays z free) a
                  | no v ↦ r.rows x (omega arith) a
                ];
                lists = λ x h a u. elim (ℕ_discrete j x) [
                  | yes v ↦ subst (λ (z : ℕ). i < z → Cursor (past I₀ (num O z)) (span O z) i (num R z)) v (λ z. list-stays z free) a
                  | no v ↦ r.lists x (omega arith) a u
                ];
              }

          -- a turn that finds a link
          module _ (b : y ≡ true) where
            longer : those link (j + 1) ≡ those link j ++ (j ∷ [])
            longer = those-yes link j (sym writing-yes ∙ sym told ∙ b)

            pub writing-room : (0 < q) × (q ≤ length I) × (q ≤ length W) × (j < length R)
            writing-room = omega (
              arith,
              ap length longer,
              length-append (those link j) (j ∷ []),
              o.under,
              o.inside,
              o.sizes,
              r.within,
              r.size,
              r.count,
              r.indices.within,
              r.indices.size,
              r.weights.size,
            )

            pub writing-next : (q' : ℕ) (w : Float) (v : ℕ) → q' ≡ q - 1 → w ≡ sought_weight W I O k i j c (num R j) → v ≡ sought_cursor I O k i j (num R j)
                → Writing W₀ I₀ O R₀ n k i e j s q' m (set W q' w) (set I q' j) (set R j v)
            writing-next q' w v p a z = record {
              within = omega (arith, r.within);
              rest = λ h. rw d (next-rest h);
              fall = λ h. rw d (next-fall h);
              mark = λ h. r.mark (omega (arith, other));
              count = omega (arith, ap length longer, length-append (those link j) (j ∷ []), r.count, writing-room);
              indices = ends_next j longer (omega (arith, writing-room)) (omega (arith, writing-room)) r.indices;
              weights = ends_next w
                  (ap (map (weight_sought W₀ I₀ O k i)) longer ∙ map-append (weight_sought W₀ I₀ O k i) (those link j) (j ∷ [])
                  ∙ ap (λ (x : Float). map (weight_sought W₀ I₀ O k i) (those link j) ++ (x ∷ [])) (sym (a ∙ writing-weight)))
                  (omega (arith, writing-room)) (omega (arith, writing-room)) r.weights;
              size = length-set R j v ∙ r.size;
              tail = drop-set-lt n R j v (omega (arith, r.within)) ∙ r.tail;
              left = λ x h. get_or-set_other R j x v 0 (λ u. omega arith) ∙ r.left x (omega arith);
              rows = λ x h l. elim (ℕ_discrete j x) [
                | yes u ↦ subst (λ (t : ℕ). t < i → Cursor (past I₀ (t * k)) k i (num (set R j v) t)) u (λ t. rw (get_or-set_same R j v 0 writing-room.3, z) (row_next t)) l
                | no u ↦ rw (get_or-set_other R j x v 0 (λ t. u (sym t))) (r.rows x (omega arith) l)
              ];
              lists = λ x h l f. elim (ℕ_discrete j x) [
                | yes u ↦ subst (λ (t : ℕ). i < t → Cursor (past I₀ (num O t)) (span O t) i (num (set R j v) t)) u (λ t. rw (get_or-set_same R j v 0 writing-room.3, z) (list-next t)) l
                | no u ↦ rw (get_or-set_other R j x v 0 (λ t. u (sym t))) (r.lists x (omega arith) l f)
              ];
            }

    -- ---- the end
    module _ {j : ℕ} (z : j ≡ 0) (r' : Writing W₀ I₀ O R₀ n k i e j c q m W I R) where
      none : those link j ≡ []
      none = ap (those link) z ∙ those-none link

      begin : q ≡ e - length (list_sought I₀ O n k i)
      begin = omega (arith, r'.count, ap length none)

      -- list i as it stands
      reads : (t : ℕ) → t < length (list_sought I₀ O n k i) → past I q t ≡ num (list_sought I₀ O n k i) t
      reads t l =
          sym (get_or-drop q I t 0) ∙ ap (λ (x : List ℕ). num x t) (ap (λ (x : List ℕ). x ++ drop q I) (sym none) ∙ r'.indices.same)
          ∙ get_or-append (list_sought I₀ O n k i) (drop e I₀) 0 t l

      -- those below i
      low_part : (m - q ≡ length (those link i)) × (q ≤ m) × (length (those link i) ≤ length (list_sought I₀ O n k i)) × (q + length (list_sought I₀ O n k i) ≡ e)
      low_part = omega (arith, r'.mark (omega arith), r'.count, ap length none, those-front link n i (omega (arith, o.frame)))

      pub writing-below : q ≤ m
      writing-below = low_part.1

      pub writing-held : (m - q ≤ most_frames) × (q + (m - q) ≤ length I) × (0 < m - q → past I q (m - q - 1) < most_frames)
      writing-held = (
        omega (arith, low_part, those-most link i, o.frame),
        omega (arith, low_part, o.inside, r'.indices.size),
        λ h. omega (arith, o.frame, reads (m - q - 1) (omega (arith, low_part)), those-below link n (m - q - 1) (omega (arith, low_part))),
      )

      pub writing-done : (v : ℕ) → v ≡ held_of (past I q) (m - q) → (q ≡ e - length (list_sought I₀ O n k i)) × (W ≡ ending (weights_sought W₀ I₀ O n k i) e W₀) ×
          (I ≡ ending (list_sought I₀ O n k i) e I₀) × Lowered I₀ O R₀ n k i (set R i v)
      writing-done v h =
          let begin' : q ≡ e - length (weights_sought W₀ I₀ O n k i) = omega (arith, begin, length-map (weight_sought W₀ I₀ O k i) (list_sought I₀ O n k i)) in (
            begin,
            ends-done (ap (map (weight_sought W₀ I₀ O k i)) none) r'.weights ∙ ap (λ (x : ℕ). take x W₀ ++ (weights_sought W₀ I₀ O n k i ++ drop e W₀)) begin',
            ends-done none r'.indices ∙ ap (λ (x : ℕ). take x I₀ ++ (list_sought I₀ O n k i ++ drop e I₀)) begin,
            record {
              own = get_or-set_same R i v 0 (omega (arith, o.frame, o.sizes, r'.size)) ∙ h
                  ∙ word_same (past I q) (num (list_sought I₀ O n k i)) (m - q) (λ p. reads (m - q - 1) (omega (arith, low_part)))
                  ∙ ap (held_of (num (list_sought I₀ O n k i))) low_part.0;
              rows = λ x l. rw (get_or-set_other R i x v 0 (λ u. omega arith)) (r'.rows x (omega arith) l);
              lists = λ x l u. rw (get_or-set_other R i x v 0 (λ t. omega arith)) (r'.lists x (omega arith) l u);
              tail = drop-set-lt n R i v (omega (arith, o.frame)) ∙ r'.tail;
            },
          )
