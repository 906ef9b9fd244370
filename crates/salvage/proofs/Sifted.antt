-- The sifting, record by record: what the first i records leave, and that one record more leaves what the first i + 1 do. Assumes nothing but room in the areas where it is named.
use mathlib.Core.Path.{◌≡◌, refl, sym, ap, subst, ◌∙◌}
use mathlib.Core.Logic.{⊎_elim}
use mathlib.Core.List.{List, [], ◌∷◌, ◌++◌, map, append-nil}
use mathlib.Core.Bool.{Bool, true, false, cond, not, ◌||◌}
use Prim.Native.Nat.{ℕ, zero, suc, ◌+◌, ◌*◌, ◌%◌, ◌<◌, ◌≤◌}
use native.Mathlib.Omega.{arith}
use native.Mathlib.Numerals.{add-one}
use lib.Dec.{eqb, ltb}
use lib.ListN.{length, set, length-append}
use borrow.Author.Tests.{lt-ltb, le-ltb, eq-eqb, ne_eqb, ltb-false}
use Rattle.laws.specs.Joined.{written, those, joined}
use Rattle.laws.proofs.Bools.{two, by_bool, or_left, or_right}
use Rattle.laws.proofs.Joined.{those-yes, those-no, joined-next, length-map, map-append}
use Rattle.frames.specs.Frames.{record_bytes, whole_records}
use Rattle.salvage.specs.declared.Sift.{Sift}
use Rattle.std.specs.Prelude.{Err}
use Rattle.salvage.specs.Salvage.{tail_rule, rule_after, last_kept, rule_of, is_kept, kept_in, told_in, rules_told}
use Rattle.salvage.specs.Salvage.{record_at, bytes_of, bytes_kept, records_read, lacks_room, foremost, saved, salvage_outcome, salvage_of}
use Rattle.salvage.specs.Steps.{Sifting, sifting, keep_step, tell_step, sift_step, SiftFits, SiftRoom, sifted_by}
use Rattle.salvage.proofs.Foremost.{foremost-copy, foremost-put, foremost-size, copied-size}

-- what a test picks and what it leaves come to all
pub picked-and-left : (p : ℕ → Bool) (n : ℕ) → length (those p n) + length (those (λ i. not (p i)) n) ≡ n
unfolding those
picked-and-left p zero = refl
picked-and-left p (suc n) = subst (λ (m : ℕ). length (those p m) + length (those (λ i. not (p i)) m) ≡ m) (add-one n) (⊎_elim
    (λ e. omega (arith, picked-and-left p n, ap length (those-yes p n e), length-append (those p n) (n ∷ []), ap length (those-no (λ i. not (p i)) n (rw e))))
    (λ e. omega (arith, picked-and-left p n, ap length (those-no p n e), ap length (those-yes (λ i. not (p i)) n (rw e)), length-append (those (λ i. not (p i)) n) (n ∷ [])))
    (two (p n)))

module _ (f : List ℕ) where
  -- ---- a record is kept, or told

  last-next : (i : ℕ) → last_kept f (suc i) ≡ cond (eqb (rule_after f (last_kept f i) i) 0) (suc i) (last_kept f i)
  unfolding last_kept
  last-next i = refl

  pub last-yes : (i : ℕ) → eqb (rule_after f (last_kept f i) i) 0 ≡ true → last_kept f (i + 1) ≡ i + 1
  last-yes i e = ap (last_kept f) (add-one i) ∙ last-next i ∙ rw e (sym (add-one i))

  pub last-no : (i : ℕ) → eqb (rule_after f (last_kept f i) i) 0 ≡ false → last_kept f (i + 1) ≡ last_kept f i
  last-no i e = ap (last_kept f) (add-one i) ∙ last-next i ∙ rw e

  pub last_within : (n : ℕ) → last_kept f n ≤ n
  unfolding last_kept
  last_within zero = omega arith
  last_within (suc n) = by_bool (cond (eqb (rule_after f (last_kept f n) n) 0) (suc n) (last_kept f n) ≤ suc n) (eqb (rule_after f (last_kept f n) n) 0)
      (λ e. rw e (omega arith))
      (λ e. rw e (omega (arith, last_within n)))

  pub rule-whole : (i : ℕ) → i < whole_records f → rule_of f i ≡ rule_after f (last_kept f i) i
  unfolding rule_of
  rule-whole i h = rw (lt-ltb i (whole_records f) h)

  pub rule-tail : (i : ℕ) → whole_records f ≤ i → rule_of f i ≡ tail_rule
  unfolding rule_of
  rule-tail i h = rw (le-ltb i (whole_records f) h)

  pub kept-by-rule : (i : ℕ) → i < whole_records f → is_kept f i ≡ eqb (rule_after f (last_kept f i) i) 0
  unfolding is_kept
  kept-by-rule i h = rw (rule-whole i h)

  pub kept-tail : (i : ℕ) → whole_records f ≤ i → is_kept f i ≡ false
  unfolding is_kept
  kept-tail i h = rw (rule-tail i h)

  pub whole-record : (i : ℕ) → i < whole_records f → i * record_bytes + record_bytes ≤ length f
  whole-record i h = omega arith

  -- ---- what is kept

  module _ (i : ℕ) (e : is_kept f i ≡ true) where
    pub kept_next : length (kept_in f (i + 1)) ≡ length (kept_in f i) + 1
    kept_next = ap length (those-yes (is_kept f) i e) ∙ length-append (kept_in f i) (i ∷ [])

    pub told_same : told_in f (i + 1) ≡ told_in f i
    told_same = those-no (λ j. not (is_kept f j)) i (rw e)

    pub bytes_next : bytes_kept f (i + 1) ≡ bytes_kept f i ++ record_at f (i * record_bytes)
    bytes_next = joined-next (bytes_of f) i ∙ rw e

  module _ (i : ℕ) (e : is_kept f i ≡ false) where
    pub none_kept : kept_in f (i + 1) ≡ kept_in f i
    none_kept = those-no (is_kept f) i e

    pub told-next : told_in f (i + 1) ≡ told_in f i ++ (i ∷ [])
    told-next = those-yes (λ j. not (is_kept f j)) i (rw e)

    pub told-count : length (told_in f (i + 1)) ≡ length (told_in f i) + 1
    told-count = ap length told-next ∙ length-append (told_in f i) (i ∷ [])

    pub rules-next : rules_told f (i + 1) ≡ rules_told f i ++ (rule_of f i ∷ [])
    rules-next = ap (map (rule_of f)) told-next ∙ map-append (rule_of f) (told_in f i) (i ∷ [])

    pub bytes_same : bytes_kept f (i + 1) ≡ bytes_kept f i
    bytes_same = joined-next (bytes_of f) i ∙ rw e (append-nil (bytes_kept f i))

  pub bytes-size : (n : ℕ) → n ≤ whole_records f → length (bytes_kept f n) ≡ length (kept_in f n) * record_bytes
  unfolding those joined
  bytes-size zero h = refl
  bytes-size (suc n) h = subst (λ (m : ℕ). length (bytes_kept f m) ≡ length (kept_in f m) * record_bytes) (add-one n) (⊎_elim
      (λ e.
      let r = record_at f (n * record_bytes) in
      omega (arith, bytes-size n (omega arith), kept_next n e, ap length (bytes_next n e), length-append (bytes_kept f n) r, copied-size f (n * record_bytes) (whole-record n h)))
      (λ e. omega (arith, bytes-size n (omega arith), ap length (bytes_same n e), ap length (none_kept n e)))
      (two (is_kept f n)))

  pub counts : (n : ℕ) → length (kept_in f n) + length (told_in f n) ≡ n
  counts n = picked-and-left (is_kept f) n

  -- ---- a record that is dropped is told behind the others

  module _ (i : ℕ) (e : is_kept f i ≡ false) (l : List ℕ) (h : i < length l) where
    pub place-told : set (foremost (told_in f i) l) (length (told_in f i)) i ≡ foremost (told_in f (i + 1)) l
    place-told = foremost-put (told_in f i) l i (omega (arith, counts i)) ∙ ap (λ (w : List ℕ). foremost w l) (sym (told-next i e))

    pub rule_told : set (foremost (rules_told f i) l) (length (told_in f i)) (rule_of f i) ≡ foremost (rules_told f (i + 1)) l
    rule_told =
        ap (λ (n : ℕ). set (foremost (rules_told f i) l) n (rule_of f i)) (sym (length-map (rule_of f) (told_in f i)))
        ∙ foremost-put (rules_told f i) l (rule_of f i) (omega (arith, counts i, length-map (rule_of f) (told_in f i)))
        ∙ ap (λ (w : List ℕ). foremost w l) (sym (rules-next i e))

  -- ---- one record more

  together :
      {l l' k k' t t' : ℕ} {g g' p p' r r' : List ℕ} → l ≡ l' → k ≡ k' → t ≡ t' → g ≡ g' → p ≡ p' → r ≡ r'
      → sifting (record { last = l; kept = k; told = t }) g p r ≡ sifting (record { last = l'; kept = k'; told = t' }) g' p' r'
  together a b c d e h = rw (a, b, c, d, e, h)

  module _ (g p r : List ℕ) (i : ℕ) (h : i < whole_records f) where
    abbrev keeps_it : Bool
    keeps_it = eqb (rule_after f (last_kept f i) i) 0

    keeps : keeps_it ≡ true → keep_step f i (sifted_by f i g p r) ≡ sifted_by f (i + 1) g p r
    keeps e =
        let k : is_kept f i ≡ true = kept-by-rule i h ∙ e in
        together
        (sym (last-yes i e))
        (sym (kept_next i k))
        (ap length (sym (told_same i k)))
        (ap (λ (n : ℕ). written (record_at f (i * record_bytes)) n (foremost (bytes_kept f i) g)) (sym (bytes-size i (omega arith)))
        ∙ foremost-copy (bytes_kept f i) g (record_at f (i * record_bytes))
        ∙ ap (λ (w : List ℕ). foremost w g) (sym (bytes_next i k)))
        (ap (λ (w : List ℕ). foremost w p) (sym (told_same i k)))
        (ap (λ (w : List ℕ). foremost (map (rule_of f) w) r) (sym (told_same i k)))

    tells : keeps_it ≡ false → i < length p → i < length r → tell_step i (rule_after f (last_kept f i) i) (sifted_by f i g p r) ≡ sifted_by f (i + 1) g p r
    tells e u v =
        let k : is_kept f i ≡ false = kept-by-rule i h ∙ e in
        together
        (sym (last-no i e))
        (ap length (sym (none_kept i k)))
        (sym (told-count i k))
        (ap (λ (w : List ℕ). foremost w g) (sym (bytes_same i k)))
        (place-told i k p u)
        (ap (λ (x : ℕ). set (foremost (rules_told f i) r) (length (told_in f i)) x) (sym (rule-whole i h)) ∙ rule_told i k r v)

    pub sift-step : i < length p → i < length r → sift_step f i (sifted_by f i g p r) ≡ sifted_by f (i + 1) g p r
    unfolding sift_step
    sift-step u v = by_bool (sift_step f i (sifted_by f i g p r) ≡ sifted_by f (i + 1) g p r) keeps_it (λ e. rw e (keeps e)) (λ e. rw e (tells e u v))

-- ---- the room that the call has found

pub reads_whole : (f : List ℕ) → whole_records f ≤ records_read f
unfolding records_read
reads_whole f = omega arith

pub sift-room : (f g p r : List ℕ) → lacks_room f (length g) (length p) (length r) ≡ false → SiftRoom f g p r
unfolding lacks_room
sift-room f g p r e =
    let n = records_read f in
    let w = whole_records f * record_bytes in
    let short = ltb (length p) n || ltb (length r) n in
    let late = or_right (ltb (length g) w) short e in
    record {
      records = ltb-false (length g) w (or_left (ltb (length g) w) short e);
      places_room = ltb-false (length p) n (or_left (ltb (length p) n) (ltb (length r) n) late);
      rules_room = ltb-false (length r) n (or_right (ltb (length p) n) (ltb (length r) n) late);
    }

-- ---- the loop: i records are sifted

pub record Sifted (f g p r : List ℕ) (i : ℕ) (x : Sifting) : Type 0 where
  pub within : i ≤ whole_records f
  pub good_size : length x.good ≡ length g
  pub places_size : length x.places ≡ length p
  pub rules_size : length x.rules ≡ length r
  pub same : x ≡ sifted_by f i g p r

module _ {f g p r : List ℕ} (room : SiftRoom f g p r) where
  kept-few : (i : ℕ) → i ≤ whole_records f → length (bytes_kept f i) ≤ length g
  kept-few i h = omega (arith, bytes-size f i h, counts f i, room.records)

  told-few : (i : ℕ) → i ≤ whole_records f → length (told_in f i) ≤ length p
  told-few i h = omega (arith, counts f i, room.places_room, reads_whole f)

  rules-few : (i : ℕ) → i ≤ whole_records f → length (rules_told f i) ≤ length r
  rules-few i h = omega (arith, counts f i, room.rules_room, reads_whole f, length-map (rule_of f) (told_in f i))

  sifted-is : (i : ℕ) → i ≤ whole_records f → (x : Sifting) → x ≡ sifted_by f i g p r → Sifted f g p r i x
  sifted-is i h x e = record {
    within = h;
    good_size = ap (λ (y : Sifting). length y.good) e ∙ foremost-size (bytes_kept f i) g (kept-few i h);
    places_size = ap (λ (y : Sifting). length y.places) e ∙ foremost-size (told_in f i) p (told-few i h);
    rules_size = ap (λ (y : Sifting). length y.rules) e ∙ foremost-size (rules_told f i) r (rules-few i h);
    same = e;
  }

  pub sifted-start : Sifted f g p r 0 (sifting (record { last = 0; kept = 0; told = 0 }) g p r)
  unfolding those joined last_kept
  sifted-start = sifted-is 0 (omega arith) (sifting (record { last = 0; kept = 0; told = 0 }) g p r) refl

  module _ {i : ℕ} {x : Sifting} (s : Sifted f g p r i x) (h : i < whole_records f) where
    pub sifted-can : SiftFits f i x
    sifted-can =
        let last : x.counts.last ≡ last_kept f i = ap (λ (y : Sifting). y.counts.last) s.same in
        let kept : x.counts.kept ≡ length (kept_in f i) = ap (λ (y : Sifting). y.counts.kept) s.same in
        let told : x.counts.told ≡ length (told_in f i) = ap (λ (y : Sifting). y.counts.told) s.same in
        record {
          there = whole-record f i h;
          before = omega (arith, last, last_within f i);
          kept_room = omega (arith, kept, counts f i, s.good_size, room.records);
          place_room = omega (arith, told, counts f i, s.places_size, room.places_room, reads_whole f);
          rule_room = omega (arith, told, counts f i, s.rules_size, room.rules_room, reads_whole f);
        }

    pub sifted-next : (y : Sifting) → y ≡ sift_step f i x → Sifted f g p r (i + 1) y
    sifted-next y e =
        sifted-is (i + 1) (omega arith) y
        (e ∙ ap (sift_step f i) s.same ∙ sift-step f g p r i h (omega (arith, room.places_room, reads_whole f)) (omega (arith, room.rules_room, reads_whole f)))

  pub sifted-done : {i : ℕ} {x : Sifting} → Sifted f g p r i x → whole_records f ≤ i → x ≡ sifted_by f (whole_records f) g p r
  sifted-done {i} {x} s h = s.same ∙ ap (λ (n : ℕ). sifted_by f n g p r) (is s.within h)
    where
      is : {i n : ℕ} → i ≤ n → n ≤ i → i ≡ n
      is a b = omega arith

-- ---- the call

module _ (f g p r : List ℕ) where
  pub short-left : lacks_room f (length g) (length p) (length r) ≡ true → salvage_outcome (Err 12) g p r ≡ salvage_of f g p r
  unfolding salvage_of
  short-left e = rw e

  module _ (e : lacks_room f (length g) (length p) (length r) ≡ false) {s : Sift} {g' p' r' : List ℕ} (d : sifting s g' p' r' ≡ sifted_by f (whole_records f) g p r) where
    saved-as :
        (n : ℕ) → records_read f ≡ n → (k t : ℕ) (g'' p'' r'' : List ℕ) → k ≡ length (kept_in f n) → t ≡ length (told_in f n)
        → g'' ≡ foremost (bytes_kept f n) g → p'' ≡ foremost (told_in f n) p → r'' ≡ foremost (rules_told f n) r → salvage_outcome (saved k t) g'' p'' r'' ≡ salvage_of f g p r
    unfolding salvage_of
    saved-as n q k t g'' p'' r'' a b c u v = rw (e, q, a, b, c, u, v)

    pub saved-left : length f % record_bytes ≡ 0 → salvage_outcome (saved s.kept s.told) g' p' r' ≡ salvage_of f g p r
    unfolding records_read
    saved-left z = saved-as (whole_records f) (rw (eq-eqb (length f % record_bytes) 0 z) (omega arith)) s.kept s.told g' p' r'
        (ap (λ (y : Sifting). y.counts.kept) d)
        (ap (λ (y : Sifting). y.counts.told) d)
        (ap (λ (y : Sifting). y.good) d)
        (ap (λ (y : Sifting). y.places) d)
        (ap (λ (y : Sifting). y.rules) d)

    pub tail-left : (length f % record_bytes ≡ 0 → ⊥) → salvage_outcome (saved s.kept (s.told + 1)) g' (set p' s.told (whole_records f)) (set r' s.told tail_rule) ≡ salvage_of f g p r
    unfolding records_read
    tail-left z =
        let w = whole_records f in
        let n : records_read f ≡ w + 1 = rw (ne_eqb (length f % record_bytes) 0 z) in
        let room : SiftRoom f g p r = sift-room f g p r e in
        let k : is_kept f w ≡ false = kept-tail f w (omega arith) in
        let told : s.told ≡ length (told_in f w) = ap (λ (y : Sifting). y.counts.told) d in
        saved-as (w + 1) n s.kept (s.told + 1) g' (set p' s.told w) (set r' s.told tail_rule)
        (ap (λ (y : Sifting). y.counts.kept) d ∙ ap length (sym (none_kept f w k)))
        (ap (λ (y : Sifting). y.counts.told + 1) d ∙ sym (told-count f w k))
        (ap (λ (y : Sifting). y.good) d ∙ ap (λ (b : List ℕ). foremost b g) (sym (bytes_same f w k)))
        (ap (λ (y : Sifting). set y.places y.counts.told w) d ∙ place-told f w k p (omega (arith, n, room.places_room)))
        (ap (λ (y : Sifting). set y.rules y.counts.told tail_rule) d
        ∙ ap (λ (x : ℕ). set (foremost (rules_told f w) r) (length (told_in f w)) x) (sym (rule-tail f w (omega arith)))
        ∙ rule_told f w k r (omega (arith, n, room.rules_room)))

    -- there is a place for the tail
    pub tail-room : (length f % record_bytes ≡ 0 → ⊥) → (s.told < length p') × (s.told < length r')
    unfolding records_read
    tail-room z =
        let w = whole_records f in
        let n : records_read f ≡ w + 1 = rw (ne_eqb (length f % record_bytes) 0 z) in
        let room : SiftRoom f g p r = sift-room f g p r e in
        let t : Sifted f g p r w (sifting s g' p' r') = sifted-is room w (omega arith) (sifting s g' p' r') d in
        let told : s.told ≡ length (told_in f w) = ap (λ (y : Sifting). y.counts.told) d in
        (omega (arith, n, told, counts f w, room.places_room, t.places_size), omega (arith, n, told, counts f w, room.rules_room, t.rules_size))
