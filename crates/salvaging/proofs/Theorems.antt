-- What holds of every frame file that is salvaged: of a call that is refused, and of one that is not. Nothing is assumed but what a theorem names.
use mathlib.Core.Path.{◌≡◌, refl, sym, ap, subst, ◌∙◌}
use mathlib.Core.Logic.{◌⊎◌, inl, inr, ⊎_elim}
use mathlib.Core.List.{List, []}
use mathlib.Core.Bool.{Bool, true, false, not, ◌||◌, true≢false}
use Prim.Native.Nat.{ℕ, ◌+◌, ◌*◌, ◌%◌, ◌<◌, ◌≤◌}
use native.Mathlib.Omega.{arith}
use native.Mathlib.Nat.{le_refl}
use lib.Dec.{eqb, ltb}
use lib.ListN.{get_or-append, length, take, drop}
use lib.Seq.{take_at, drop_at, take_all, take-append-le}
use borrow.Author.Tests.{lt-ltb, ltb-true, eqb-true, eqb-false, not-true}
use Rattle.laws.specs.Area.{num}
use Rattle.laws.proofs.Bools.{two, by_bool, or_yes}
use Rattle.laws.proofs.Joined.{those-at, those-below, those-holds, those-rise, length-map, get_or-map-in, joined-mono}
use Rattle.std.specs.Prelude.{Result, Ok, Err}
use Rattle.frames.specs.declared.BadRecord.{BadRecord}
use Rattle.frames.specs.Frames.{bad_place, record_bytes, bad_at, whole_records, frames_of}
use Rattle.frames.proofs.Fields.{Taken, taken_is}
use Rattle.std.specs.Prelude.{Result, Ok, Err}
use Rattle.salvage.specs.declared.Saved.{Saved}
use Rattle.salvage.specs.Salvage.{tail_rule, rule_of, is_kept, kept_in, told_in, rules_told, record_at, bytes_of, bytes_kept}
use Rattle.salvage.specs.Salvage.{records_read, lacks_room, foremost, SalvageOutcome, saved, salvage_outcome, salvage_of}
use Rattle.salvage.specs.Steps.{SiftRoom}
use Rattle.salvage.proofs.Foremost.{foremost-size}
use Rattle.salvage.proofs.Sifted.{rule-tail, bytes-size, counts, short-left, sift-room}
use Rattle.salvaging.specs.Broken.{tests_of, FirstFails, LastBefore, AreaShort, KeptAs}
use Rattle.salvaging.proofs.Picks.{joined-front}
use Rattle.salvaging.proofs.Rules.{first-broken}
use Rattle.salvaging.proofs.Output.{reads-even, reads-stray, all-kept, all-bytes, all-size, from-below, from-kept, out-record, out-taken}
use Rattle.salvaging.proofs.Output.{straight-told, straight-bytes, straight-count, StopsAt, refused-at}

-- ---- the refusal

abbrev is_saved : Result Saved ℕ → Bool
is_saved (Ok s) = true
is_saved (Err k) = false

abbrev count_kept : Result Saved ℕ → ℕ
count_kept (Ok s) = s.kept
count_kept (Err k) = 0

abbrev count_told : Result Saved ℕ → ℕ
count_told (Ok s) = s.told
count_told (Err k) = 0

module _ (f g p r : List ℕ) where
  abbrev is_short : Bool
  is_short = lacks_room f (length g) (length p) (length r)

  short-if : AreaShort f (length g) (length p) (length r) → is_short ≡ true
  unfolding lacks_room
  short-if (inl a) = rw (lt-ltb (length g) (whole_records f * record_bytes) a)
  short-if (inr (inl b)) =
      or_yes (ltb (length g) (whole_records f * record_bytes)) (ltb (length p) (records_read f) || ltb (length r) (records_read f))
      (rw (lt-ltb (length p) (records_read f) b))
  short-if (inr (inr c)) =
      or_yes (ltb (length g) (whole_records f * record_bytes)) (ltb (length p) (records_read f) || ltb (length r) (records_read f))
      (or_yes (ltb (length p) (records_read f)) (ltb (length r) (records_read f)) (lt-ltb (length r) (records_read f) c))

  short-then : is_short ≡ true → AreaShort f (length g) (length p) (length r)
  unfolding lacks_room
  short-then e =
      let w = whole_records f * record_bytes in
      let n = records_read f in
      by_bool (AreaShort f (length g) (length p) (length r)) (ltb (length g) w)
      (λ a. inl (ltb-true (length g) w a))
      (λ a. inr (by_bool ((length p < n) ⊎ (length r < n)) (ltb (length p) n) (λ b. inl (ltb-true (length p) n b)) (λ b. inr (ltb-true (length r) n (rw (a, b) at e)))))

  -- what the first n records leave, as an outcome
  abbrev saved_by : ℕ → SalvageOutcome
  saved_by n = salvage_outcome (saved (length (kept_in f n)) (length (told_in f n))) (foremost (bytes_kept f n) g) (foremost (told_in f n) p) (foremost (rules_told f n) r)

  roomy-saves : is_short ≡ false → salvage_of f g p r ≡ saved_by (records_read f)
  unfolding salvage_of
  roomy-saves e = rw e

  refused-then : (salvage_of f g p r).answer ≡ Err 12 → is_short ≡ true
  refused-then e = by_bool (is_short ≡ true) is_short (λ b. b) (λ b. absurd (true≢false (ap (λ (o : SalvageOutcome). is_saved o.answer) (sym (roomy-saves b)) ∙ ap is_saved e)))

  -- 12 exactly where an area is too short
  pub refused-where-short : (salvage_of f g p r).answer ≡ Err 12 → AreaShort f (length g) (length p) (length r)
  refused-where-short e = short-then (refused-then e)

  pub short-is-refused : AreaShort f (length g) (length p) (length r) → (salvage_of f g p r).answer ≡ Err 12
  short-is-refused s = ap (λ (o : SalvageOutcome). o.answer) (sym (short-left f g p r (short-if s)))

  -- and then nothing is changed
  pub short-changes-nothing : (salvage_of f g p r).answer ≡ Err 12 → salvage_of f g p r ≡ salvage_outcome (Err 12) g p r
  short-changes-nothing e = sym (short-left f g p r (refused-then e))

  -- ---- a call that is not refused keeps k records and tells t

  module _ (k t : ℕ) (e : (salvage_of f g p r).answer ≡ saved k t) where
    abbrev read : ℕ
    read = records_read f

    abbrev left : SalvageOutcome
    left = salvage_of f g p r

    roomy : is_short ≡ false
    roomy = by_bool (is_short ≡ false) is_short (λ b. absurd (true≢false (ap is_saved (sym e) ∙ ap (λ (o : SalvageOutcome). is_saved o.answer) (sym (short-left f g p r b))))) (λ b. b)

    is : left ≡ saved_by read
    is = roomy-saves roomy

    k-is : k ≡ length (kept_in f read)
    k-is = ap count_kept (sym e) ∙ ap (λ (o : SalvageOutcome). count_kept o.answer) is

    t-is : t ≡ length (told_in f read)
    t-is = ap count_told (sym e) ∙ ap (λ (o : SalvageOutcome). count_told o.answer) is

    good-is : left.good ≡ foremost (bytes_kept f read) g
    good-is = ap (λ (o : SalvageOutcome). o.good) is

    places_is : left.places ≡ foremost (told_in f read) p
    places_is = ap (λ (o : SalvageOutcome). o.places) is

    rules-is : left.rules ≡ foremost (rules_told f read) r
    rules-is = ap (λ (o : SalvageOutcome). o.rules) is

    room : SiftRoom f g p r
    room = sift-room f g p r roomy

    size : length (bytes_kept f read) ≡ k * record_bytes
    size = all-size f ∙ ap (λ (x : ℕ). x * record_bytes) (sym k-is)

    rules-count : length (rules_told f read) ≡ t
    rules-count = length-map (rule_of f) (told_in f read) ∙ sym t-is

    -- kept and told come to the records read, the tail counted
    pub kept-and-told : k + t ≡ records_read f
    kept-and-told = omega (arith, k-is, t-is, counts f read)

    -- the output: the bytes of the kept records
    abbrev pub output : List ℕ
    output = take (k * record_bytes) left.good

    output-is : output ≡ bytes_kept f (whole_records f)
    output-is = ap (take (k * record_bytes)) good-is ∙ take_at (bytes_kept f read) (drop (length (bytes_kept f read)) g) (k * record_bytes) size ∙ all-bytes f

    -- it is a file that the reader takes
    pub output-taken : frames_of output ≡ Ok k
    output-taken = ap frames_of output-is ∙ out-taken f ∙ ap Ok (sym (k-is ∙ ap length (all-kept f)))

    -- ---- what lies past is kept

    pub output-tail-kept : drop (k * record_bytes) left.good ≡ drop (k * record_bytes) g
    output-tail-kept = ap (drop (k * record_bytes)) good-is ∙ drop_at (bytes_kept f read) (drop (length (bytes_kept f read)) g) (k * record_bytes) size ∙ ap (λ (x : ℕ). drop x g) size

    pub places-tail-kept : drop t left.places ≡ drop t p
    places-tail-kept = ap (drop t) places_is ∙ drop_at (told_in f read) (drop (length (told_in f read)) p) t (sym t-is) ∙ ap (λ (x : ℕ). drop x p) (sym t-is)

    pub rules-tail-kept : drop t left.rules ≡ drop t r
    rules-tail-kept = ap (drop t) rules-is ∙ drop_at (rules_told f read) (drop (length (rules_told f read)) r) t rules-count ∙ ap (λ (x : ℕ). drop x r) rules-count

    pub areas-keep-their-sizes : (length left.good ≡ length g) × (length left.places ≡ length p) × (length left.rules ≡ length r)
    areas-keep-their-sizes = (
      ap length good-is ∙ foremost-size (bytes_kept f read) g (omega (arith, size, k-is, ap length (all-kept f), counts f (whole_records f), room.records)),
      ap length places_is ∙ foremost-size (told_in f read) p (omega (arith, counts f read, room.places_room)),
      ap length rules-is ∙ foremost-size (rules_told f read) r (omega (arith, rules-count, t-is, counts f read, room.rules_room)),
    )

    -- ---- the told records

    place_at : (s : ℕ) → s < t → num left.places s ≡ num (told_in f read) s
    place_at s l = ap (λ (w : List ℕ). num w s) places_is ∙ get_or-append (told_in f read) (drop (length (told_in f read)) p) 0 s (omega (arith, t-is))

    rule-at : (s : ℕ) → s < t → num left.rules s ≡ rule_of f (num left.places s)
    rule-at s l =
        ap (λ (w : List ℕ). num w s) rules-is
        ∙ get_or-append (rules_told f read) (drop (length (rules_told f read)) r) 0 s (omega (arith, rules-count))
        ∙ get_or-map-in (rule_of f) (told_in f read) s 0 0 (omega (arith, t-is))
        ∙ ap (rule_of f) (sym (place_at s l))

    pub told-places-rise : (s u : ℕ) → s < u → u < t → num left.places s < num left.places u
    told-places-rise s u l m = omega (arith, place_at s (omega arith), place_at u m, those-rise (λ i. not (is_kept f i)) read s u l (omega (arith, t-is)))

    -- each is a record read that is not kept
    pub told-is-dropped : (s : ℕ) → s < t → (num left.places s < records_read f) × (is_kept f (num left.places s) ≡ false)
    told-is-dropped s l = (
      omega (arith, place_at s l, those-below (λ i. not (is_kept f i)) read s (omega (arith, t-is))),
      ap (is_kept f) (place_at s l) ∙ not-true (is_kept f (num (told_in f read) s)) (those-holds (λ i. not (is_kept f i)) read s (omega (arith, t-is))),
    )

    -- its rule is the first that it breaks: those before pass, and it fails
    pub told-rule-is-first-broken :
        (s m : ℕ) → s < t → num left.places s < whole_records f → LastBefore f (num left.places s) m
        → FirstFails (tests_of f m (num left.places s)) (num left.rules s)
    told-rule-is-first-broken s m l h b =
        let i = num left.places s in
        subst (FirstFails (tests_of f m i)) (sym (rule-at s l)) (first-broken f i m h b (told-is-dropped s l).1)

    -- past the whole records there is the stray tail alone, told as such
    pub told-tail : (s : ℕ) → s < t → whole_records f ≤ num left.places s → (num left.places s ≡ whole_records f) × (num left.rules s ≡ tail_rule) × (length f % record_bytes ≡ 0 → ⊥)
    told-tail s l h = (
      by_bool (num left.places s ≡ whole_records f) (eqb (length f % record_bytes) 0) (λ b. absurd (even (b-even b))) (λ b. omega (arith, (told-is-dropped s l).0, reads-stray f (b-stray b))),
      rule-at s l ∙ rule-tail f (num left.places s) h,
      even,
    )
      where
        even : length f % record_bytes ≡ 0 → ⊥
        even z = omega (arith, (told-is-dropped s l).0, reads-even f z)

        b-even : eqb (length f % record_bytes) 0 ≡ true → length f % record_bytes ≡ 0
        b-even b = eqb-true (length f % record_bytes) 0 b

        b-stray : eqb (length f % record_bytes) 0 ≡ false → length f % record_bytes ≡ 0 → ⊥
        b-stray b = eqb-false (length f % record_bytes) 0 b

    -- ---- each record is kept or told

    -- record j of the output is a kept record of the file, the one at place j among those kept, with its bytes
    pub output-record : (j : ℕ) → j < k → (is_kept f (num (kept_in f (records_read f)) j) ≡ true) × KeptAs f output (num (kept_in f (records_read f)) j) j
    output-record j l =
        let w = whole_records f in
        let few : j < length (kept_in f w) = omega (arith, k-is, ap length (all-kept f)) in
        let same : record_at output (j * record_bytes) ≡ record_at f (num (kept_in f w) j * record_bytes) = ap (λ (v : List ℕ). record_at v (j * record_bytes)) output-is ∙ out-record f j few in
        subst (λ (v : List ℕ). (is_kept f (num v j) ≡ true) × KeptAs f output (num v j) j) (sym (all-kept f)) (from-kept f j few, record { is_whole = from-below f j few; same_bytes = same })

    -- a kept one stands in the output, behind the kept ones before it
    pub kept-stands : (i : ℕ) → i < records_read f → is_kept f i ≡ true → (length (kept_in f i) < k) × KeptAs f output i (length (kept_in f i))
    kept-stands i h b =
        let j = length (kept_in f i) in
        let a = those-at (is_kept f) read i h b in
        let few : j < k = omega (arith, a.0, k-is) in
        (few, subst (λ (x : ℕ). KeptAs f output x j) a.1 (output-record j few).1)

    -- a dropped one is told, behind the told ones before it
    pub dropped-is-told : (i : ℕ) → i < records_read f → is_kept f i ≡ false → (length (told_in f i) < t) × (num left.places (length (told_in f i)) ≡ i)
    dropped-is-told i h b =
        let a = those-at (λ j. not (is_kept f j)) read i h (rw b) in
        (omega (arith, a.0, t-is), place_at (length (told_in f i)) (omega (arith, a.0, t-is)) ∙ a.1)

    -- each record read is the one or the other
    pub kept-or-told :
        (i : ℕ) → i < records_read f
        → ((is_kept f i ≡ true) × (length (kept_in f i) < k) × KeptAs f output i (length (kept_in f i)))
        ⊎ ((is_kept f i ≡ false) × (length (told_in f i) < t) × (num left.places (length (told_in f i)) ≡ i))
    kept-or-told i h = ⊎_elim (λ b. inl (b, (kept-stands i h b).0, (kept-stands i h b).1)) (λ b. inr (b, (dropped-is-told i h b).0, (dropped-is-told i h b).1)) (two (is_kept f i))

    -- ---- what the reader refuses at q: the q records before it stand first, and q is told first

    pub refused-told-first : (q : ℕ) → frames_of f ≡ Err (bad_place q) → (q ≤ k) × (take (q * record_bytes) left.good ≡ take (q * record_bytes) f) × (0 < t) × (num left.places 0 ≡ q)
    refused-told-first q d =
        let s : StopsAt f q = refused-at f q d in
        let bytes : bytes_kept f q ≡ take (q * record_bytes) f = straight-bytes f q s.upto s.good-before in
        let none : length (told_in f q) ≡ 0 = ap length (straight-told f q s.upto s.good-before) in
        let long : length (bytes_kept f q) ≡ q * record_bytes = bytes-size f q s.upto ∙ ap (λ (x : ℕ). x * record_bytes) (straight-count f q s.upto s.good-before) in
        let grow : length (bytes_kept f q) ≤ length (bytes_kept f read) = joined-mono (bytes_of f) q read (omega (arith, s.is_read)) in
        let told = dropped-is-told q s.is_read s.dropped in (
          omega (arith, long, grow, size),
          ap (take (q * record_bytes)) good-is
              ∙ take-append-le (q * record_bytes) (bytes_kept f read) (drop (length (bytes_kept f read)) g) (omega (arith, long, grow))
              ∙ ap (λ (x : ℕ). take x (bytes_kept f read)) (sym long)
              ∙ joined-front (bytes_of f) q read (omega (arith, s.is_read))
              ∙ bytes,
          omega (arith, told.0),
          ap (num left.places) (sym none) ∙ told.1,
        )

  -- the kept ones stand in their order
  pub kept-in-order : (i j : ℕ) → i < j → is_kept f i ≡ true → length (kept_in f i) < length (kept_in f j)
  kept-in-order i j l b = (those-at (is_kept f) j i l b).0

  -- ---- a good file comes through unchanged, with nothing told

  pub good-file-unchanged : (n : ℕ) → frames_of f ≡ Ok n → is_short ≡ false → salvage_of f g p r ≡ salvage_outcome (saved n 0) (foremost f g) p r
  unfolding frames_of
  good-file-unchanged n d e =
      let s : Taken (bad_at f) f n = taken_is (bad_at f) f n d in
      let w = whole_records f in
      let whole : records_read f ≡ w = reads-even f s.no_tail in
      let none : told_in f w ≡ [] = straight-told f w (le_refl w) s.good in
      let bytes : bytes_kept f w ≡ f = straight-bytes f w (le_refl w) s.good ∙ take_all (w * record_bytes) f (omega (arith, s.no_tail)) in
      let count : length (kept_in f w) ≡ n = straight-count f w (le_refl w) s.good ∙ sym s.count in
      roomy-saves e ∙ rw (whole, none, bytes, count)

  -- and only a good file has nothing told
  pub nothing-told-is-good : (k : ℕ) → (salvage_of f g p r).answer ≡ saved k 0 → frames_of f ≡ Ok k
  nothing-told-is-good k e = go (frames_of f) refl
    where
      go : (x : Result ℕ BadRecord) → frames_of f ≡ x → frames_of f ≡ Ok k
      go (Ok n) d = d ∙ ap (λ (a : Result Saved ℕ). Ok (count_kept a)) (ap (λ (o : SalvageOutcome). o.answer) (sym (good-file-unchanged n d (roomy k 0 e))) ∙ e)
      go (Err q) d = absurd (omega (arith, (refused-told-first k 0 e q.place d).2))

-- salvaging the output again changes nothing: the same bytes, and nothing told
pub output-unchanged :
    (f g p r : List ℕ) (k t : ℕ) (e : (salvage_of f g p r).answer ≡ saved k t) (g' p' r' : List ℕ)
    → lacks_room (output f g p r k t e) (length g') (length p') (length r') ≡ false
    → salvage_of (output f g p r k t e) g' p' r' ≡ salvage_outcome (saved k 0) (foremost (output f g p r k t e) g') p' r'
output-unchanged f g p r k t e g' p' r' h = good-file-unchanged (output f g p r k t e) g' p' r' k (output-taken f g p r k t e) h
