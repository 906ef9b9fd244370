-- The bytes that are kept: which record stands where, and that the reader takes them; and the records that stand before the first one that it refuses. Assumes nothing.
use mathlib.Core.Path.{◌≡◌, refl, sym, ap, subst, ◌∙◌}
use mathlib.Core.List.{List, [], ◌++◌, append-nil}
use mathlib.Core.Bool.{Bool, true, false, not, ◌&&◌, true≢false}
use Prim.Native.Nat.{ℕ, zero, suc, ◌+◌, ◌-◌, ◌*◌, ◌%◌, ◌<◌, ◌≤◌}
use native.Mathlib.Omega.{arith}
use native.Mathlib.Nat.{add-zero, le_refl}
use lib.Dec.{eqb, ltb}
use lib.ListN.{length, take}
use lib.Seq.{ext_get_or}
use borrow.Author.Tests.{eq-eqb, ne_eqb, eqb-true, eqb-false, ltb-true, ltb-false}
use Rattle.laws.specs.Area.{num}
use Rattle.laws.specs.Loops.{first}
use Rattle.laws.proofs.Bools.{by_bool, and_left, and_right}
use Rattle.laws.proofs.First.{first_holds, first-before, first-all}
use Rattle.laws.proofs.Joined.{those-below, those-holds, joined_at}
use Rattle.laws.proofs.Laid.{laid-front}
use Rattle.std.specs.Prelude.{Result, Ok, Err}
use Rattle.frames.specs.declared.BadRecord.{BadRecord}
use Rattle.frames.specs.Frames.{bad_place, record_bytes, picture_at, field_at, good_alone, may_follow, in_order, bad_at, whole_records, frames_by, frames_of}
use Rattle.frames.proofs.Fields.{taken-so}
use Rattle.salvage.specs.Salvage.{follows_last, last_kept, is_kept, kept_in, told_in, record_at, bytes_of, bytes_kept, records_read}
use Rattle.salvage.proofs.Foremost.{copied-size, record-byte}
use Rattle.salvage.proofs.Sifted.{kept-tail, whole-record, none_kept, bytes_same, bytes-size, counts}
use Rattle.salvaging.proofs.Picks.{those-count, those-empty}
use Rattle.salvaging.proofs.Alike.{picture-alike, field_alike, alone-alike}
use Rattle.salvaging.proofs.Rules.{kept-by-tests, last-at, next-straight, straight-kept}

module _ (f : List ℕ) where
  abbrev whole : ℕ
  whole = whole_records f

  -- ---- a stray tail

  pub reads-even : length f % record_bytes ≡ 0 → records_read f ≡ whole
  unfolding records_read
  reads-even z = rw (eq-eqb (length f % record_bytes) 0 z) (add-zero whole)

  pub reads-stray : (length f % record_bytes ≡ 0 → ⊥) → records_read f ≡ whole + 1
  unfolding records_read
  reads-stray z = rw (ne_eqb (length f % record_bytes) 0 z)

  -- what holds of the whole records, and of those with the tail, holds of the records read
  by-tail : (P : ℕ → Type 0) → P whole → P (whole + 1) → P (records_read f)
  by-tail P a b = by_bool (P (records_read f)) (eqb (length f % record_bytes) 0)
      (λ e. subst P (sym (reads-even (eqb-true (length f % record_bytes) 0 e))) a)
      (λ e. subst P (sym (reads-stray (eqb-false (length f % record_bytes) 0 e))) b)

  -- it is never kept
  pub all-kept : kept_in f (records_read f) ≡ kept_in f whole
  all-kept = by-tail (λ (n : ℕ). kept_in f n ≡ kept_in f whole) refl (none_kept f whole (kept-tail f whole (le_refl whole)))

  pub all-bytes : bytes_kept f (records_read f) ≡ bytes_kept f whole
  all-bytes = by-tail (λ (n : ℕ). bytes_kept f n ≡ bytes_kept f whole) refl (bytes_same f whole (kept-tail f whole (le_refl whole)))

  pub all-size : length (bytes_kept f (records_read f)) ≡ length (kept_in f (records_read f)) * record_bytes
  all-size = ap length all-bytes ∙ bytes-size f whole (le_refl whole) ∙ ap (λ (w : List ℕ). length w * record_bytes) (sym all-kept)

  -- ---- record j of the kept bytes

  module _ (j : ℕ) (l : j < length (kept_in f whole)) where
    abbrev from : ℕ
    from = num (kept_in f whole) j

    pub from-below : from < whole
    from-below = those-below (is_kept f) whole j l

    pub from-kept : is_kept f from ≡ true
    from-kept = those-holds (is_kept f) whole j l

    starts : length (bytes_kept f from) ≡ j * record_bytes
    starts = bytes-size f from (omega (arith, from-below)) ∙ ap (λ (x : ℕ). x * record_bytes) (those-count (is_kept f) whole j l)

    its-bytes : bytes_of f from ≡ record_at f (from * record_bytes)
    its-bytes = rw from-kept

    out-byte : (r : List ℕ) (t : ℕ) → t < record_bytes → num (bytes_kept f whole ++ r) (j * record_bytes + t) ≡ num f (from * record_bytes + t)
    out-byte r t h =
        let a = whole-record f from from-below in
        ap (λ (x : ℕ). num (bytes_kept f whole ++ r) (x + t)) (sym starts)
        ∙ joined_at (bytes_of f) whole from t r 0 from-below (omega (arith, ap length its-bytes, copied-size f (from * record_bytes) a))
        ∙ ap (λ (w : List ℕ). num w t) its-bytes
        ∙ record-byte f (from * record_bytes) a t h

    byte_of : (t : ℕ) → t < record_bytes → num (bytes_kept f whole) (j * record_bytes + t) ≡ num f (from * record_bytes + t)
    byte_of t h = ap (λ (w : List ℕ). num w (j * record_bytes + t)) (sym (append-nil (bytes_kept f whole))) ∙ out-byte [] t h

    pub out-record : record_at (bytes_kept f whole) (j * record_bytes) ≡ record_at f (from * record_bytes)
    out-record =
        let a : j * record_bytes + record_bytes ≤ length (bytes_kept f whole) = omega (arith, bytes-size f whole (le_refl whole)) in
        let b = whole-record f from from-below in
        let size : length (record_at (bytes_kept f whole) (j * record_bytes)) ≡ record_bytes = copied-size (bytes_kept f whole) (j * record_bytes) a in
        let same : (t : ℕ) → t < record_bytes → num (record_at (bytes_kept f whole) (j * record_bytes)) t ≡ num (record_at f (from * record_bytes)) t =
        λ t h. record-byte (bytes_kept f whole) (j * record_bytes) a t h ∙ byte_of t h ∙ sym (record-byte f (from * record_bytes) b t h)
        in
        ext_get_or 0 (record_at (bytes_kept f whole) (j * record_bytes)) (record_at f (from * record_bytes)) (size ∙ sym (copied-size f (from * record_bytes) b)) (λ t m. same t (omega (arith, size)))

    good-and-follows : good_alone f (from * record_bytes) && follows_last f (last_kept f from) from ≡ true
    good-and-follows = sym (kept-by-tests f from from-below) ∙ from-kept

    out-good : good_alone (bytes_kept f whole) (j * record_bytes) ≡ true
    out-good = alone-alike (bytes_kept f whole) f (j * record_bytes) (from * record_bytes) byte_of ∙ and_left (good_alone f (from * record_bytes))
        (follows_last f (last_kept f from) from) good-and-follows

    out-follows : follows_last f (last_kept f from) from ≡ true
    out-follows = and_right (good_alone f (from * record_bytes)) (follows_last f (last_kept f from) from) good-and-follows

    out-picture : picture_at (bytes_kept f whole) (j * record_bytes) ≡ picture_at f (from * record_bytes)
    out-picture = picture-alike (bytes_kept f whole) f (j * record_bytes) (from * record_bytes) byte_of

    out-field : field_at (bytes_kept f whole) (j * record_bytes) ≡ field_at f (from * record_bytes)
    out-field = field_alike (bytes_kept f whole) f (j * record_bytes) (from * record_bytes) byte_of

  -- after a record that was kept, the order is the reader's
  follows-one : (b i : ℕ) → follows_last f (suc b) i ≡ may_follow (picture_at f (b * record_bytes)) (field_at f (b * record_bytes)) (picture_at f (i * record_bytes)) (field_at f (i * record_bytes))
  unfolding follows_last
  follows-one b i = rw (ne_eqb (suc b) 0 (λ z. omega arith), back b)
    where
      back : (b : ℕ) → suc b - 1 ≡ b
      back b = omega arith

  in-order-next :
      (w : List ℕ) (j : ℕ)
      → in_order w (suc j) ≡ may_follow (picture_at w (j * record_bytes)) (field_at w (j * record_bytes)) (picture_at w (suc j * record_bytes)) (field_at w (suc j * record_bytes))
  unfolding in_order
  in-order-next w j = rw (ne_eqb (suc j) 0 (λ z. omega arith), back j)
    where
      back : (b : ℕ) → suc b - 1 ≡ b
      back b = omega arith

  out-order : (j : ℕ) → j < length (kept_in f whole) → in_order (bytes_kept f whole) j ≡ true
  unfolding in_order
  out-order zero l = refl
  out-order (suc j) l =
      let m : j < length (kept_in f whole) = omega arith in
      in-order-next (bytes_kept f whole) j
      ∙ rw (out-picture j m, out-field j m, out-picture (suc j) l, out-field (suc j) l)
      (sym (follows-one (from j m) (from (suc j) l)) ∙ ap (λ (x : ℕ). follows_last f x (from (suc j) l)) (sym (last-at f whole j (le_refl whole) l)) ∙ out-follows (suc j) l)

  out-fine : (j : ℕ) → j < length (kept_in f whole) → bad_at (bytes_kept f whole) j ≡ false
  unfolding bad_at
  out-fine j l = rw (out-good j l, out-order j l)

  -- the reader takes what is kept
  pub out-taken : frames_of (bytes_kept f whole) ≡ Ok (length (kept_in f whole))
  unfolding frames_of
  out-taken =
      let s : length (bytes_kept f whole) ≡ length (kept_in f whole) * record_bytes = bytes-size f whole (le_refl whole) in
      let c : length (kept_in f whole) ≡ whole_records (bytes_kept f whole) = omega (arith, s) in
      taken-so (bad_at (bytes_kept f whole)) (bytes_kept f whole) (length (kept_in f whole)) (record { count = c; no_tail = omega (arith, s); good = λ i l. out-fine i (omega (arith, c)) })

  -- ---- the records before the first that the reader refuses

  module _ (q : ℕ) (h : q ≤ whole) (good : (i : ℕ) → i < q → bad_at f i ≡ false) where
    pub straight-told : told_in f q ≡ []
    straight-told = those-empty (λ i. not (is_kept f i)) q (λ i l. rw (straight-kept f q h good i l))

    pub straight-bytes : bytes_kept f q ≡ take (q * record_bytes) f
    straight-bytes = sym (laid-front record_bytes (bytes_of f) q f (λ i l. rw (straight-kept f q h good i l)))

    pub straight-count : length (kept_in f q) ≡ q
    straight-count = omega (arith, counts f q, ap length straight-told)

  -- the reader refuses at q: there is a record q, the q before it are good, and it is not kept
  pub record StopsAt (q : ℕ) : Type 0 where
    pub upto : q ≤ whole
    pub is_read : q < records_read f
    pub good-before : (i : ℕ) → i < q → bad_at f i ≡ false
    pub dropped : is_kept f q ≡ false

  abbrev place_or : ℕ → Result ℕ BadRecord → ℕ
  place_or z (Ok n) = z
  place_or z (Err p) = p.place

  abbrev is_taken : Result ℕ BadRecord → Bool
  is_taken (Ok n) = true
  is_taken (Err p) = false

  module _ (q : ℕ) (e : frames_of f ≡ Err (bad_place q)) where
    abbrev first_one : ℕ
    first_one = first (bad_at f) whole

    refused-in : first_one < whole → q ≡ first_one → StopsAt q
    refused-in l s =
        let up : q ≤ whole = omega arith in
        let before : (i : ℕ) → i < q → bad_at f i ≡ false = λ i m. first-before (bad_at f) whole i (omega arith) in
        let bad : bad_at f q ≡ true = subst (λ (x : ℕ). bad_at f x ≡ true) (sym s) (first_holds (bad_at f) whole l) in
        record {
          upto = up;
          is_read = by-tail (λ (n : ℕ). q < n) (omega arith) (omega arith);
          good-before = before;
          dropped = next-straight f q up before q (le_refl q) (omega arith) ∙ rw bad;
        }

    refused-tail : whole ≤ first_one → (length f % record_bytes ≡ 0 → ⊥) → q ≡ whole → StopsAt q
    refused-tail l z s = subst StopsAt (sym s) (record {
      upto = le_refl whole;
      is_read = omega (arith, reads-stray z);
      good-before = first-all (bad_at f) whole l;
      dropped = kept-tail f whole (le_refl whole);
    })

    pub refused-at : StopsAt q
    unfolding frames_of
    refused-at = go (ltb first_one whole) refl (eqb (length f % record_bytes) 0) refl
      where
        place : (x : ℕ) → frames_by (bad_at f) f ≡ Err (bad_place x) → q ≡ x
        place x h = ap (place_or 0) (sym e ∙ h)

        go : (a : Bool) → ltb first_one whole ≡ a → (b : Bool) → eqb (length f % record_bytes) 0 ≡ b → StopsAt q
        go true u b v = refused-in (ltb-true first_one whole u) (place first_one (rw u))
        go false u true v = absurd (true≢false (ap is_taken (sym (taken u v) ∙ e)))
          where
            taken : ltb first_one whole ≡ false → eqb (length f % record_bytes) 0 ≡ true → frames_by (bad_at f) f ≡ Ok whole
            taken u v = rw (u, v)
        go false u false v = refused-tail (ltb-false first_one whole u) (eqb-false (length f % record_bytes) 0 v) (place whole (rw (u, v)))
